-- A plan without faults is that of a railway.
use Rattle.std.proofs.Common.{◌≡◌, ℕ, ◌+◌, ◌*◌, ◌<◌, ◌≤◌, ◌&&◌, Bool, true, false, not, List, [], ◌∷◌, Option, Some, None, length, map, zero, suc, refl, ap, sym, subst, ◌∙◌, arith}
use Rattle.std.proofs.lemmas.Bool.{and_from, and_parts, le-leb, leb-true, lt-ltb, ltb-true}
use Rattle.std.proofs.lemmas.List.{length-map}
use Rattle.std.specs.List.{list_all, slice_index_or}
use Rattle.std.specs.Option.{option_map, option_or}
use Rattle.std.specs.Prelude.{if◌then◌else◌, is_some, IsTrue, nat_le, nat_lt, slice_get}
use Rattle.decoder_node.specs.declared.node.NodeSpec.{NodeSpec}
use Rattle.motion.specs.Velocity.{is_momentum}
use Rattle.railway.specs.declared.block.Block.{Block}
use Rattle.railway.specs.declared.block.BlockEnd.{BlockEnd}
use Rattle.railway.specs.declared.block.End.{End}
use Rattle.railway.specs.declared.block.End.TheVariants.{A, B}
use Rattle.railway.specs.declared.fault.Part.TheVariants.{Joint as JointPart, Turnout as TurnoutPart, Train as TrainPart}
use Rattle.railway.specs.declared.fault.PlanFault.{PlanFault}
use Rattle.railway.specs.declared.fault.PlanFault.TheVariants.{BlockLength, NameTwice, Sensor, SensorTwice, UnknownBlock, EndTwice, UnknownDecoder, DecoderTwice, TrainLength, Momentum, OffTrack, LongTrain}
use Rattle.railway.specs.declared.joint.Joint.{Joint}
use Rattle.railway.specs.declared.joint.Turnout.{Turnout}
use Rattle.railway.specs.declared.plan.Plan.{Plan}
use Rattle.railway.specs.declared.train.Place.{Place}
use Rattle.railway.specs.declared.train.Position.{Position}
use Rattle.railway.specs.declared.train.Train.{Train}
use Rattle.railway.specs.declared.train.TrainState.{TrainState}
use Rattle.railway.specs.Blocks.{are_distinct, default_block, is_block, is_block_sensor, is_free, is_length}
use Rattle.railway.specs.Ends.{are_apart, ends_of, has_end, is_joint, is_turnout, named_twice}
use Rattle.railway.specs.Decoders.{is_loco}
use Rattle.railway.specs.Faults.{block_behind, fault_of_block, fault_of_blocks, fault_of_joints, fault_of_motors, fault_of_track, fault_of_train, fault_of_trains, fault_of_turnouts, has_decoder, is_renamed, unless}
use Rattle.railway.specs.Network.{Network, are_few, is_sound, marked, spans, turnouts_of, way_on}
use Rattle.railway.specs.Placement.{back_of, front_at, front_of, has_front, is_front, is_in_block, is_room, place_or, span_of, state_of_train, state_to}
use Rattle.railway.specs.Places.{is_on_track, turned_place}
use Rattle.railway.specs.Railway.{is_train}
use Rattle.railway.specs.Turnouts.{network_of, state_of_turnout}
use Rattle.railway.proofs.Keeping.{marked-whole, spans-spanned, train-from, way-spans}
use Rattle.railway.proofs.Riding.{movable-from}
use Rattle.railway.proofs.Slow.{slow-from}
use Rattle.railway.specs.Passing.{passes_none}
use Rattle.railway.proofs.Turning.{on_track-from, turned-turned, way-back, way-on_track}

pub or-none : (one two : Option PlanFault) → option_or one two ≡ None → (one ≡ None) × (two ≡ None)
or-none None two h = (refl, h)
or-none (Some fault) two h = cc

unless-none : (b : Bool) (fault : PlanFault) → unless b fault ≡ None → b ≡ true
unless-none true fault h = refl
unless-none false fault h = cc

-- Blocks, joints and turnouts.

sound_blocks : (i : ℕ) (blocks : List Block) → fault_of_blocks i blocks ≡ None → (list_all is_block blocks ≡ true) × (are_distinct blocks ≡ true)
sound_blocks i [] h = (refl, refl)
sound_blocks i (block ∷ blocks) h =
    let all = or-none (fault_of_block i block blocks) (fault_of_blocks (i + 1) blocks) h in
    let first = or-none (unless (is_length block.length) (BlockLength i)) _ all.0 in
    let second = or-none (unless (not (is_renamed block blocks)) (NameTwice i)) _ first.1 in
    let third = or-none (unless (is_block_sensor block.sensor) (Sensor i)) (unless (is_free block.sensor blocks) (SensorTwice i)) second.1 in
    let rest = sound_blocks (i + 1) blocks all.1 in (
      and_from (is_block block) (list_all is_block blocks) (and_from (is_length block.length) (is_block_sensor block.sensor) (unless-none _ _ first.0) (unless-none _ _ third.0)) rest.0,
      and_from (is_free block.sensor blocks) (are_distinct blocks) (unless-none _ _ third.1) rest.1,
    )

sound_joints : (n i : ℕ) (joints : List Joint) → fault_of_joints n i joints ≡ None → list_all (is_joint n) joints ≡ true
sound_joints n i [] h = refl
sound_joints n i (joint ∷ joints) h =
    let all = or-none (unless (is_joint n joint) (UnknownBlock (JointPart i))) (fault_of_joints n (i + 1) joints) h in
    and_from (is_joint n joint) (list_all (is_joint n) joints) (unless-none _ _ all.0) (sound_joints n (i + 1) joints all.1)

sound_turnouts : (n i : ℕ) (turnouts : List Turnout) → fault_of_turnouts n i turnouts ≡ None → list_all (is_turnout n) turnouts ≡ true
sound_turnouts n i [] h = refl
sound_turnouts n i (turnout ∷ turnouts) h =
    let all = or-none (unless (is_turnout n turnout) (UnknownBlock (TurnoutPart i))) (fault_of_turnouts n (i + 1) turnouts) h in
    and_from (is_turnout n turnout) (list_all (is_turnout n) turnouts) (unless-none _ _ all.0) (sound_turnouts n (i + 1) turnouts all.1)

none-twice : (b : Bool) (end : BlockEnd) (rest : Option BlockEnd) → option_map EndTwice (if b then Some end else rest) ≡ None → (not b ≡ true) × (option_map EndTwice rest ≡ None)
none-twice true end rest h = cc
none-twice false end rest h = (refl, h)

sound_ends : (ends : List BlockEnd) → option_map EndTwice (named_twice ends) ≡ None → are_apart ends ≡ true
sound_ends [] h = refl
sound_ends (end ∷ ends) h =
    let parts = none-twice (has_end end ends) end (named_twice ends) h in
    and_from (not (has_end end ends)) (are_apart ends) parts.0 (sound_ends ends parts.1)

turnouts-of-states : (specs : List NodeSpec) (turnouts : List Turnout) → turnouts_of (map (state_of_turnout specs) turnouts) ≡ turnouts
turnouts-of-states specs [] = refl
turnouts-of-states specs (turnout ∷ turnouts) = ap (λ (rest : List Turnout). turnout ∷ rest) (turnouts-of-states specs turnouts)

-- A train whose front is in its block.

front-within : (length at : ℕ) (facing : End) → is_front length at facing ≡ true → front_at facing at < length * 1000000000000
front-within length at A h = let less : at < length = ltb-true at length h in omega (arith, less)
front-within length at B h =
    let parts = and_parts (nat_le 1 at) (nat_le at length) h in
    let one : 1 ≤ at = leb-true 1 at parts.0 in
    let most : at ≤ length = leb-true at length parts.1 in
    omega (arith, one, most)

front-most : (length at : ℕ) (facing : End) → is_front length at facing ≡ true → at ≤ length
front-most length at A h = let less : at < length = ltb-true at length h in omega (arith, less)
front-most length at B h = leb-true at length (and_parts (nat_le 1 at) (nat_le at length) h).1

pub front-on_track : (blocks : List Block) (position : Position) → position.block < length blocks → has_front blocks position ≡ true → is_on_track blocks (front_of position) ≡ true
front-on_track blocks position h g =
    on_track-from blocks (front_of position) h (front-within (slice_index_or blocks position.block default_block).length position.at position.facing g)

-- a block is at most 100 metres long
block-length : (blocks : List Block) (i : ℕ) → list_all is_block blocks ≡ true → (slice_index_or blocks i default_block).length ≤ 100000
block-length [] i h = omega arith
block-length (block ∷ blocks) zero h =
    let parts = and_parts (is_block block) (list_all is_block blocks) h in
    let length = (and_parts (is_length block.length) (is_block_sensor block.sensor) parts.0).0 in
    leb-true block.length 100000 (and_parts (nat_le 1 block.length) (nat_le block.length 100000) length).1
block-length (block ∷ blocks) (suc i) h = block-length blocks i (and_parts (is_block block) (list_all is_block blocks) h).1

-- so a front in it is no further from end A
pub front-small : (blocks : List Block) (position : Position) → list_all is_block blocks ≡ true → has_front blocks position ≡ true → position.at ≤ 100000
front-small blocks position h g =
    let most : position.at ≤ (slice_index_or blocks position.block default_block).length = front-most (slice_index_or blocks position.block default_block).length position.at position.facing g in
    let length : (slice_index_or blocks position.block default_block).length ≤ 100000 = block-length blocks position.block h in
    omega (arith, most, length)

-- A train whose track is as long behind it.

some-back : (found : Option Place) → is_some found ≡ true → (back : Place) × (found ≡ Some back)
some-back None h = cc
some-back (Some back) h = (back, refl)

-- a train of a plan passes none of the blocks unseen
abbrev pub passes_train : List Block → Train → Bool
passes_train blocks train = passes_none blocks train.top train.length

pub placed-train : (n : Network) (train : Train) → IsTrue (is_sound n) → train.position.block < length n.blocks → nat_le 1 train.length ≡ true → is_momentum train.momentum ≡ true
    → has_front n.blocks train.position ≡ true → is_room n train ≡ true → passes_train n.blocks train ≡ true → is_train n (state_of_train n train) ≡ true
placed-train n train sound block size rates front room passes =
    let start : Place = front_of train.position in
    let found = some-back (back_of n train) room in
    let back = found.0 in
    let on_start : is_on_track n.blocks start ≡ true = front-on_track n.blocks train.position block front in
    let on_back : is_on_track n.blocks back ≡ true = way-on_track n (turned_place start) back (span_of train) sound on_start found.1 in
    let there : TrainState = state_to train back in
    let way : way_on n (turned_place back) (span_of train) ≡ Some start =
    way-back n (turned_place start) back (span_of train) sound on_start found.1 ∙ ap (λ (p : Place). Some p) (turned-turned start) in
    let spanned : spans n there ≡ true = way-spans n there way in
    let is : is_train n (marked n there) ≡ true =
    train-from n (marked n there) size (and_from (is_on_track n.blocks start) (is_on_track n.blocks back) on_start on_back) (marked-whole n there (spans-spanned n there spanned))
    (movable-from (marked n there) (record { slow = omega arith; rates = rates }))
    (slow-from n.blocks (marked n there) (record { speed = omega arith; passes = passes })) in
    subst (λ (found : Option Place). is_train n (marked n (state_to train (place_or (turned_place start) found))) ≡ true) (sym found.1) is

-- what is right of a train
record NoFault (n : Network) (train : Train) : Type 0 where
  block : train.position.block < length n.blocks
  size : nat_le 1 train.length ≡ true
  rates : is_momentum train.momentum ≡ true
  front : has_front n.blocks train.position ≡ true
  room : is_room n train ≡ true

no-fault : (specs : List NodeSpec) (n : Network) (i : ℕ) (train : Train) (rest : List Train) → fault_of_train specs n i train rest ≡ None → NoFault n train
no-fault specs n i train rest h =
    let first = or-none (unless (is_loco (slice_get specs train.decoder)) (UnknownDecoder (TrainPart i))) _ h in
    let again = or-none (unless (not (has_decoder train.decoder rest)) (DecoderTwice i)) _ first.1 in
    let second = or-none (unless (nat_lt train.position.block (length n.blocks)) (UnknownBlock (TrainPart i))) _ again.1 in
    let third = or-none (unless (nat_le 1 train.length) (TrainLength i)) _ second.1 in
    let fourth = or-none (unless (is_momentum train.momentum) (Momentum i)) _ third.1 in
    let fifth = or-none (unless (has_front n.blocks train.position) (OffTrack i)) (unless (is_room n train) (LongTrain i train.decoder (block_behind n train).name)) fourth.1 in
    record {
      block = ltb-true train.position.block (length n.blocks) (unless-none _ _ second.0);
      size = unless-none _ _ third.0;
      rates = unless-none _ _ fourth.0;
      front = unless-none _ _ fifth.0;
      room = unless-none _ _ fifth.1;
    }

pub sound_trains : (specs : List NodeSpec) (n : Network) (i : ℕ) (trains : List Train) → IsTrue (is_sound n) → fault_of_trains specs n i trains ≡ None → list_all (passes_train n.blocks) trains ≡ true → list_all (is_train n) (map (state_of_train n) trains) ≡ true
sound_trains specs n i [] sound h slow = refl
sound_trains specs n i (train ∷ trains) sound h slow =
    let all = or-none (fault_of_train specs n i train trains) (fault_of_trains specs n (i + 1) trains) h in
    let is = no-fault specs n i train trains all.0 in
    let passes = and_parts (passes_train n.blocks train) (list_all (passes_train n.blocks) trains) slow in
    and_from (is_train n (state_of_train n train)) (list_all (is_train n) (map (state_of_train n) trains))
    (placed-train n train sound is.block is.size is.rates is.front is.room passes.0) (sound_trains specs n (i + 1) trains sound all.1 passes.1)

-- so its trains have their fronts in blocks
pub trains_in_blocks : (specs : List NodeSpec) (n : Network) (i : ℕ) (trains : List Train) → fault_of_trains specs n i trains ≡ None → list_all (is_in_block n.blocks) trains ≡ true
trains_in_blocks specs n i [] h = refl
trains_in_blocks specs n i (train ∷ trains) h =
    let all = or-none (fault_of_train specs n i train trains) (fault_of_trains specs n (i + 1) trains) h in
    let is = no-fault specs n i train trains all.0 in
    and_from (is_in_block n.blocks train) (list_all (is_in_block n.blocks) trains)
    (and_from (nat_lt train.position.block (length n.blocks)) (has_front n.blocks train.position) (lt-ltb train.position.block (length n.blocks) is.block) is.front) (trains_in_blocks specs n (i + 1) trains all.1)

-- The track.

pub planned-sound : (specs : List NodeSpec) (plan : Plan) → length plan.blocks.items ≤ 64 → length plan.turnouts.items ≤ 64 → fault_of_track specs plan ≡ None → IsTrue (is_sound (network_of specs plan))
planned-sound specs plan few_blocks few_turnouts h =
    let n = length plan.blocks.items in
    let one = or-none (fault_of_blocks 0 plan.blocks.items) _ h in
    let two = or-none (fault_of_joints n 0 plan.joints.items) _ one.1 in
    let three = or-none (fault_of_turnouts n 0 plan.turnouts.items) _ two.1 in
    let four = or-none (option_map EndTwice (named_twice (ends_of plan.joints.items plan.turnouts.items))) (fault_of_motors specs 0 plan.turnouts.items) three.1 in
    let blocks = sound_blocks 0 plan.blocks.items one.0 in
    let joints = sound_joints n 0 plan.joints.items two.0 in
    let turnouts = sound_turnouts n 0 plan.turnouts.items three.0 in
    let ends = sound_ends (ends_of plan.joints.items plan.turnouts.items) four.0 in
    let a : Bool = list_all is_block plan.blocks.items in
    let b : Bool = are_distinct plan.blocks.items in
    let d : Bool = list_all (is_joint n) plan.joints.items in
    let e : Bool = list_all (is_turnout n) plan.turnouts.items in
    let f : Bool = are_apart (ends_of plan.joints.items plan.turnouts.items) in
    let few : Bool = are_few (network_of specs plan) in
    let count : length (map (state_of_turnout specs) plan.turnouts.items) ≡ length plan.turnouts.items = length-map plan.turnouts.items (state_of_turnout specs) in
    let most : length (map (state_of_turnout specs) plan.turnouts.items) ≤ 64 = omega (arith, count, few_turnouts) in
    let are : few ≡ true = and_from (nat_le n 64) (nat_le (length (map (state_of_turnout specs) plan.turnouts.items)) 64) (le-leb n 64 few_blocks) (le-leb (length (map (state_of_turnout specs) plan.turnouts.items)) 64 most) in
    let all : (few && a && b && d && e && f) ≡ true =
    and_from (few && a && b && d && e) f (and_from (few && a && b && d) e (and_from (few && a && b) d (and_from (few && a) b (and_from few a are blocks.0) blocks.1) joints) turnouts) ends in
    subst (λ (ts : List Turnout). (few && a && b && d && list_all (is_turnout n) ts && are_apart (ends_of plan.joints.items ts)) ≡ true) (sym (turnouts-of-states specs plan.turnouts.items)) all

pub both-none : (one two : Option PlanFault) → one ≡ None → two ≡ None → option_or one two ≡ None
both-none one two h g = ap (λ (o : Option PlanFault). option_or o two) h ∙ g

pub first-some : (one two : Option PlanFault) (fault : PlanFault) → one ≡ Some fault → option_or one two ≡ Some fault
first-some one two fault h = ap (λ (o : Option PlanFault). option_or o two) h
