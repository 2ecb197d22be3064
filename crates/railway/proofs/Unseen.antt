-- Nothing passes unseen.
use Rattle.std.proofs.Common.{◌≡◌, ◌⊎◌, ℕ, zero, suc, ◌+◌, ◌-◌, ◌*◌, ◌<◌, ◌≤◌, ◌&&◌, Bool, true, false, inl, inr, List, Option, Some, None, length, refl, ap, sym, subst, ◌∙◌, arith, ◌≢◌}
use Rattle.std.proofs.lemmas.Bool.{and_from, and_parts, cases_Bool, lt-ltb, ltb-true}
use Rattle.std.proofs.lemmas.Bool.Decides.{nat_tests}
use Rattle.std.proofs.lemmas.List.{get_or-map, get_or-replicate, length-map}
use Rattle.std.specs.List.{list_all, slice_index_or}
use Rattle.std.specs.Option.{option_and_then}
use Rattle.std.specs.Prelude.{IsTrue, nat_le, nat_lt, if◌then◌else◌}
use Rattle.layout_core.specs.declared.node.Node.{Node}
use Rattle.motion.specs.Velocity.{goes_only, next_velocity, same_bool, velocity_after, way}
use Rattle.motion.specs.declared.velocity.Drive.{Drive}
use Rattle.motion.specs.declared.velocity.Velocity.{Velocity}
use Rattle.refresh_ring.specs.declared.pick.Power.{Power}
use Rattle.refresh_ring.specs.declared.pick.Power.TheVariants.{Off, Running as PowerOn, Paused}
use Rattle.railway.specs.declared.block.End.{End}
use Rattle.railway.specs.declared.block.End.TheVariants.{A, B}
use Rattle.railway.specs.declared.exit.Onward.{Onward}
use Rattle.railway.specs.declared.exit.Onward.TheVariants.{To, BufferStop, Against}
use Rattle.railway.specs.declared.train.Place.{Place}
use Rattle.railway.specs.declared.train.TrainState.{TrainState}
use Rattle.railway.specs.Blocks.{length_of, no_blocks, other}
use Rattle.railway.specs.Laws.{IsOnWay, asked_of, runs_only, velocity_of, way_of}
use Rattle.railway.specs.Network.{Network, is_sound, marked, off_rails, onward, run_on, spans, step, under, way_on, first_at}
use Rattle.railway.specs.Places.{further, is_derailed, is_on_track, left_to, span, to_end, turned, turned_place, moved_to}
use Rattle.railway.specs.Railway.{RailwayState, is_railway, is_train, run_in, run_under, advanced_under, run_through, ran_in}
use Rattle.railway.specs.Reports.{occupies}
use Rattle.railway.specs.Running.{run_by, is_within}
use Rattle.railway.specs.Turnouts.{advanced, moved_on}
use Rattle.railway.proofs.Covering.{covered-way, way-covered}
use Rattle.railway.proofs.Facts.{none-some, some-same}
use Rattle.railway.proofs.Keeping.{Kept, run_by-kept, spans-spanned, spans-way, step-spans, turned-spans, way-spans, whole-of, run-within, turned-within}
use Rattle.railway.proofs.Pieces.{ran-kept}
use Rattle.railway.proofs.Placing.{all-at}
use Rattle.railway.proofs.Riding.{with_velocity}
use Rattle.railway.proofs.Running.{in-derailed, in-one-way, in-same, in-velocity, same-drive, under-train}
use Rattle.railway.proofs.Runs.{on-track, parts-of, rear-goes, within-parts}
use Rattle.railway.proofs.Throwing.{all-none, end_of_any, none-leaves, way-changed}
use Rattle.railway.proofs.Leading.{advanced-sound}
use Rattle.railway.proofs.Turning.{turned-turned, way-back, way-on_track}
use Rattle.railway.proofs.Ways.{run_on-derailed, run_on-stands, step-onward, way_on-add, way_on-suc, way_on-within}
use Rattle.railway.proofs.Driven.{powered}
use Rattle.railway.proofs.Switching.{comes, moved_on-changes, none-moving}

-- Parts of a way.

-- a way to a place, and on from there
way-on : (n : Network) (p q : Place) (a b : ℕ) → way_on n p a ≡ Some q → way_on n p (a + b) ≡ way_on n q b
way-on n p q a b h = way_on-add n p a b ∙ ap (λ (o : Option Place). option_and_then (λ r. way_on n r b) o) h

no-way : (n : Network) (p : Place) → way_on n p 0 ≡ Some p
unfolding way_on
no-way n p = refl

-- a place on the way to another
record Between (n : Network) (p q : Place) (a b : ℕ) : Type 0 where
  place : Place
  there : way_on n p a ≡ Some place
  on : way_on n place b ≡ Some q

between : (n : Network) (p q : Place) (a b : ℕ) → way_on n p (a + b) ≡ Some q → Between n p q a b
between n p q a b h = by (way_on n p a) refl where
  by : (o : Option Place) → way_on n p a ≡ o → Between n p q a b
  by (Some m) e = record { place = m; there = e; on = sym (way-on n p m a b e) ∙ h }
  by None e = absurd (none-some q (sym (way_on-add n p a b ∙ ap (λ (o : Option Place). option_and_then (λ r. way_on n r b) o) e) ∙ h))

-- what lies ahead of a place and behind it is the rest of its block
left-turned : (e : End) (length at : ℕ) → at < length → left_to e length at + left_to (other e) length at + 1 ≡ length
left-turned A length at h = omega (arith, h)
left-turned B length at h = omega (arith, h)

-- the way back within a block
back-in-block : (n : Network) (m q : Place) (j : ℕ) → IsTrue (is_sound n) → is_on_track n.blocks m ≡ true → way_on n m j ≡ Some q → j ≤ to_end (length_of n.blocks q.block) (turned_place q) → m.block ≡ q.block
back-in-block n m q j is on there within =
    let back : way_on n (turned_place q) j ≡ Some (turned_place m) = way-back n m q j is on there in
    let inside : way_on n (turned_place q) j ≡ Some (further (turned_place q) j) = way_on-within n (turned_place q) j within in
    ap (λ (p : Place). p.block) (some-same (turned_place m) (further (turned_place q) j) (sym back ∙ inside))

-- A block stays occupied for so many femtometres more: from a place of it under a train to its end.

record Budget (n : Network) (hind : Place) (long block most : ℕ) : Type 0 where
  part : ℕ
  within : part ≤ long
  place : Place
  there : way_on n hind part ≡ Some place
  in_block : place.block ≡ block
  enough : most ≤ part + to_end (length_of n.blocks place.block) place

-- what is left of it further on
left-further : (e : End) (length at j : ℕ) → j ≤ left_to e length at → left_to e length (moved_to e at j) ≡ left_to e length at - j
left-further A length at j h = refl
left-further B length at j h = omega (arith, h)

budget-on : (n : Network) (hind next : Place) (long far block most : ℕ) → way_on n hind far ≡ Some next → far ≤ most → Budget n hind long block most → Budget n next long block (most - far)
budget-on n hind next long far block most goes less h = elim (cases_Bool (nat_le far h.part)) [
  | inl under ↦
      let small : far ≤ h.part = grind (arith, nat_tests, under) in
      let sum : far + (h.part - far) ≡ h.part = omega (arith, small) in
      record {
        part = h.part - far;
        within = omega (arith, h.within);
        place = h.place;
        there = sym (way-on n hind next far (h.part - far) goes) ∙ ap (λ (w : ℕ). way_on n hind w) sum ∙ h.there;
        in_block = h.in_block;
        enough = omega (arith, h.enough, small);
      }
  | inr beyond ↦
      let q : Place = h.place in
      let j : ℕ = far - h.part in
      let more : h.part < far = grind (arith, nat_tests, beyond) in
      let sum : h.part + j ≡ far = omega (arith, more) in
      let close : j ≤ to_end (length_of n.blocks q.block) q = omega (arith, less, h.enough, more) in
      let there : way_on n q j ≡ Some next = sym (way-on n hind q h.part j h.there) ∙ ap (λ (w : ℕ). way_on n hind w) sum ∙ goes in
      let is : next ≡ further q j = some-same next (further q j) (sym there ∙ way_on-within n q j close) in
      let rest : to_end (length_of n.blocks next.block) next ≡ to_end (length_of n.blocks q.block) q - j =
      ap (λ (p : Place). to_end (length_of n.blocks p.block) p) is ∙ left-further q.toward (length_of n.blocks q.block) q.at j close in
      record { part = 0; within = omega arith; place = next; there = no-way n next; in_block = ap (λ (p : Place). p.block) is ∙ h.in_block; enough = omega (arith, rest, h.enough, more) }
]

-- A block that a train enters stays occupied until it has gone as far as both are long.
entered : (n : Network) (hind next : Place) (long far block : ℕ) → IsTrue (is_sound n) → is_on_track n.blocks hind ≡ true → way_on n hind far ≡ Some next → IsOnWay n next long block
    → IsOnWay n hind long block ⊎ Budget n next long block (long + length_of n.blocks block - far)
entered n hind next long far block is on goes here =
    let q : Place = here.place in
    let part : ℕ = here.part in
    let at : way_on n hind (far + part) ≡ Some q = way-on n hind next far part goes ∙ here.there in
    let q_on : is_on_track n.blocks q ≡ true = way-on_track n hind q (far + part) is on at in
    let within : q.at < length_of n.blocks q.block = (on-track n.blocks q q_on).within in
    let ahead : ℕ = to_end (length_of n.blocks q.block) q in
    let back : ℕ = to_end (length_of n.blocks q.block) (turned_place q) in
    let whole : ahead + back + 1 ≡ length_of n.blocks q.block = left-turned q.toward (length_of n.blocks q.block) q.at within in
    let same : length_of n.blocks q.block ≡ length_of n.blocks block = ap (λ (i : ℕ). length_of n.blocks i) here.in_block in
    elim (cases_Bool (nat_le (far + part) long)) [
      | inl start ↦ inl (record { part = far + part; within = grind (arith, nat_tests, start); place = q; there = at; in_block = here.in_block })
      | inr moved ↦
          let more : long < far + part = grind (arith, nat_tests, moved) in
          elim (cases_Bool (nat_le (far + part - long) back)) [
            | inl before ↦
                let j : ℕ = far + part - long in
                let sum : long + j ≡ far + part = omega (arith, more) in
                let mid = between n hind q long j (ap (λ (w : ℕ). way_on n hind w) sum ∙ at) in
                let mid_on = way-on_track n hind mid.place long is on mid.there in
                let close : j ≤ back = grind (arith, nat_tests, before) in
                inl (record { part = long; within = omega arith; place = mid.place; there = mid.there; in_block = back-in-block n mid.place q j is mid_on mid.on close ∙ here.in_block })
            | inr since ↦
                let one : back < far + part - long = grind (arith, nat_tests, since) in
                inr (record { part = part; within = here.within; place = q; there = here.there; in_block = here.in_block; enough = omega (arith, one, whole, same, more) })
          ]
    ]

-- How far both ends of a train get.

record Goes (n : Network) (t u : TrainState) (most : ℕ) : Type 0 where
  far : ℕ
  less : far ≤ most
  rear : way_on n t.rear far ≡ Some u.rear
  spanned : spans n u ≡ true
  size : u.length ≡ t.length

stays : (n : Network) (t u : TrainState) (most : ℕ) → spans n u ≡ true → u.rear ≡ t.rear → u.length ≡ t.length → Goes n t u most
unfolding way_on
stays n t u most h rear size = record { far = 0; less = omega arith; rear = ap (λ (p : Place). Some p) (sym rear); spanned = h; size = size }

goes-on : (n : Network) (t : TrainState) (most : ℕ) → spans n t ≡ true → Goes n t (run_on n t most) most
unfolding run_on
goes-on n t zero h = stays n t t 0 h refl refl
goes-on n t (suc most) h = elim (cases_Bool (is_derailed t)) [
  | inl derailed ↦ subst (λ (u : TrainState). Goes n t u (suc most)) (sym (run_on-derailed n t (suc most) derailed)) (stays n t t (suc most) h refl refl)
  | inr rails ↦ by (λ u g. goes-on n u most g) (onward n t.front) refl rails
] where
  by : ((u : TrainState) → spans n u ≡ true → Goes n u (run_on n u most) most) → (o : Onward) → onward n t.front ≡ o → is_derailed t ≡ false → Goes n t (run_on n (step n t) most) (suc most)
  by later (To front) e rails =
      let rear = rear-goes n t front h e in
      let moved : TrainState = record t { front = front; rear = rear.0 } in
      let spanned : spans n moved ≡ true = way-spans n moved (step-spans n t front rear.0 h e rear.1) in
      let rest = later moved spanned in
      subst (λ (u : TrainState). Goes n t (run_on n u most) (suc most)) (sym (step-onward n t (To front) (To rear.0) rails e rear.1))
      (record { far = suc rest.far; less = omega (arith, rest.less); rear = way_on-suc n t.rear rear.0 rest.far rear.1 ∙ rest.rear; spanned = rest.spanned; size = rest.size })
  by later BufferStop e rails =
      let stands : step n t ≡ t = step-onward n t BufferStop (onward n t.rear) rails e refl in
      subst (λ (u : TrainState). Goes n t u (suc most)) (sym (ap (λ (u : TrainState). run_on n u most) stands ∙ run_on-stands n t most stands)) (stays n t t (suc most) h refl refl)
  by later Against e rails =
      let off : TrainState = off_rails n t.front t in
      let derails : step n t ≡ off = step-onward n t Against (onward n t.rear) rails e refl in
      subst (λ (u : TrainState). Goes n t u (suc most)) (sym (ap (λ (u : TrainState). run_on n u most) derails ∙ run_on-derailed n off most refl)) (stays n t off (suc most) h refl refl)

-- The blocks of a train, seen from either end.

turn-way : (n : Network) (t : TrainState) (block : ℕ) → IsTrue (is_sound n) → is_on_track n.blocks t.rear ≡ true → spans n t ≡ true → IsOnWay n t.rear (span t) block → IsOnWay n (turned_place t.front) (span t) block
turn-way n t block is on h way =
    let sum : way.part + (span t - way.part) ≡ span t = omega (arith, way.within) in
    let whole : way_on n t.rear (way.part + (span t - way.part)) ≡ Some t.front = ap (λ (w : ℕ). way_on n t.rear w) sum ∙ spans-way n t h in
    let rest : way_on n way.place (span t - way.part) ≡ Some t.front = sym (way-on n t.rear way.place way.part (span t - way.part) way.there) ∙ whole in
    let there = way-on_track n t.rear way.place way.part is on way.there in
    record {
      part = span t - way.part;
      within = omega arith;
      place = turned_place way.place;
      there = way-back n way.place t.front (span t - way.part) is there rest;
      in_block = way.in_block;
    }

abbrev IsIn : Network → TrainState → ℕ → Type 0
IsIn n t block = IsOnWay n t.rear (span t) block

same-span : (t u : TrainState) → u.length ≡ t.length → span u ≡ span t
same-span t u h = ap (λ (l : ℕ). l * 1000000000000 - 1) h

-- A part of a time, and the rest of it.

pub goes_only-add : (f : Bool) (d : Drive) (a b : ℕ) (v : Velocity) → goes_only f d (a + b) v ≡ true → (goes_only f d a v ≡ true) × (goes_only f d b (velocity_after d a v) ≡ true)
unfolding goes_only velocity_after
goes_only-add f d zero b v h = let e : zero + b ≡ b = omega arith in (refl, sym (ap (λ (k : ℕ). goes_only f d k v) e) ∙ h)
goes_only-add f d (suc a) b v h =
    let e : suc a + b ≡ suc (a + b) = omega arith in
    let next : Velocity = next_velocity d v in
    let parts = and_parts (same_bool next.forward f) (goes_only f d (a + b) next) (sym (ap (λ (k : ℕ). goes_only f d k v) e) ∙ h) in
    let rest = goes_only-add f d a b next parts.1 in
    (and_from (same_bool next.forward f) (goes_only f d a next) parts.0 rest.0, rest.1)

abbrev pub WaysAdd : Type 0
WaysAdd = (drive : Drive) (v : Velocity) (these those : ℕ) → way drive (these + those) v ≡ way drive these v + way drive those (velocity_after drive these v)

-- The blocks that a train knows are those under it.

apart : false ≡ true → ⊥
apart e = cc

known-in : (n : Network) (t : TrainState) (block : ℕ) → t.under ≡ under n t → IsTrue (occupies block t) → IsIn n t block
known-in n t block knows h =
    let parts = and_parts (nat_lt block 64) (slice_index_or t.under block false) h in
    elim (covered-way n t.rear (span t) block no_blocks (sym (ap (λ (m : List Bool). slice_index_or m block false) knows) ∙ parts.1)) [
      | inl on ↦ on
      | inr before ↦ absurd (apart (sym (get_or-replicate 64 block false false (ltb-true block 64 parts.0)) ∙ before))
    ]

in-known : (n : Network) (t : TrainState) (block : ℕ) → t.under ≡ under n t → block < 64 → IsIn n t block → IsTrue (occupies block t)
in-known n t block knows less on =
    and_from (nat_lt block 64) (slice_index_or t.under block false) (lt-ltb block 64 less)
    (ap (λ (m : List Bool). slice_index_or m block false) knows ∙ way-covered n t.rear (span t) on.part block no_blocks on.place less on.within on.there on.in_block)

below-64 : (t : TrainState) (block : ℕ) → IsTrue (occupies block t) → block < 64
below-64 t block h = ltb-true block 64 (and_parts (nat_lt block 64) (slice_index_or t.under block false) h).0

same-under : (t u : TrainState) (block : ℕ) → u.under ≡ t.under → IsTrue (occupies block u) → IsTrue (occupies block t)
same-under t u block same h = sym (ap (λ (m : List Bool). nat_lt block 64 && slice_index_or m block false) same) ∙ h

-- The end of a train that is behind as it goes one way, with what lies ahead.

abbrev hind : Bool → TrainState → Place
hind forward t = if forward then t.rear else turned_place t.front

abbrev IsInFrom : Network → Bool → TrainState → ℕ → Type 0
IsInFrom n forward t block = IsOnWay n (hind forward t) (span t) block

from-hind : (n : Network) (forward : Bool) (t : TrainState) (block : ℕ) → IsTrue (is_sound n) → is_within n.blocks t ≡ true → spans n t ≡ true → IsInFrom n forward t block → IsIn n t block
from-hind n true t block is within h way = way
from-hind n false t block is within h way =
    let parts = within-parts n t within in
    subst (λ (p : Place). IsOnWay n p (span t) block) (turned-turned t.rear) (turn-way n (turned t) block is parts.0 (turned-spans n t is within h) way)

to-hind : (n : Network) (forward : Bool) (t : TrainState) (block : ℕ) → IsTrue (is_sound n) → is_within n.blocks t ≡ true → spans n t ≡ true → IsIn n t block → IsInFrom n forward t block
to-hind n true t block is within h way = way
to-hind n false t block is within h way = turn-way n t block is (within-parts n t within).1 h way

-- A train that runs for a microsecond.

record Moved (n : Network) (forward : Bool) (t u : TrainState) (most : ℕ) : Type 0 where
  far : ℕ
  less : far ≤ most
  goes : way_on n (hind forward t) far ≡ Some (hind forward u)
  within : is_within n.blocks u ≡ true
  spanned : spans n u ≡ true
  size : u.length ≡ t.length
  knows : u.under ≡ under n u

by-moved : (n : Network) (forward : Bool) (t : TrainState) (most : ℕ) → IsTrue (is_sound n) → is_within n.blocks t ≡ true → spans n t ≡ true → Moved n forward t (marked n (run_by n forward most t)) most
by-moved n true t most is within h =
    let goes = goes-on n t most h in
    let kept : Kept n t = record { within = within; spanned = spans-spanned n t h } in
    record { far = goes.far; less = goes.less; goes = goes.rear; within = (run_by-kept n true most t is kept).within; spanned = goes.spanned; size = goes.size; knows = refl }
by-moved n false t most is within h =
    let goes = goes-on n (turned t) most (turned-spans n t is within h) in
    let kept : Kept n t = record { within = within; spanned = spans-spanned n t h } in
    let there = (run_by-kept n false most t is kept).within in
    let x : TrainState = run_on n (turned t) most in
    let x_within = run-within n (turned t) most is (turned-within n t within) in
    record {
      far = goes.far;
      less = goes.less;
      goes = goes.rear ∙ ap (λ (p : Place). Some p) (sym (turned-turned x.rear));
      within = there;
      spanned = turned-spans n x is x_within goes.spanned;
      size = goes.size;
      knows = refl;
    }

same-hind : (n : Network) (forward : Bool) (v : Velocity) (t : TrainState) (far : ℕ) (next : Place) → way_on n (hind forward (with_velocity v t)) far ≡ Some next → way_on n (hind forward t) far ≡ Some next
same-hind n true v t far next g = g
same-hind n false v t far next g = g

in-moved : (n : Network) (nodes : List Node) (forward : Bool) (t : TrainState) → IsTrue (is_sound n) → is_train n t ≡ true → is_derailed t ≡ false → runs_only forward nodes 1 t ≡ true → Moved n forward t (run_in n 1 nodes t) (way_of nodes 1 t)
in-moved n nodes forward t is h rails only =
    let parts = parts-of n t h in
    let v : Velocity = velocity_of nodes 1 t in
    let there : TrainState = marked n (run_by n forward (way_of nodes 1 t) (with_velocity v t)) in
    let moved = by-moved n forward (with_velocity v t) (way_of nodes 1 t) is (and_from _ _ parts.front parts.rear) (whole-of n t parts.whole rails).spanned in
    subst (λ (u : TrainState). Moved n forward t u (way_of nodes 1 t)) (sym (in-one-way n forward 1 nodes t rails only))
    (record { far = moved.far; less = moved.less; goes = same-hind n forward v t moved.far (hind forward there) moved.goes; within = moved.within; spanned = moved.spanned; size = moved.size; knows = moved.knows })

-- Turnouts that come to lie leave the way under a train as it is.

body-advanced : (n : Network) (t : TrainState) (part : ℕ) (q : Place) → IsTrue (is_sound n) → is_train n t ≡ true → is_derailed t ≡ false → part ≤ span t → way_on n t.rear part ≡ Some q → way_on (advanced 1 n) t.rear part ≡ Some q
body-advanced n t part q is h rails less there =
    let none = none-moving 1 n t is h rails in
    let some : first_at (end_of_any (comes 1) n.turnouts) n t.rear part ≡ None =
    all-none (end_of_any (comes 1) n.turnouts) n t.rear part (λ j p small at. none-leaves (end_of_any (comes 1) n.turnouts) n t.rear p (span t) j none (omega (arith, small, less)) at) in
    way-changed (moved_on 1) (comes 1) (moved_on-changes 1) n t.rear part some ∙ there

hind-advanced : (n : Network) (forward : Bool) (t : TrainState) (part : ℕ) (q : Place) → IsTrue (is_sound n) → is_train n t ≡ true → is_derailed t ≡ false → part ≤ span t → way_on n (hind forward t) part ≡ Some q → way_on (advanced 1 n) (hind forward t) part ≡ Some q
hind-advanced n true t part q is h rails less there = body-advanced n t part q is h rails less there
hind-advanced n false t part q is h rails less there =
    let m : Network = advanced 1 n in
    let parts = parts-of n t h in
    let spanned = spans-way n t (whole-of n t parts.whole rails).spanned in
    let back : way_on n (turned_place t.front) (span t) ≡ Some (turned_place t.rear) = way-back n t.rear t.front (span t) is parts.rear spanned in
    let sum : part + (span t - part) ≡ span t = omega (arith, less) in
    let mid = between n (turned_place t.front) (turned_place t.rear) part (span t - part) (ap (λ (w : ℕ). way_on n (turned_place t.front) w) sum ∙ back) in
    let same : mid.place ≡ q = some-same mid.place q (sym mid.there ∙ there) in
    let q_on : is_on_track n.blocks q ≡ true = way-on_track n (turned_place t.front) q part is parts.front there in
    let rest : way_on n q (span t - part) ≡ Some (turned_place t.rear) = ap (λ (p : Place). way_on n p (span t - part)) (sym same) ∙ mid.on in
    let ahead : way_on n t.rear (span t - part) ≡ Some (turned_place q) = ap (λ (p : Place). way_on n p (span t - part)) (sym (turned-turned t.rear)) ∙ way-back n q (turned_place t.rear) (span t - part) is q_on rest in
    let ahead_m : way_on m t.rear (span t - part) ≡ Some (turned_place q) = body-advanced n t (span t - part) (turned_place q) is h rails (omega arith) ahead in
    let front_m : way_on m t.rear (span t) ≡ Some t.front = body-advanced n t (span t) t.front is h rails (omega arith) spanned in
    let sum' : span t - part + part ≡ span t = omega (arith, less) in
    let on_m : way_on m (turned_place q) part ≡ Some t.front = sym (way-on m t.rear (turned_place q) (span t - part) part ahead_m) ∙ ap (λ (w : ℕ). way_on m t.rear w) sum' ∙ front_m in
    way-back m (turned_place q) t.front part (advanced-sound 1 n is) q_on on_m ∙ ap (λ (p : Place). Some p) (turned-turned q)

budget-advanced : (n : Network) (forward : Bool) (t : TrainState) (block most : ℕ) → IsTrue (is_sound n) → is_train n t ≡ true → is_derailed t ≡ false → Budget n (hind forward t) (span t) block most → Budget (advanced 1 n) (hind forward t) (span t) block most
budget-advanced n forward t block most is h rails b = record {
  part = b.part;
  within = b.within;
  place = b.place;
  there = hind-advanced n forward t b.part b.place is h rails b.within b.there;
  in_block = b.in_block;
  enough = b.enough;
}

-- How a train is to go on: one way, and no farther than this.

pub record GoesAhead (nodes : List Node) (forward : Bool) (micros most : ℕ) (t : TrainState) : Type 0 where
  pub one_way : runs_only forward nodes micros t ≡ true
  pub short : way_of nodes micros t ≤ most

next-goes : WaysAdd → (n : Network) (nodes : List Node) (forward : Bool) (k most : ℕ) (t : TrainState) → is_derailed (run_in n 1 nodes t) ≡ false → GoesAhead nodes forward (1 + k) most t
    → (runs_only forward nodes 1 t ≡ true) × GoesAhead nodes forward k (most - way_of nodes 1 t) (run_in n 1 nodes t) × (way_of nodes 1 t ≤ most)
next-goes ways n nodes forward k most t rails goes =
    let d : Drive = asked_of nodes t in
    let u : TrainState = run_in n 1 nodes t in
    let parts = goes_only-add forward d 1 k t.velocity goes.one_way in
    let same : asked_of nodes u ≡ d = same-drive nodes t u (in-same n 1 nodes t) in
    let speed : u.velocity ≡ velocity_after d 1 t.velocity = in-velocity n 1 nodes t rails in
    let rest : way_of nodes k u ≡ way d k (velocity_after d 1 t.velocity) = ap (λ (e : Drive). way e k u.velocity) same ∙ ap (λ (v : Velocity). way d k v) speed in
    let sum : way_of nodes (1 + k) t ≡ way_of nodes 1 t + way d k (velocity_after d 1 t.velocity) = ways d t.velocity 1 k in
    let only : runs_only forward nodes k u ≡ true = ap (λ (e : Drive). goes_only forward e k u.velocity) same ∙ ap (λ (v : Velocity). goes_only forward d k v) speed ∙ parts.1 in
    (parts.0, record { one_way = only; short = omega (arith, goes.short, sum, rest) }, omega (arith, goes.short, sum))

-- A railway after a microsecond with power.

on-network : (p : Power) (n : Network) → p ≢ Off → advanced_under p 1 n ≡ advanced 1 n
on-network Off n on = absurd (on refl)
on-network PowerOn n on = refl
on-network Paused n on = refl

ran-network : (p : Power) (nodes : List Node) (r : RailwayState) → (ran_in p 1 nodes r).network ≡ advanced_under p 1 r.network
ran-network Off nodes r = refl
ran-network PowerOn nodes r = refl
ran-network Paused nodes r = refl

hind-on : (n : Network) (forward : Bool) (t : TrainState) → is_within n.blocks t ≡ true → is_on_track n.blocks (hind forward t) ≡ true
hind-on n true t h = (within-parts n t h).1
hind-on n false t h = (within-parts n t h).0

true-false : (b : Bool) → b ≡ true → b ≡ false → ⊥
true-false true h g = cc
true-false false h g = cc

module _ (ways : WaysAdd) (p : Power) (on : p ≢ Off) (nodes : List Node) (forward : Bool) (i block : ℕ) (none : TrainState) where
  train : RailwayState → TrainState
  train r = slice_index_or r.trains i none

  next : RailwayState → RailwayState
  next r = ran_in p 1 nodes r

  next-train : (r : RailwayState) → i < length r.trains → train (next r) ≡ run_in r.network 1 nodes (train r)
  unfolding train next
  next-train r within =
      get_or-map (run_under p r.network 1 nodes) r.trains i none none within ∙ powered p r.network 1 nodes (slice_index_or r.trains i none) on

  next-count : (r : RailwayState) → i < length r.trains → i < length (next r).trains
  unfolding next
  next-count r within = omega (arith, within, length-map r.trains (run_under p r.network 1 nodes))

  next-network : (r : RailwayState) → (next r).network ≡ advanced 1 r.network
  unfolding next
  next-network r = ran-network p nodes r ∙ on-network p r.network on

  is-train : (r : RailwayState) → is_railway r ≡ true → i < length r.trains → is_train r.network (train r) ≡ true
  unfolding train
  is-train r h within = all-at (is_train r.network) r.trains i none (and_parts (is_sound r.network) (list_all (is_train r.network) r.trains) h).1 within

  is-sound : (r : RailwayState) → is_railway r ≡ true → IsTrue (is_sound r.network)
  is-sound r h = (and_parts (is_sound r.network) (list_all (is_train r.network) r.trains) h).0

  -- what holds of a train that is not derailed
  abbrev Lasts : (k most : ℕ) → RailwayState → Type 0
  Lasts k most r = is_derailed (train r) ≡ false → GoesAhead nodes forward k most (train r) × Budget r.network (hind forward (train r)) (span (train r)) block most

  -- a microsecond of a train that is not derailed
  step-of : (r : RailwayState) (k most : ℕ) → is_railway r ≡ true → i < length r.trains → is_derailed (train r) ≡ false → GoesAhead nodes forward (1 + k) most (train r) → Moved r.network forward (train r) (run_in r.network 1 nodes (train r)) (way_of nodes 1 (train r))
  step-of r k most h within rails goes =
      in-moved r.network nodes forward (train r) (is-sound r h) (is-train r h within) rails (goes_only-add forward (asked_of nodes (train r)) 1 k (train r).velocity goes.one_way).0

  lasts-on : (r : RailwayState) (k most far : ℕ) → is_railway r ≡ true → i < length r.trains → GoesAhead nodes forward (1 + k) most (train r) → far ≤ way_of nodes 1 (train r)
      → Budget r.network (hind forward (run_in r.network 1 nodes (train r))) (span (run_in r.network 1 nodes (train r))) block (most - far) → Lasts k (most - way_of nodes 1 (train r)) (next r)
  lasts-on r k most far h within goes less budget rails =
      let n : Network = r.network in
      let t : TrainState = train r in
      let u : TrainState = run_in n 1 nodes t in
      let same : train (next r) ≡ u = next-train r within in
      let u_rails : is_derailed u ≡ false = sym (ap (λ (w : TrainState). is_derailed w) same) ∙ rails in
      let u_train : is_train n u ≡ true = under-train PowerOn n 1 nodes t (is-sound r h) (is-train r h within) in
      let rest = next-goes ways n nodes forward k most t u_rails goes in
      let less_budget : Budget n (hind forward u) (span u) block (most - way_of nodes 1 t) =
      record { part = budget.part; within = budget.within; place = budget.place; there = budget.there; in_block = budget.in_block; enough = omega (arith, budget.enough, less) } in
      let ahead = budget-advanced n forward u block (most - way_of nodes 1 t) (is-sound r h) u_train u_rails less_budget in
      subst (λ (w : TrainState). GoesAhead nodes forward k (most - way_of nodes 1 t) w × Budget (next r).network (hind forward w) (span w) block (most - way_of nodes 1 t)) (sym same)
      (rest.1, subst (λ (m : Network). Budget m (hind forward u) (span u) block (most - way_of nodes 1 t)) (sym (next-network r)) ahead)

  persist : (k most : ℕ) (r : RailwayState) → is_railway r ≡ true → i < length r.trains → Lasts k most r → IsTrue (occupies block (train r)) → IsTrue (occupies block (train (run_through p k nodes r)))
  unfolding run_through next
  persist zero most r h within lasts here = here
  persist (suc k) most r h within lasts here = either (cases_Bool (is_derailed (train r))) (λ m l o. persist k m (next r) (ran-kept p 1 nodes r h) (next-count r within) l o) where
    either : (is_derailed (train r) ≡ true) ⊎ (is_derailed (train r) ≡ false) → ((m : ℕ) → Lasts k m (next r) → IsTrue (occupies block (train (next r))) → IsTrue (occupies block (train (run_through p k nodes (next r)))))
        → IsTrue (occupies block (train (run_through p k nodes (next r))))
    either (inl off) later =
        let same : train (next r) ≡ train r = next-train r within ∙ in-derailed r.network 1 nodes (train r) off in
        later 0 (λ rails. absurd (true-false (is_derailed (train r)) off (sym (ap (λ (w : TrainState). is_derailed w) same) ∙ rails)))
        (subst (λ (w : TrainState). IsTrue (occupies block w)) (sym same) here)
    either (inr rails) later =
        let n : Network = r.network in
        let t : TrainState = train r in
        let u : TrainState = run_in n 1 nodes t in
        let given = lasts rails in
        let e : suc k ≡ 1 + k = omega arith in
        let goes : GoesAhead nodes forward (1 + k) most t = subst (λ (j : ℕ). GoesAhead nodes forward j most t) e given.0 in
        let moved = step-of r k most h within rails goes in
        let sum : way_of nodes (1 + k) t ≡ way_of nodes 1 t + way (asked_of nodes t) k (velocity_after (asked_of nodes t) 1 t.velocity) = ways (asked_of nodes t) t.velocity 1 k in
        let size = same-span t u moved.size in
        let budget = subst (λ (long : ℕ). Budget n (hind forward u) long block (most - moved.far)) (sym size) (budget-on n (hind forward t) (hind forward u) (span t) moved.far block most moved.goes (omega (arith, moved.less, goes.short, sum)) given.1) in
        let there : IsInFrom n forward u block = record { part = budget.part; within = budget.within; place = budget.place; there = budget.there; in_block = budget.in_block } in
        let occupied = in-known n u block moved.knows (below-64 t block here) (from-hind n forward u block (is-sound r h) moved.within moved.spanned there) in
        later (most - way_of nodes 1 t) (lasts-on r k most moved.far h within goes moved.less budget) (subst (λ (w : TrainState). IsTrue (occupies block w)) (sym (next-train r within)) occupied)

  -- less far than the train and the block are long
  abbrev Short : (k : ℕ) → RailwayState → Type 0
  Short k r = is_derailed (train r) ≡ false → GoesAhead nodes forward k (span (train r) + length_of r.network.blocks block) (train r)

  short-on : (r : RailwayState) (k : ℕ) → i < length r.trains → Short (1 + k) r → Short k (next r)
  short-on r k within short rails =
      let n : Network = r.network in
      let t : TrainState = train r in
      let u : TrainState = run_in n 1 nodes t in
      let same : train (next r) ≡ u = next-train r within in
      let u_rails : is_derailed u ≡ false = sym (ap (λ (w : TrainState). is_derailed w) same) ∙ rails in
      let size : span (train (next r)) ≡ span t = same-span t (train (next r)) (ap (λ (w : TrainState). w.length) same ∙ (in-same n 1 nodes t).length) in
      let blocks : length_of (next r).network.blocks block ≡ length_of n.blocks block = ap (λ (m : Network). length_of m.blocks block) (next-network r) in
      let rest = next-goes ways n nodes forward k (span t + length_of n.blocks block) t u_rails (short (rails-first (cases_Bool (is_derailed t)) u_rails)) in
      let goes : GoesAhead nodes forward k (span t + length_of n.blocks block - way_of nodes 1 t) (train (next r)) = subst (λ (w : TrainState). GoesAhead nodes forward k (span t + length_of n.blocks block - way_of nodes 1 t) w) (sym same) rest.1 in
      record { one_way = goes.one_way; short = omega (arith, goes.short, size, blocks) }
    where
      rails-first : (is_derailed (train r) ≡ true) ⊎ (is_derailed (train r) ≡ false) → is_derailed (run_in r.network 1 nodes (train r)) ≡ false → is_derailed (train r) ≡ false
      rails-first (inr rails) g = rails
      rails-first (inl off) g = absurd (true-false (is_derailed (train r)) off (sym (ap (λ (w : TrainState). is_derailed w) (in-derailed r.network 1 nodes (train r) off)) ∙ g))

  enter : (j k : ℕ) (r : RailwayState) → is_railway r ≡ true → i < length r.trains → Short (j + k) r → IsTrue (occupies block (train (run_through p j nodes r)))
      → IsTrue (occupies block (train r)) ⊎ IsTrue (occupies block (train (run_through p (j + k) nodes r)))
  unfolding run_through next
  enter zero k r h within short here = inl here
  enter (suc j) k r h within short here =
      let e : suc j + k ≡ suc (j + k) = omega arith in
      let e' : suc j + k ≡ 1 + (j + k) = omega arith in
      let later = enter j k (next r) (ran-kept p 1 nodes r h) (next-count r within) (short-on r (j + k) within (λ rails. subst (λ (m : ℕ). GoesAhead nodes forward m (span (train r) + length_of r.network.blocks block) (train r)) e' (short rails))) here in
      either e e' (cases_Bool (is_derailed (train r))) later where
        either : suc j + k ≡ suc (j + k) → suc j + k ≡ 1 + (j + k) → (is_derailed (train r) ≡ true) ⊎ (is_derailed (train r) ≡ false) → IsTrue (occupies block (train (next r))) ⊎ IsTrue (occupies block (train (run_through p (j + k) nodes (next r))))
            → IsTrue (occupies block (train r)) ⊎ IsTrue (occupies block (train (run_through p (suc j + k) nodes r)))
        either e e' known (inr end) = inr (subst (λ (m : ℕ). IsTrue (occupies block (train (run_through p m nodes r)))) (sym e) end)
        either e e' (inl off) (inl there) = inl (subst (λ (w : TrainState). IsTrue (occupies block w)) (next-train r within ∙ in-derailed r.network 1 nodes (train r) off) there)
        either e e' (inr rails) (inl there) =
            let n : Network = r.network in
            let t : TrainState = train r in
            let u : TrainState = run_in n 1 nodes t in
            let most : ℕ = span t + length_of n.blocks block in
            let goes : GoesAhead nodes forward (1 + (j + k)) most t = subst (λ (m : ℕ). GoesAhead nodes forward m most t) e' (short rails) in
            let moved = step-of r (j + k) most h within rails goes in
            let parts = parts-of n t (is-train r h within) in
            let on_track : is_within n.blocks t ≡ true = and_from _ _ parts.front parts.rear in
            let whole = whole-of n t parts.whole rails in
            let size = same-span t u moved.size in
            let occupied : IsTrue (occupies block u) = subst (λ (w : TrainState). IsTrue (occupies block w)) (next-train r within) there in
            let in_u : IsInFrom n forward u block = to-hind n forward u block (is-sound r h) moved.within moved.spanned (known-in n u block moved.knows occupied) in
            elim (entered n (hind forward t) (hind forward u) (span t) moved.far block (is-sound r h) (hind-on n forward t on_track) moved.goes (subst (λ (long : ℕ). IsOnWay n (hind forward u) long block) size in_u)) [
              | inl before ↦ inl (in-known n t block whole.knows (below-64 u block occupied) (from-hind n forward t block (is-sound r h) on_track whole.spanned before))
              | inr budget ↦
                  let lasts = lasts-on r (j + k) most moved.far h within goes moved.less (subst (λ (long : ℕ). Budget n (hind forward u) long block (most - moved.far)) (sym size) budget) in
                  inr (subst (λ (m : ℕ). IsTrue (occupies block (train (run_through p m nodes r)))) (sym e)
                  (persist (j + k) (most - way_of nodes 1 t) (next r) (ran-kept p 1 nodes r h) (next-count r within) lasts there))
            ]

  pub at-ends : (j k : ℕ) (r : RailwayState) → is_railway r ≡ true → i < length r.trains
      → (is_derailed (slice_index_or r.trains i none) ≡ false → GoesAhead nodes forward (j + k) (span (slice_index_or r.trains i none) + length_of r.network.blocks block) (slice_index_or r.trains i none))
      → IsTrue (occupies block (slice_index_or (run_through p j nodes r).trains i none))
      → IsTrue (occupies block (slice_index_or r.trains i none)) ⊎ IsTrue (occupies block (slice_index_or (run_through p (j + k) nodes r).trains i none))
  unfolding train
  at-ends = enter

-- Without power nothing moves.

still-run : (k : ℕ) (nodes : List Node) (r : RailwayState) (i : ℕ) (none : TrainState) → i < length r.trains → (slice_index_or (run_through Off k nodes r).trains i none).under ≡ (slice_index_or r.trains i none).under
unfolding run_through
still-run zero nodes r i none within = refl
still-run (suc k) nodes r i none within =
    still-run k nodes (ran_in Off 1 nodes r) i none (omega (arith, within, length-map r.trains (run_under Off r.network 1 nodes)))
    ∙ ap (λ (t : TrainState). t.under) (get_or-map (run_under Off r.network 1 nodes) r.trains i none none within)

pub run-seen : WaysAdd → (p : Power) (nodes : List Node) (forward : Bool) (i block : ℕ) (none : TrainState) (j k : ℕ) (r : RailwayState) → is_railway r ≡ true → i < length r.trains
    → (is_derailed (slice_index_or r.trains i none) ≡ false → GoesAhead nodes forward (j + k) (span (slice_index_or r.trains i none) + length_of r.network.blocks block) (slice_index_or r.trains i none))
    → IsTrue (occupies block (slice_index_or (run_through p j nodes r).trains i none))
    → IsTrue (occupies block (slice_index_or r.trains i none)) ⊎ IsTrue (occupies block (slice_index_or (run_through p (j + k) nodes r).trains i none))
run-seen ways Off nodes forward i block none j k r h within short here =
    inl (same-under (slice_index_or r.trains i none) (slice_index_or (run_through Off j nodes r).trains i none) block (still-run j nodes r i none within) here)
run-seen ways PowerOn nodes forward i block none j k r h within short here = at-ends ways PowerOn (λ e. cc) nodes forward i block none j k r h within short here
run-seen ways Paused nodes forward i block none j k r h within short here = at-ends ways Paused (λ e. cc) nodes forward i block none j k r h within short here
