-- A train that is put back makes a railway of a railway.
use Rattle.std.proofs.Common.{◌≡◌, ℕ, zero, suc, ◌<◌, Bool, true, false, List, [], ◌∷◌, Option, Some, None, length, map, refl, arith, ◌∙◌}
use Rattle.std.proofs.lemmas.Bool.{and_from, and_parts, ltb-true}
use Rattle.std.specs.List.{list_all, slice_index_or}
use Rattle.std.specs.Option.{option_or}
use Rattle.std.specs.Prelude.{nat_lt, slice_set}
use Rattle.layout_core.specs.declared.node.Node.{Node}
use Rattle.refresh_ring.specs.declared.pick.Power.{Power}
use Rattle.railway.specs.declared.fault.PlaceFault.{PlaceFault}
use Rattle.railway.specs.declared.fault.PlaceFault.TheVariants.{UnknownTrain, UnknownBlock, OffTrack}
use Rattle.railway.specs.declared.train.Position.{Position}
use Rattle.railway.specs.declared.train.TrainState.{TrainState}
use Rattle.railway.specs.Course.{Happening, after, unless_refused, sensor_failed}
use Rattle.railway.specs.Course.Happening.{Elapses, FailuresEnd, Places, SensorFails, TurnoutFails}
use Rattle.railway.specs.Failures.{block_with}
use Rattle.railway.specs.Network.{is_sound}
use Rattle.railway.specs.Placement.{has_front, is_room}
use Rattle.railway.specs.Railway.{RailwayState, fits_in, is_railway, is_train, laid_in, run_through, place_fault, place_unless, placed_in, ran_in, replaced, run_under, train_at}
use Rattle.railway.specs.Trains.{default_state}
use Rattle.railway.specs.Turnouts.{checked}
use Rattle.railway.proofs.Pieces.{run_through-blocks}
use Rattle.railway.proofs.Planning.{placed-train}
use Rattle.railway.proofs.Riding.{movable-of}
use Rattle.railway.proofs.Slow.{slow-of}
use Rattle.railway.proofs.Running.{under-length}
use Rattle.railway.proofs.Runs.{parts-of}
use Rattle.railway.proofs.Throwing.{checked-same}

or-none : (one two : Option PlaceFault) → option_or one two ≡ None → (one ≡ None) × (two ≡ None)
or-none None two h = (refl, h)
or-none (Some fault) two h = cc

unless-none : (b : Bool) (fault : PlaceFault) → place_unless b fault ≡ None → b ≡ true
unless-none true fault h = refl
unless-none false fault h = cc

all-set : (p : TrainState → Bool) (ts : List TrainState) (i : ℕ) (t : TrainState) → list_all p ts ≡ true → p t ≡ true → list_all p (slice_set ts i t) ≡ true
all-set p [] i t h g = refl
all-set p (u ∷ ts) zero t h g = and_from (p t) (list_all p ts) g (and_parts (p u) (list_all p ts) h).1
all-set p (u ∷ ts) (suc i) t h g =
    let parts = and_parts (p u) (list_all p ts) h in
    and_from (p u) (list_all p (slice_set ts i t)) parts.0 (all-set p ts i t parts.1 g)

pub all-at : (p : TrainState → Bool) (ts : List TrainState) (i : ℕ) (d : TrainState) → list_all p ts ≡ true → i < length ts → p (slice_index_or ts i d) ≡ true
all-at p [] i d h g = absurd (omega (arith, g))
all-at p (u ∷ ts) zero d h g = (and_parts (p u) (list_all p ts) h).0
all-at p (u ∷ ts) (suc i) d h g = let rest : i < length ts = omega (arith, g) in all-at p ts i d (and_parts (p u) (list_all p ts) h).1 rest

-- what is right of a train that can be put there
pub record Fits (r : RailwayState) (i : ℕ) (position : Position) : Type 0 where
  pub train : i < length r.trains
  pub block : position.block < length r.network.blocks
  pub front : has_front r.network.blocks position ≡ true
  pub room : is_room r.network (train_at (slice_index_or r.trains i default_state) position) ≡ true

pub fits-of : (r : RailwayState) (i : ℕ) (position : Position) → place_fault r i position ≡ None → Fits r i position
fits-of r i position h =
    let n = r.network in
    let first = or-none (place_unless (nat_lt i (length r.trains)) UnknownTrain) _ h in
    let second = or-none (place_unless (nat_lt position.block (length n.blocks)) UnknownBlock) (place_unless (fits_in r i position) OffTrack) first.1 in
    let fits = and_parts (has_front n.blocks position) (is_room n (train_at (slice_index_or r.trains i default_state) position)) (unless-none _ _ second.1) in
    record {
      train = ltb-true i (length r.trains) (unless-none _ _ first.0);
      block = ltb-true position.block (length n.blocks) (unless-none _ _ second.0);
      front = fits.0;
      room = fits.1;
    }

pub placed-railway : (r : RailwayState) (i : ℕ) (position : Position) → is_railway r ≡ true → place_fault r i position ≡ None → is_railway (placed_in r i position) ≡ true
placed-railway r i position is h =
    let n = r.network in
    let fits = fits-of r i position h in
    let parts = and_parts (is_sound n) (list_all (is_train n) r.trains) is in
    let old : TrainState = slice_index_or r.trains i default_state in
    let was = parts-of n old (all-at (is_train n) r.trains i default_state parts.1 fits.train) in
    let new = placed-train n (train_at old position) parts.0 fits.block was.size (movable-of old was.movable).rates fits.front fits.room
    (slow-of n.blocks old was.slow).passes in
    and_from (is_sound n) (list_all (is_train n) (slice_set r.trains i (replaced n old position))) parts.0 (all-set (is_train n) r.trains i (replaced n old position) parts.1 new)

-- so does an attempt to put one back
pub places-railway : (r : RailwayState) (i : ℕ) (position : Position) → is_railway r ≡ true → is_railway (after r (Places i position)) ≡ true
places-railway r i position is = either (place_fault r i position) refl where
  either : (fault : Option PlaceFault) → place_fault r i position ≡ fault → is_railway (unless_refused fault (placed_in r i position) r) ≡ true
  either None e = placed-railway r i position is e
  either (Some fault) e = is

-- the blocks stay
pub same-blocks : (r : RailwayState) (happening : Happening) → (after r happening).network.blocks ≡ r.network.blocks
same-blocks r (Elapses micros power nodes) = run_through-blocks power nodes micros (laid_in nodes r)
same-blocks r (SensorFails sensor occupied) = either (block_with sensor r.network.blocks) where
  either : (block : Option ℕ) → (sensor_failed block occupied r).network.blocks ≡ r.network.blocks
  either None = refl
  either (Some block) = refl
same-blocks r (TurnoutFails switch) = refl
same-blocks r FailuresEnd = refl
same-blocks r (Places i position) = either (place_fault r i position) where
  either : (fault : Option PlaceFault) → (unless_refused fault (placed_in r i position) r).network.blocks ≡ r.network.blocks
  either None = refl
  either (Some fault) = refl

-- Each train stays as long as it was.

same-length : (f : TrainState → TrainState) → ((t : TrainState) → (f t).length ≡ t.length) → (ts : List TrainState) (i : ℕ) (none : TrainState) → (slice_index_or (map f ts) i none).length ≡ (slice_index_or ts i none).length
same-length f h [] i none = refl
same-length f h (t ∷ ts) zero none = h t
same-length f h (t ∷ ts) (suc i) none = same-length f h ts i none

set-length : (ts : List TrainState) (i j : ℕ) (t none other : TrainState) → t.length ≡ (slice_index_or ts i other).length → (slice_index_or (slice_set ts i t) j none).length ≡ (slice_index_or ts j none).length
set-length [] i j t none other h = refl
set-length (u ∷ ts) zero zero t none other h = h
set-length (u ∷ ts) zero (suc j) t none other h = refl
set-length (u ∷ ts) (suc i) zero t none other h = refl
set-length (u ∷ ts) (suc i) (suc j) t none other h = set-length ts i j t none other h

ran-lengths : (p : Power) (micros : ℕ) (nodes : List Node) (r : RailwayState) (i : ℕ) (none : TrainState) → (slice_index_or (ran_in p micros nodes r).trains i none).length ≡ (slice_index_or r.trains i none).length
ran-lengths p micros nodes r i none = same-length (run_under p r.network micros nodes) (under-length p r.network micros nodes) r.trains i none

run_through-lengths : (p : Power) (nodes : List Node) (k : ℕ) (r : RailwayState) (i : ℕ) (none : TrainState) → (slice_index_or (run_through p k nodes r).trains i none).length ≡ (slice_index_or r.trains i none).length
unfolding run_through
run_through-lengths p nodes zero r i none = refl
run_through-lengths p nodes (suc k) r i none = run_through-lengths p nodes k (ran_in p 1 nodes r) i none ∙ ran-lengths p 1 nodes r i none

pub lengths-stay : (r : RailwayState) (happening : Happening) (i : ℕ) (none : TrainState) → (slice_index_or (after r happening).trains i none).length ≡ (slice_index_or r.trains i none).length
lengths-stay r (Elapses micros power nodes) i none =
    run_through-lengths power nodes micros (laid_in nodes r) i none
    ∙ same-length (checked nodes r.network) (λ t. (checked-same nodes r.network t).length) r.trains i none
lengths-stay r (SensorFails sensor occupied) i none = either (block_with sensor r.network.blocks) where
  either : (block : Option ℕ) → (slice_index_or (sensor_failed block occupied r).trains i none).length ≡ (slice_index_or r.trains i none).length
  either None = refl
  either (Some block) = refl
lengths-stay r (TurnoutFails switch) i none = refl
lengths-stay r FailuresEnd i none = refl
lengths-stay r (Places j position) i none = either (place_fault r j position) where
  either : (fault : Option PlaceFault) → (slice_index_or (unless_refused fault (placed_in r j position) r).trains i none).length ≡ (slice_index_or r.trains i none).length
  either None = set-length r.trains j i (replaced r.network (slice_index_or r.trains j default_state) position) none default_state refl
  either (Some fault) = refl
