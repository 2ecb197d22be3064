-- Time that passes in pieces, each until a turnout comes to lie.
use Rattle.std.proofs.Common.{◌≡◌, ℕ, zero, suc, ◌+◌, ◌-◌, ◌<◌, ◌≤◌, ◌==◌, ◌||◌, Bool, true, false, not, List, [], ◌∷◌, Option, Some, None, map, refl, ap, ap₂, sym, ◌∙◌, arith}
use Rattle.std.proofs.lemmas.Bool.{and_from, and_parts, eq-eqb}
use Rattle.std.proofs.lemmas.Bool.Decides.{nat_tests}
use Rattle.std.specs.List.{list_all, list_any}
use Rattle.std.specs.Prelude.{if◌then◌else◌, nat_le}
use Rattle.decoder_node.specs.declared.running.Running.{Running}
use Rattle.layout_core.specs.declared.node.Node.{Node}
use Rattle.motion.specs.Velocity.{next_velocity}
use Rattle.motion.specs.declared.velocity.Drive.{Drive}
use Rattle.motion.specs.declared.velocity.Velocity.{Velocity}
use Rattle.refresh_ring.specs.declared.pick.Power.{Power}
use Rattle.refresh_ring.specs.declared.pick.Power.TheVariants.{Off, Running as PowerOn, Paused}
use Rattle.railway.specs.declared.block.BlockEnd.{BlockEnd}
use Rattle.railway.specs.declared.exit.Exit.{Exit}
use Rattle.railway.specs.declared.exit.Onward.{Onward}
use Rattle.railway.specs.declared.exit.Onward.TheVariants.{To, BufferStop, Against}
use Rattle.railway.specs.declared.joint.TurnoutState.{TurnoutState}
use Rattle.railway.specs.declared.train.Place.{Place}
use Rattle.railway.specs.declared.train.TrainState.{TrainState}
use Rattle.railway.specs.Blocks.{length_of, no_blocks}
use Rattle.railway.specs.Network.{Network, covered, exit_of, is_end_of, is_sound, marked, onward, onward_by, run_on, step, stepped, switch_at}
use Rattle.railway.specs.Places.{end_ahead, further, is_derailed, span, still, to_end, turned}
use Rattle.railway.specs.Railway.{RailwayState, advanced_under, elapsed, is_piece, is_railway, is_train, laid_in, run_through, ran_in, run_in, run_under}
use Rattle.railway.specs.Running.{moved_at, ridden, rode, run_by, run_for}
use Rattle.railway.specs.Trains.{drive_of, running_in}
use Rattle.railway.specs.Turnouts.{advanced, checked, moved_on, is_calm, is_calm_for, is_changed, laid, observed, outputs_in, same_bool, seen_of}
use Rattle.railway.proofs.Facts.{or-none}
use Rattle.railway.proofs.Leading.{advanced-sound, laid-sound}
use Rattle.railway.proofs.Switching.{advanced-trains, comes, moved_on-changes}
use Rattle.railway.proofs.Running.{run_all-trains}
use Rattle.railway.proofs.Throwing.{Changes, all-checked, changed, covered-changed, none-end, none-first-at, same-exit, unchanged-laid, unchanged-none, unmoved-trains}
use Rattle.railway.proofs.Times.{all-all}

-- Times add up.

pub run_through-add : (p : Power) (nodes : List Node) (a b : ℕ) (r : RailwayState) → run_through p (a + b) nodes r ≡ run_through p b nodes (run_through p a nodes r)
unfolding run_through
run_through-add p nodes zero b r = let e : zero + b ≡ b = omega arith in rw e refl
run_through-add p nodes (suc a) b r = let e : suc a + b ≡ suc (a + b) = omega arith in rw e (run_through-add p nodes a b (ran_in p 1 nodes r))

-- a part of a time, and the rest of it
pub run_through-rest : (p : Power) (nodes : List Node) (a k : ℕ) (r : RailwayState) → a ≤ k → run_through p (k - a) nodes (run_through p a nodes r) ≡ run_through p k nodes r
run_through-rest p nodes a k r h =
    let whole : a + (k - a) ≡ k = omega (arith, h) in
    sym (run_through-add p nodes a (k - a) r) ∙ ap (λ (j : ℕ). run_through p j nodes r) whole

pub run_through-zero : (p : Power) (nodes : List Node) (r : RailwayState) → run_through p 0 nodes r ≡ r
unfolding run_through
run_through-zero p nodes r = refl

-- What holds of every railway.

pub ran-kept : (p : Power) (micros : ℕ) (nodes : List Node) (r : RailwayState) → is_railway r ≡ true → is_railway (ran_in p micros nodes r) ≡ true
ran-kept p micros nodes r h = by p where
  n : Network
  n = r.network

  sound : is_sound n ≡ true
  sound = (and_parts (is_sound n) (list_all (is_train n) r.trains) h).0

  ran : Power → List TrainState
  ran q = map (run_under q n micros nodes) r.trains

  trains : (q : Power) → list_all (is_train n) (ran q) ≡ true
  trains q = run_all-trains q n micros nodes r.trains sound (and_parts (is_sound n) (list_all (is_train n) r.trains) h).1

  goes : (q : Power) → is_railway (record r { network = advanced micros n; trains = ran q }) ≡ true
  goes q = and_from (is_sound (advanced micros n)) (list_all (is_train (advanced micros n)) (ran q)) (advanced-sound micros n sound) (advanced-trains micros n (ran q) sound (trains q))

  by : (q : Power) → is_railway (ran_in q micros nodes r) ≡ true
  by Off = and_from (is_sound n) (list_all (is_train n) (ran Off)) sound (trains Off)
  by PowerOn = goes PowerOn
  by Paused = goes Paused

pub run_through-kept : (p : Power) (nodes : List Node) (k : ℕ) (r : RailwayState) → is_railway r ≡ true → is_railway (run_through p k nodes r) ≡ true
unfolding run_through
run_through-kept p nodes zero r h = h
run_through-kept p nodes (suc k) r h = run_through-kept p nodes k (ran_in p 1 nodes r) (ran-kept p 1 nodes r h)

pub laid-kept : (nodes : List Node) (r : RailwayState) → is_railway r ≡ true → is_railway (laid_in nodes r) ≡ true
laid-kept nodes r h =
    let n = r.network in
    let parts = and_parts (is_sound n) (list_all (is_train n) r.trains) h in
    and_from (is_sound (laid nodes n)) (list_all (is_train (laid nodes n)) (map (checked nodes n) r.trains)) (laid-sound nodes n parts.0) (all-checked nodes n r.trains parts.1)

pub elapsed-kept : (r : RailwayState) (k : ℕ) (p : Power) (nodes : List Node) → is_railway r ≡ true → is_railway (elapsed r k p nodes) ≡ true
elapsed-kept r k p nodes h = run_through-kept p nodes k (laid_in nodes r) (laid-kept nodes r h)

-- the blocks stay
ran-blocks : (p : Power) (micros : ℕ) (nodes : List Node) (r : RailwayState) → (ran_in p micros nodes r).network.blocks ≡ r.network.blocks
ran-blocks Off micros nodes r = refl
ran-blocks PowerOn micros nodes r = refl
ran-blocks Paused micros nodes r = refl

pub run_through-blocks : (p : Power) (nodes : List Node) (k : ℕ) (r : RailwayState) → (run_through p k nodes r).network.blocks ≡ r.network.blocks
unfolding run_through
run_through-blocks p nodes zero r = refl
run_through-blocks p nodes (suc k) r = run_through-blocks p nodes k (ran_in p 1 nodes r) ∙ ran-blocks p 1 nodes r

-- Turnouts that are asked again for the same.

seen-again : (nodes : List Node) (state : TurnoutState) → is_changed nodes (observed nodes state) ≡ false
seen-again nodes state = by (outputs_in nodes state.decoder) where
  by : (found : Option ℕ) → not (seen_of (seen_of state.outputs found) found == seen_of state.outputs found) ≡ false
  by None = ap (λ (b : Bool). not b) (eq-eqb state.outputs state.outputs refl)
  by (Some is) = ap (λ (b : Bool). not b) (eq-eqb is is refl)

all-seen : (nodes : List Node) (states : List TurnoutState) → list_any (is_changed nodes) (map (observed nodes) states) ≡ false
all-seen nodes [] = refl
all-seen nodes (state ∷ states) = or-none (is_changed nodes (observed nodes state)) (list_any (is_changed nodes) (map (observed nodes) states)) (seen-again nodes state) (all-seen nodes states)

moved_on-seen : (micros : ℕ) (nodes : List Node) (states : List TurnoutState) → list_any (is_changed nodes) (map (moved_on micros) states) ≡ list_any (is_changed nodes) states
moved_on-seen micros nodes [] = refl
moved_on-seen micros nodes (state ∷ states) = ap (λ (b : Bool). is_changed nodes state || b) (moved_on-seen micros nodes states)

ran-seen : (p : Power) (micros : ℕ) (nodes : List Node) (r : RailwayState) → list_any (is_changed nodes) (ran_in p micros nodes r).network.turnouts ≡ list_any (is_changed nodes) r.network.turnouts
ran-seen Off micros nodes r = refl
ran-seen PowerOn micros nodes r = moved_on-seen micros nodes r.network.turnouts
ran-seen Paused micros nodes r = moved_on-seen micros nodes r.network.turnouts

run_through-seen : (p : Power) (nodes : List Node) (k : ℕ) (r : RailwayState) → list_any (is_changed nodes) (run_through p k nodes r).network.turnouts ≡ list_any (is_changed nodes) r.network.turnouts
unfolding run_through
run_through-seen p nodes zero r = refl
run_through-seen p nodes (suc k) r = run_through-seen p nodes k (ran_in p 1 nodes r) ∙ ran-seen p 1 nodes r

laid-again : (nodes : List Node) (r : RailwayState) → list_any (is_changed nodes) r.network.turnouts ≡ false → laid_in nodes r ≡ r
laid-again nodes r none =
    ap (λ (n : Network). record r { network = n; trains = map (checked nodes r.network) r.trains }) (unchanged-laid nodes r.network none)
    ∙ ap (λ (ts : List TrainState). record r { trains = ts }) (unmoved-trains nodes r.network r.trains (unchanged-none nodes r.network.turnouts none))

pub elapsed-elapsed : (r : RailwayState) (p : Power) (nodes : List Node) (these those : ℕ) → elapsed (elapsed r these p nodes) those p nodes ≡ elapsed r (these + those) p nodes
elapsed-elapsed r p nodes these those =
    let start : RailwayState = laid_in nodes r in
    let none = run_through-seen p nodes these start ∙ all-seen nodes r.network.turnouts in
    ap (λ (s : RailwayState). run_through p those nodes s) (laid-again nodes (run_through p these nodes start) none) ∙ sym (run_through-add p nodes these those start)

-- A track that leads where another one does: a train runs on it as on the other.

pub record SameTrack (f : TurnoutState → TurnoutState) (n : Network) : Type 0 where
  pub exits : (end : BlockEnd) → exit_of (changed f n) end ≡ exit_of n end
  pub switches : (end : BlockEnd) → switch_at (map f n.turnouts) end ≡ switch_at n.turnouts end
  pub covers : (p : Place) (way : ℕ) → covered (changed f n) p way no_blocks ≡ covered n p way no_blocks

onward-same : (f : TurnoutState → TurnoutState) (n : Network) → SameTrack f n → (p : Place) → onward (changed f n) p ≡ onward n p
onward-same f n c p = ap (λ (exit : Exit). if to_end (length_of n.blocks p.block) p == 0 then onward_by n.blocks exit else To (further p 1)) (c.exits (end_ahead p))

stepped-same : (f : TurnoutState → TurnoutState) (n : Network) → SameTrack f n → (t : TrainState) (front rear : Onward) → stepped (changed f n) t front rear ≡ stepped n t front rear
stepped-same f n c t (To front) (To rear) = refl
stepped-same f n c t (To front) BufferStop = refl
stepped-same f n c t (To front) Against = refl
stepped-same f n c t BufferStop rear = refl
stepped-same f n c t Against rear = ap (λ (switch : ℕ). record (still t) { derailed_at = Some switch }) (c.switches (end_ahead t.front))

step-same : (f : TurnoutState → TurnoutState) (n : Network) → SameTrack f n → (t : TrainState) → step (changed f n) t ≡ step n t
step-same f n c t =
    ap₂ (λ (front rear : Onward). if is_derailed t then t else stepped (changed f n) t front rear) (onward-same f n c t.front) (onward-same f n c t.rear)
    ∙ ap (λ (u : TrainState). if is_derailed t then t else u) (stepped-same f n c t (onward n t.front) (onward n t.rear))

run-same : (f : TurnoutState → TurnoutState) (n : Network) → SameTrack f n → (t : TrainState) (way : ℕ) → run_on (changed f n) t way ≡ run_on n t way
unfolding run_on
run-same f n c t zero = refl
run-same f n c t (suc way) = ap (λ (u : TrainState). run_on (changed f n) u way) (step-same f n c t) ∙ run-same f n c (step n t) way

by-same : (f : TurnoutState → TurnoutState) (n : Network) → SameTrack f n → (forward : Bool) (way : ℕ) (t : TrainState) → run_by (changed f n) forward way t ≡ run_by n forward way t
by-same f n c true way t = run-same f n c t way
by-same f n c false way t = ap (λ (u : TrainState). turned u) (run-same f n c (turned t) way)

moved-same : (f : TurnoutState → TurnoutState) (n : Network) → SameTrack f n → (v : Velocity) (way : ℕ) (t : TrainState) → moved_at (changed f n) v way t ≡ moved_at n v way t
moved-same f n c v way t = ap (λ (u : TrainState). if is_derailed t then t else u) (by-same f n c v.forward way (record t { velocity = v }))

ridden-same-track : (f : TurnoutState → TurnoutState) (n : Network) → SameTrack f n → (d : Drive) (k : ℕ) (t : TrainState) → ridden (changed f n) d k t ≡ ridden n d k t
unfolding ridden
ridden-same-track f n c d zero t = refl
ridden-same-track f n c d (suc k) t =
    ap (λ (u : TrainState). ridden (changed f n) d k u) (moved-same f n c (next_velocity d t.velocity) (next_velocity d t.velocity).speed t)
    ∙ ridden-same-track f n c d k (rode n d t)

pub for-same-track : (f : TurnoutState → TurnoutState) (n : Network) → SameTrack f n → (micros : ℕ) (running : Option Running) (t : TrainState) → run_for (changed f n) micros running t ≡ run_for n micros running t
for-same-track f n c micros running t =
    let d : Drive = drive_of t running in
    let there : TrainState = ridden n d micros t in
    ap (λ (u : TrainState). if is_derailed t then t else u)
    (ap (λ (u : TrainState). marked (changed f n) u) (ridden-same-track f n c d micros t)
    ∙ ap (λ (m : List Bool). record there { under = m }) (c.covers there.rear (span there)))

in-same-track : (f : TurnoutState → TurnoutState) (n : Network) → SameTrack f n → (micros : ℕ) (nodes : List Node) (t : TrainState) → run_in (changed f n) micros nodes t ≡ run_in n micros nodes t
in-same-track f n c micros nodes t = for-same-track f n c micros (running_in nodes t.decoder) t

under-same-track : (p : Power) (f : TurnoutState → TurnoutState) (n : Network) → SameTrack f n → (micros : ℕ) (nodes : List Node) (t : TrainState) → run_under p (changed f n) micros nodes t ≡ run_under p n micros nodes t
under-same-track Off f n c micros nodes t = refl
under-same-track PowerOn f n c micros nodes t = in-same-track f n c micros nodes t
under-same-track Paused f n c micros nodes t = in-same-track f n c micros nodes t

all-same-track : (p : Power) (f : TurnoutState → TurnoutState) (n : Network) → SameTrack f n → (micros : ℕ) (nodes : List Node) (ts : List TrainState) → map (run_under p (changed f n) micros nodes) ts ≡ map (run_under p n micros nodes) ts
all-same-track p f n c micros nodes [] = refl
all-same-track p f n c micros nodes (t ∷ ts) =
    ap₂ (λ (u : TrainState) (us : List TrainState). u ∷ us) (under-same-track p f n c micros nodes t) (all-same-track p f n c micros nodes ts)

-- A piece of a time.

-- turnouts that do not come to lie in the first of two microseconds
calm-stays : (k left : ℕ) → ((left == 0) || nat_le (suc (suc k)) left) ≡ true → not (same_bool (not (left - 1 == 0)) (not (left == 0))) ≡ false
calm-stays k zero h = refl
calm-stays k (suc zero) h = grind (arith, nat_tests, h)
calm-stays k (suc (suc left)) h =
    let one : (suc (suc left) - 1 == 0) ≡ false = grind (arith, nat_tests) in
    let two : (suc (suc left) == 0) ≡ false = grind (arith, nat_tests) in
    ap₂ (λ (a b : Bool). not (same_bool (not a) (not b))) one two

none-come : (k : ℕ) (states : List TurnoutState) → list_all (is_calm_for (suc (suc k))) states ≡ true → list_any (comes 1) states ≡ false
none-come k [] h = refl
none-come k (state ∷ states) h =
    let parts = and_parts (is_calm_for (suc (suc k)) state) (list_all (is_calm_for (suc (suc k))) states) h in
    or-none (comes 1 state) (list_any (comes 1) states) (calm-stays k state.left parts.0) (none-come k states parts.1)

pub same-switches : (f : TurnoutState → TurnoutState) (is : TurnoutState → Bool) → Changes f is → (states : List TurnoutState) (end : BlockEnd) → switch_at (map f states) end ≡ switch_at states end
same-switches f is c [] end = refl
same-switches f is c (state ∷ states) end =
    ap (λ (turnout : _). if is_end_of end (record (f state) { turnout = turnout }) then turnout.switch else switch_at (map f states) end) (c.keeps state)
    ∙ ap (λ (rest : ℕ). if is_end_of end state then state.turnout.switch else rest) (same-switches f is c states end)

-- a track of which no turnout leads elsewhere
pub same-track : (f : TurnoutState → TurnoutState) (is : TurnoutState → Bool) → Changes f is → (n : Network) → list_any is n.turnouts ≡ false → SameTrack f n
same-track f is changes n none = record {
  exits = λ end. same-exit f is changes n end (none-end is n.turnouts end none);
  switches = λ end. same-switches f is changes n.turnouts end;
  covers = λ p way. covered-changed f is changes n p way no_blocks (none-first-at is n p way none);
}

calm-track : (n : Network) → list_any (comes 1) n.turnouts ≡ false → SameTrack (moved_on 1) n
calm-track n none = same-track (moved_on 1) (comes 1) (moved_on-changes 1) n none

moved_on-moved_on : (k : ℕ) (states : List TurnoutState) → map (moved_on k) (map (moved_on 1) states) ≡ map (moved_on (suc k)) states
moved_on-moved_on k [] = refl
moved_on-moved_on k (state ∷ states) =
    let part : state.left - 1 - k ≡ state.left - suc k = omega arith in
    ap (λ (left : ℕ). record state { left = left } ∷ map (moved_on k) (map (moved_on 1) states)) part
    ∙ ap (λ (rest : List TurnoutState). moved_on (suc k) state ∷ rest) (moved_on-moved_on k states)

calm-less : (k left : ℕ) → ((left == 0) || nat_le (suc k) left) ≡ true → ((left - 1 == 0) || nat_le k (left - 1)) ≡ true
calm-less k zero h = refl
calm-less k (suc left) h = grind (arith, nat_tests, h)

calm-next : (k : ℕ) (states : List TurnoutState) → list_all (is_calm_for (suc k)) states ≡ true → list_all (is_calm_for k) (map (moved_on 1) states) ≡ true
calm-next k [] h = refl
calm-next k (state ∷ states) h =
    let parts = and_parts (is_calm_for (suc k) state) (list_all (is_calm_for (suc k)) states) h in
    and_from (is_calm_for k (moved_on 1 state)) (list_all (is_calm_for k) (map (moved_on 1) states)) (calm-less k state.left parts.0) (calm-next k states parts.1)

next-piece : (p : Power) (k : ℕ) (n : Network) → is_piece p (suc (suc k)) n ≡ true → is_piece p (suc k) (advanced_under p 1 n) ≡ true
next-piece Off k n h = refl
next-piece PowerOn k n h = calm-next (suc k) n.turnouts h
next-piece Paused k n h = calm-next (suc k) n.turnouts h

-- a microsecond and then a piece are a longer piece
trains-on : (p : Power) (k : ℕ) (nodes : List Node) (n : Network) (ts : List TrainState) → list_any (comes 1) n.turnouts ≡ false
    → map (run_under p (advanced 1 n) (suc k) nodes) (map (run_under p n 1 nodes) ts) ≡ map (run_under p n (suc (suc k)) nodes) ts
trains-on p k nodes n ts none =
    let e : 1 + suc k ≡ suc (suc k) = omega arith in
    all-same-track p (moved_on 1) n (calm-track n none) (suc k) nodes (map (run_under p n 1 nodes) ts)
    ∙ all-all p n nodes 1 (suc k) ts ∙ ap (λ (j : ℕ). map (run_under p n j nodes) ts) e

abbrev pub railway_of : RailwayState → Network → List TrainState → RailwayState
railway_of r n ts = record r { network = n; trains = ts }

both-on : (p : Power) (k : ℕ) (nodes : List Node) (r : RailwayState) → is_calm (suc (suc k)) r.network ≡ true
    → railway_of r (advanced (suc k) (advanced 1 r.network)) (map (run_under p (advanced 1 r.network) (suc k) nodes) (map (run_under p r.network 1 nodes) r.trains))
    ≡ railway_of r (advanced (suc (suc k)) r.network) (map (run_under p r.network (suc (suc k)) nodes) r.trains)
both-on p k nodes r h =
    let n = r.network in
    ap₂ (λ (states : List TurnoutState) (ts : List TrainState). railway_of r (record n { turnouts = states }) ts) (moved_on-moved_on (suc k) n.turnouts)
    (trains-on p k nodes n r.trains (none-come k n.turnouts h))

ran-ran : (p : Power) (k : ℕ) (nodes : List Node) (r : RailwayState) → is_piece p (suc (suc k)) r.network ≡ true → ran_in p (suc k) nodes (ran_in p 1 nodes r) ≡ ran_in p (suc (suc k)) nodes r
ran-ran Off k nodes r h =
    let e : 1 + suc k ≡ suc (suc k) = omega arith in
    ap (λ (ts : List TrainState). record r { trains = ts }) (all-all Off r.network nodes 1 (suc k) r.trains ∙ ap (λ (j : ℕ). map (run_under Off r.network j nodes) r.trains) e)
ran-ran PowerOn k nodes r h = both-on PowerOn k nodes r h
ran-ran Paused k nodes r h = both-on Paused k nodes r h

pieces : (p : Power) (nodes : List Node) (k : ℕ) (r : RailwayState) → is_piece p (suc k) r.network ≡ true → run_through p (suc k) nodes r ≡ ran_in p (suc k) nodes r
unfolding run_through
pieces p nodes zero r h = refl
pieces p nodes (suc k) r h = pieces p nodes k (ran_in p 1 nodes r) (next-piece p k r.network h) ∙ ran-ran p k nodes r h

pub piece-run_through : (p : Power) (nodes : List Node) (k : ℕ) (r : RailwayState) → 0 < k → is_piece p k r.network ≡ true → run_through p k nodes r ≡ ran_in p k nodes r
piece-run_through p nodes k r goes h =
    let whole : k ≡ suc (k - 1) = omega (arith, goes) in
    ap (λ (j : ℕ). run_through p j nodes r) whole
    ∙ pieces p nodes (k - 1) r (sym (ap (λ (j : ℕ). is_piece p j r.network) whole) ∙ h)
    ∙ ap (λ (j : ℕ). ran_in p j nodes r) (sym whole)
