-- A track of which turnouts fail leads where it did.
use Rattle.std.proofs.Common.{◌≡◌, ◌==◌, ◌&&◌, ℕ, zero, suc, Bool, true, false, List, [], ◌∷◌, Option, Some, None, refl, ap, ◌∙◌}
use Rattle.std.proofs.lemmas.Bool.{and_from, and_parts}
use Rattle.std.specs.List.{list_all}
use Rattle.std.specs.Prelude.{IsTrue}
use Rattle.layout_core.specs.declared.node.Node.{Node}
use Rattle.refresh_ring.specs.declared.pick.Power.{Power}
use Rattle.railway.specs.declared.block.BlockEnd.{BlockEnd}
use Rattle.railway.specs.declared.joint.TurnoutState.{TurnoutState}
use Rattle.railway.specs.declared.train.Place.{Place}
use Rattle.railway.specs.declared.train.TrainState.{TrainState}
use Rattle.railway.specs.Blocks.{length_of}
use Rattle.railway.specs.Course.{sensor_failed}
use Rattle.railway.specs.Failures.{failing_by, with_failing}
use Rattle.railway.specs.Network.{Network, is_end_of, is_sound, leaves_at}
use Rattle.railway.specs.Places.{end_ahead, span, to_end}
use Rattle.railway.specs.Railway.{RailwayState, is_railway, is_train, ran_in, run_through}
use Rattle.railway.proofs.Leading.{changed-sound}
use Rattle.railway.proofs.Throwing.{Changes, all-none, end_of_any, train-changed}

unfoldable pub no_turnout : TurnoutState → Bool
no_turnout state = false

failing-keeps : (switch : Option ℕ) (state : TurnoutState) → (failing_by switch state).turnout ≡ state.turnout
failing-keeps None state = refl
failing-keeps (Some switch) state = refl

pub failing-changes : (switch : Option ℕ) → Changes (failing_by switch) no_turnout
failing-changes None = record { keeps = λ state. refl; others = λ state h. record { turnout = refl; thrown = refl; moving = refl } }
failing-changes (Some switch) = record { keeps = λ state. refl; others = λ state h. record { turnout = refl; thrown = refl; moving = refl } }

and-false : (b : Bool) → (b && false) ≡ false
and-false true = refl
and-false false = refl

no-end : (states : List TurnoutState) (end : BlockEnd) → end_of_any no_turnout states end ≡ false
unfolding no_turnout
no-end [] end = refl
no-end (state ∷ states) end = rw (and-false (is_end_of end state)) (no-end states end)

no-leave : (n : Network) (p : Place) → leaves_at (end_of_any no_turnout n.turnouts) n p ≡ false
no-leave n p = ap (λ (b : Bool). (to_end (length_of n.blocks p.block) p == 0) && b) (no-end n.turnouts (end_ahead p)) ∙ and-false (to_end (length_of n.blocks p.block) p == 0)

failing-train : (n : Network) (switch : Option ℕ) (t : TrainState) → is_train n t ≡ true → is_train (with_failing switch n) t ≡ true
failing-train n switch t h =
    train-changed (failing_by switch) no_turnout (failing-changes switch) n t h
    (λ _. all-none (end_of_any no_turnout n.turnouts) n t.rear (span t) (λ part q less there. no-leave n q))

failing-trains : (n : Network) (switch : Option ℕ) (ts : List TrainState) → list_all (is_train n) ts ≡ true → list_all (is_train (with_failing switch n)) ts ≡ true
failing-trains n switch [] h = refl
failing-trains n switch (t ∷ ts) h =
    let parts = and_parts (is_train n t) (list_all (is_train n) ts) h in
    and_from (is_train (with_failing switch n) t) (list_all (is_train (with_failing switch n)) ts) (failing-train n switch t parts.0) (failing-trains n switch ts parts.1)

pub failing-sound : (n : Network) (switch : Option ℕ) → IsTrue (is_sound n) → IsTrue (is_sound (with_failing switch n))
failing-sound n switch h = changed-sound (failing_by switch) (failing-keeps switch) n h

pub failing-railway : (r : RailwayState) (switch : Option ℕ) → is_railway r ≡ true → is_railway (record r { network = with_failing switch r.network }) ≡ true
failing-railway r switch h =
    let n = r.network in
    let m : Network = with_failing switch n in
    let parts = and_parts (is_sound n) (list_all (is_train n) r.trains) h in
    and_from (is_sound m) (list_all (is_train m) r.trains) (failing-sound n switch parts.0) (failing-trains n switch r.trains parts.1)

pub sensor-railway : (r : RailwayState) (block : Option ℕ) (occupied : Bool) → is_railway r ≡ true → is_railway (sensor_failed block occupied r) ≡ true
sensor-railway r None occupied h = h
sensor-railway r (Some block) occupied h = h

-- Time ends no failure of a sensor.

pub run_through-failing : (p : Power) (nodes : List Node) (k : ℕ) (r : RailwayState) → (run_through p k nodes r).failing ≡ r.failing
unfolding run_through
run_through-failing p nodes zero r = refl
run_through-failing p nodes (suc k) r = run_through-failing p nodes k (ran_in p 1 nodes r)
