-- A way and the same way back.
use Rattle.std.proofs.Common.{◌≡◌, ℕ, zero, suc, ◌+◌, Bool, true, false, not, inl, inr, Some, refl, ap, sym, ◌∙◌, arith}
use Rattle.std.proofs.lemmas.Bool.{and_from, and_parts}
use Rattle.std.specs.Prelude.{IsTrue}
use Rattle.motion.specs.declared.velocity.Velocity.{Velocity}
use Rattle.railway.specs.declared.exit.Onward.TheVariants.{To}
use Rattle.railway.specs.declared.train.Place.{Place}
use Rattle.railway.specs.declared.train.TrainState.{TrainState}
use Rattle.railway.specs.Network.{Network, is_sound, onward, run_on, spans, step, way_on}
use Rattle.railway.specs.Places.{is_derailed, is_on_track, leading_end, turned, turned_place}
use Rattle.railway.specs.Running.{is_within, run_by}
use Rattle.railway.proofs.Facts.{none-some}
use Rattle.railway.proofs.Keeping.{step-spans, turned-spans, turned-within, way-spans}
use Rattle.railway.proofs.Leading.{sound}
use Rattle.railway.proofs.Riding.{with_velocity}
use Rattle.railway.proofs.Runs.{rear-goes, turned-back}
use Rattle.railway.proofs.Turning.{onward-back, onward-cases, onward-on_track, place-of}
use Rattle.railway.proofs.Ways.{run_on-add, step-onward, way_on-ends, way_on-suc}

step-run : (n : Network) (t : TrainState) → run_on n t 1 ≡ step n t
unfolding run_on
step-run n t = refl

run_on-snoc : (n : Network) (t : TrainState) (way : ℕ) → run_on n t (suc way) ≡ step n (run_on n t way)
run_on-snoc n t way =
    let more : suc way ≡ way + 1 = omega arith in
    ap (λ (w : ℕ). run_on n t w) more ∙ run_on-add n t way 1 ∙ step-run n (run_on n t way)

run_on-first : (n : Network) (t u : TrainState) (way : ℕ) → step n t ≡ u → run_on n t (suc way) ≡ run_on n u way
unfolding run_on
run_on-first n t u way h = ap (λ (v : TrainState). run_on n v way) h

-- a train that went forth, and back at any velocity
record Returns (n : Network) (t : TrainState) (v : Velocity) (way : ℕ) : Type 0 where
  rails : is_derailed (run_on n t way) ≡ false
  back : run_on n (turned (with_velocity v (run_on n t way))) way ≡ turned (with_velocity v t)

step-back : (n : Network) (t : TrainState) (v : Velocity) (front rear : Place) → IsTrue (is_sound n) → is_within n.blocks t ≡ true → is_derailed t ≡ false → onward n t.front ≡ To front → onward n t.rear ≡ To rear
    → step n (turned (with_velocity v (record t { front = front; rear = rear }))) ≡ turned (with_velocity v t)
step-back n t v front rear is h rails f r =
    let parts = and_parts (is_on_track n.blocks t.front) (is_on_track n.blocks t.rear) h in
    step-onward n (turned (with_velocity v (record t { front = front; rear = rear }))) (To (turned_place t.rear)) (To (turned_place t.front)) rails
    (onward-back n t.rear rear (sound n is).apart (place-of n t.rear parts.1) r)
    (onward-back n t.front front (sound n is).apart (place-of n t.front parts.0) f)

run-back : (n : Network) (t : TrainState) (v : Velocity) (p : Place) (way : ℕ) → IsTrue (is_sound n) → is_within n.blocks t ≡ true → spans n t ≡ true → is_derailed t ≡ false → way_on n t.front way ≡ Some p → Returns n t v way
unfolding run_on
run-back n t v p zero is h g rails there = record { rails = rails; back = refl }
run-back n t v p (suc way) is h g rails there = elim (onward-cases (onward n t.front)) [
  | inl next ↦
      let rear = rear-goes n t next.0 g next.1 in
      let moved : TrainState = record t { front = next.0; rear = rear.0 } in
      let parts = and_parts (is_on_track n.blocks t.front) (is_on_track n.blocks t.rear) h in
      let within : is_within n.blocks moved ≡ true = and_from (is_on_track n.blocks next.0) (is_on_track n.blocks rear.0) (onward-on_track n t.front next.0 is parts.0 next.1) (onward-on_track n t.rear rear.0 is parts.1 rear.1) in
      let spanned : spans n moved ≡ true = way-spans n moved (step-spans n t next.0 rear.0 g next.1 rear.1) in
      let rest = run-back n moved v p way is within spanned rails (sym (way_on-suc n t.front next.0 way next.1) ∙ there) in
      let first : run_on n t (suc way) ≡ run_on n moved way = run_on-first n t moved way (step-onward n t (To next.0) (To rear.0) rails next.1 rear.1) in
      record {
        rails = ap (λ (u : TrainState). is_derailed u) first ∙ rest.rails;
        back = ap (λ (u : TrainState). run_on n (turned (with_velocity v u)) (suc way)) first
            ∙ run_on-snoc n (turned (with_velocity v (run_on n moved way))) way
            ∙ ap (λ (u : TrainState). step n u) rest.back
            ∙ step-back n t v next.0 rear.0 is h rails next.1 rear.1;
      }
  | inr ends ↦ absurd (none-some p (sym (way_on-ends n t.front (suc way) (omega arith) ends) ∙ there))
]

-- the same with either end ahead
pub by-back : (n : Network) (f : Bool) (t : TrainState) (v : Velocity) (p : Place) (way : ℕ) → IsTrue (is_sound n) → is_within n.blocks t ≡ true → spans n t ≡ true → is_derailed t ≡ false → way_on n (leading_end f t) way ≡ Some p
    → (is_derailed (run_by n f way t) ≡ false) × (run_by n (not f) way (with_velocity v (run_by n f way t)) ≡ with_velocity v t)
by-back n true t v p way is h g rails there =
    let returns = run-back n t v p way is h g rails there in
    (returns.rails, ap (λ (u : TrainState). turned u) returns.back ∙ turned-back (with_velocity v t))
by-back n false t v p way is h g rails there =
    let returns = run-back n (turned t) v p way is (turned-within n t h) (turned-spans n t is h g) rails there in
    (returns.rails, returns.back ∙ turned-back (with_velocity v t))
