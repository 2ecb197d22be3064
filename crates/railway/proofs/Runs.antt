-- Where trains get to.
use Rattle.std.proofs.Common.{◌≡◌, ℕ, zero, suc, ◌+◌, ◌-◌, ◌<◌, ◌≤◌, ◌&&◌, Bool, true, false, inl, inr, List, Some, length, refl, ap, sym, subst, ◌∙◌, arith}
use Rattle.std.proofs.lemmas.Bool.{and_from, and_parts, ltb-true}
use Rattle.std.specs.Prelude.{IsTrue, nat_le, nat_lt}
use Rattle.railway.specs.declared.block.Block.{Block}
use Rattle.railway.specs.declared.block.End.{End}
use Rattle.railway.specs.declared.exit.Onward.TheVariants.{To, BufferStop, Against}
use Rattle.railway.specs.declared.train.Place.{Place}
use Rattle.railway.specs.declared.train.TrainState.{TrainState}
use Rattle.railway.specs.Blocks.{length_of, other}
use Rattle.railway.specs.Laws.{IsOnRails, IsOnTrack}
use Rattle.railway.specs.Network.{Network, is_sound, is_whole, off_rails, onward, run_on, spans, step, switch_at, way_on}
use Rattle.railway.specs.Places.{end_ahead, is_derailed, is_on_track, leading_end, span, turned, turned_place}
use Rattle.railway.specs.Railway.{is_train}
use Rattle.railway.specs.Running.{is_within, run_by}
use Rattle.railway.specs.Trains.{is_movable}
use Rattle.railway.specs.Passing.{is_slow}
use Rattle.railway.proofs.Keeping.{is_spanned, spanned-spans, spans-way, step-spans, turned-spans, way-spans, whole-of}
use Rattle.railway.proofs.Turning.{onward-cases, way-back, way_on-snoc}
use Rattle.railway.proofs.Ways.{run_on-add, run_on-derailed, run_on-stands, run_on-step, step-onward, way_on-ends, way_on-suc}
use Rattle.railway.proofs.Facts.{none-some, other-other, some-same}

-- What a train of a railway is.

pub record Parts (n : Network) (t : TrainState) : Type 0 where
  pub size : nat_le 1 t.length ≡ true
  pub front : is_on_track n.blocks t.front ≡ true
  pub rear : is_on_track n.blocks t.rear ≡ true
  pub whole : is_whole n t ≡ true
  pub movable : is_movable t ≡ true
  pub slow : is_slow n.blocks t ≡ true

-- where a train is, whatever its velocity
pub record Placed (n : Network) (t : TrainState) : Type 0 where
  pub front : is_on_track n.blocks t.front ≡ true
  pub rear : is_on_track n.blocks t.rear ≡ true
  pub spanned : is_spanned n t ≡ true

pub within-parts : (n : Network) (t : TrainState) → is_within n.blocks t ≡ true → (is_on_track n.blocks t.front ≡ true) × (is_on_track n.blocks t.rear ≡ true)
within-parts n t h = and_parts (is_on_track n.blocks t.front) (is_on_track n.blocks t.rear) h

pub parts-of : (n : Network) (t : TrainState) → is_train n t ≡ true → Parts n t
parts-of n t h =
    let whole = and_parts (nat_le 1 t.length && is_within n.blocks t && is_whole n t && is_movable t) (is_slow n.blocks t) h in
    let all = and_parts (nat_le 1 t.length && is_within n.blocks t && is_whole n t) (is_movable t) whole.0 in
    let rails = and_parts (nat_le 1 t.length && is_within n.blocks t) (is_whole n t) all.0 in
    let first = and_parts (nat_le 1 t.length) (is_within n.blocks t) rails.0 in
    let ends = within-parts n t first.1 in
    record { size = first.0; front = ends.0; rear = ends.1; whole = rails.1; movable = all.1; slow = whole.1 }

pub on-track : (blocks : List Block) (p : Place) → is_on_track blocks p ≡ true → IsOnTrack blocks p
on-track blocks p h =
    let parts = and_parts (nat_lt p.block (length blocks)) (nat_lt p.at (length_of blocks p.block)) h in
    record { of_plan = ltb-true p.block (length blocks) parts.0; within = ltb-true p.at (length_of blocks p.block) parts.1 }

pub on-rails : (n : Network) (t : TrainState) → IsTrue (is_sound n) → is_train n t ≡ true → IsOnRails n t
on-rails n t is h =
    let parts = parts-of n t h in
    record {
      front = on-track n.blocks t.front parts.front;
      rear = on-track n.blocks t.rear parts.rear;
      apart = λ rails. spans-way n t (whole-of n t parts.whole rails).spanned;
      back = λ rails. way-back n t.rear t.front (span t) is parts.rear (spans-way n t (whole-of n t parts.whole rails).spanned);
    }

-- Where nothing stops it.

-- the rear of a train goes on where its front does
pub rear-goes : (n : Network) (t : TrainState) (front : Place) → spans n t ≡ true → onward n t.front ≡ To front → (rear : Place) × (onward n t.rear ≡ To rear)
rear-goes n t front h f = elim (onward-cases (onward n t.rear)) [
  | inl found ↦ found
  | inr ends ↦ absurd (none-some front (sym (way_on-ends n t.rear (suc (span t)) (omega arith) ends) ∙ way_on-snoc n t.rear t.front front (span t) (spans-way n t h) f))
]

pub record Reaches (n : Network) (t : TrainState) (p : Place) : Type 0 where
  pub front : t.front ≡ p
  pub rails : is_derailed t ≡ false
  pub spanned : spans n t ≡ true

pub run-reaches : (n : Network) (t : TrainState) (p : Place) (way : ℕ) → spans n t ≡ true → is_derailed t ≡ false → way_on n t.front way ≡ Some p → Reaches n (run_on n t way) p
unfolding run_on way_on
run-reaches n t p zero h rails g = record { front = some-same t.front p g; rails = rails; spanned = h }
run-reaches n t p (suc way) h rails g = elim (onward-cases (onward n t.front)) [
  | inl next ↦
      let rear = rear-goes n t next.0 h next.1 in
      let moved : TrainState = record t { front = next.0; rear = rear.0 } in
      let spanned : spans n moved ≡ true = way-spans n moved (step-spans n t next.0 rear.0 h next.1 rear.1) in
      let stepped-to : step n t ≡ moved = step-onward n t (To next.0) (To rear.0) rails next.1 rear.1 in
      subst (λ (u : TrainState). Reaches n (run_on n u way) p) (sym stepped-to)
      (run-reaches n moved p way spanned rails (sym (way_on-suc n t.front next.0 way next.1) ∙ g))
  | inr ends ↦ absurd (none-some p (sym (way_on-ends n t.front (suc way) (omega arith) ends) ∙ g))
]

-- Where the track ends.

pub run-stops : (n : Network) (t : TrainState) (p : Place) (ahead way : ℕ) → spans n t ≡ true → is_derailed t ≡ false → way_on n t.front ahead ≡ Some p → onward n p ≡ BufferStop → ahead ≤ way
    → (run_on n t way).front ≡ p
run-stops n t p ahead way h rails g stop less =
    let there = run-reaches n t p ahead h rails g in
    let end : TrainState = run_on n t ahead in
    let whole : way ≡ ahead + (way - ahead) = omega (arith, less) in
    let stands : step n end ≡ end = step-onward n end BufferStop (onward n end.rear) there.rails (ap (λ (q : Place). onward n q) there.front ∙ stop) refl in
    ap (λ (w : ℕ). (run_on n t w).front) whole
    ∙ ap (λ (u : TrainState). u.front) (run_on-add n t ahead (way - ahead) ∙ run_on-stands n end (way - ahead) stands)
    ∙ there.front

pub run-derails : (n : Network) (t : TrainState) (p : Place) (ahead way : ℕ) → spans n t ≡ true → is_derailed t ≡ false → way_on n t.front ahead ≡ Some p → onward n p ≡ Against → ahead < way
    → (run_on n t way).derailed_at ≡ Some (switch_at n.turnouts (end_ahead p))
run-derails n t p ahead way h rails g against less =
    let there = run-reaches n t p ahead h rails g in
    let end : TrainState = run_on n t ahead in
    let off : TrainState = off_rails n end.front end in
    let whole : way ≡ ahead + (way - ahead) = omega (arith, less) in
    let more : 0 < way - ahead = omega (arith, less) in
    let derails : step n end ≡ off = step-onward n end Against (onward n end.rear) there.rails (ap (λ (q : Place). onward n q) there.front ∙ against) refl in
    ap (λ (w : ℕ). (run_on n t w).derailed_at) whole
    ∙ ap (λ (u : TrainState). u.derailed_at) (run_on-add n t ahead (way - ahead) ∙ run_on-step n end off (way - ahead) more derails ∙ run_on-derailed n off (way - ahead - 1) refl)
    ∙ ap (λ (q : Place). Some (switch_at n.turnouts (end_ahead q))) there.front

-- With either end ahead.

pub turned-back : (t : TrainState) → turned (turned t) ≡ t
turned-back t =
    ap (λ (e : End). record t { front = record t.front { toward = e }; rear = record t.rear { toward = other (other t.rear.toward) } }) (other-other t.front.toward)
    ∙ ap (λ (e : End). record t { rear = record t.rear { toward = e } }) (other-other t.rear.toward)

turned-rear : (t : TrainState) → turned_place (turned t).rear ≡ t.front
turned-rear t = ap (λ (e : End). record t.front { toward = e }) (other-other t.front.toward)

pub by-reaches : (n : Network) (forward : Bool) (t : TrainState) (p : Place) (way : ℕ) → IsTrue (is_sound n) → Placed n t → is_derailed t ≡ false → way_on n (leading_end forward t) way ≡ Some p
    → (leading_end forward (run_by n forward way t) ≡ p) × (is_derailed (run_by n forward way t) ≡ false)
by-reaches n true t p way is parts rails g =
    let there = run-reaches n t p way (spanned-spans n t parts.spanned rails) rails g in
    (there.front, there.rails)
by-reaches n false t p way is parts rails g =
    let spanned = turned-spans n t is (and_from (is_on_track n.blocks t.front) (is_on_track n.blocks t.rear) parts.front parts.rear) (spanned-spans n t parts.spanned rails) in
    let there = run-reaches n (turned t) p way spanned rails g in
    (turned-rear (run_on n (turned t) way) ∙ there.front, there.rails)

pub by-stops : (n : Network) (forward : Bool) (t : TrainState) (p : Place) (ahead way : ℕ) → IsTrue (is_sound n) → Placed n t → is_derailed t ≡ false → way_on n (leading_end forward t) ahead ≡ Some p
    → onward n p ≡ BufferStop → ahead ≤ way → leading_end forward (run_by n forward way t) ≡ p
by-stops n true t p ahead way is parts rails g stop less = run-stops n t p ahead way (spanned-spans n t parts.spanned rails) rails g stop less
by-stops n false t p ahead way is parts rails g stop less =
    let spanned = turned-spans n t is (and_from (is_on_track n.blocks t.front) (is_on_track n.blocks t.rear) parts.front parts.rear) (spanned-spans n t parts.spanned rails) in
    turned-rear (run_on n (turned t) way) ∙ run-stops n (turned t) p ahead way spanned rails g stop less

pub by-derails : (n : Network) (forward : Bool) (t : TrainState) (p : Place) (ahead way : ℕ) → IsTrue (is_sound n) → Placed n t → is_derailed t ≡ false → way_on n (leading_end forward t) ahead ≡ Some p
    → onward n p ≡ Against → ahead < way → (run_by n forward way t).derailed_at ≡ Some (switch_at n.turnouts (end_ahead p))
by-derails n true t p ahead way is parts rails g against less = run-derails n t p ahead way (spanned-spans n t parts.spanned rails) rails g against less
by-derails n false t p ahead way is parts rails g against less =
    let spanned = turned-spans n t is (and_from (is_on_track n.blocks t.front) (is_on_track n.blocks t.rear) parts.front parts.rear) (spanned-spans n t parts.spanned rails) in
    run-derails n (turned t) p ahead way spanned rails g against less

-- A derailed train stands.

pub by-derailed : (n : Network) (forward : Bool) (way : ℕ) (t : TrainState) → is_derailed t ≡ true → run_by n forward way t ≡ t
by-derailed n true way t h = run_on-derailed n t way h
by-derailed n false way t h = ap (λ (u : TrainState). turned u) (run_on-derailed n (turned t) way h) ∙ turned-back t
