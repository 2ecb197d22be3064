-- A train runs as it would while turnouts elsewhere than on its way move.
use Rattle.std.proofs.Common.{◌≡◌, ℕ, zero, suc, ◌+◌, ◌-◌, ◌*◌, ◌<◌, ◌==◌, ◌&&◌, Bool, true, false, not, inl, inr, List, [], ◌∷◌, Option, Some, None, map, refl, ap, ap₂, sym, subst, ◌∙◌, arith}
use Rattle.std.proofs.lemmas.Bool.{and_from, and_parts, cases_Bool, eqb-true}
use Rattle.std.proofs.lemmas.List.Elements.{All-head, All-tail}
use Rattle.std.specs.List.{slice_index_or}
use Rattle.std.specs.Prelude.{if◌then◌else◌, All, IsTrue, is_some}
use Rattle.decoder_node.specs.declared.running.Running.{Running}
use Rattle.layout_core.specs.declared.node.Node.{Node}
use Rattle.motion.specs.Velocity.{next_velocity}
use Rattle.motion.specs.declared.velocity.Drive.{Drive}
use Rattle.motion.specs.declared.velocity.Velocity.{Velocity}
use Rattle.railway.specs.declared.block.BlockEnd.{BlockEnd}
use Rattle.railway.specs.declared.exit.Onward.{Onward}
use Rattle.railway.specs.declared.exit.Onward.TheVariants.{To, BufferStop, Against}
use Rattle.railway.specs.declared.joint.TurnoutState.{TurnoutState}
use Rattle.railway.specs.declared.train.Place.{Place}
use Rattle.railway.specs.declared.train.TrainState.{TrainState}
use Rattle.railway.specs.Blocks.{length_of, no_blocks}
use Rattle.railway.specs.Driven.{trailing_end, next_velocity_of, reaches, stays}
use Rattle.railway.specs.Network.{Network, first_at, is_end_of, is_sound, leaves_at, marked, off_rails, onward, run_on, spans, step, stepped, way_on}
use Rattle.railway.specs.Places.{end_ahead, is_derailed, span, still, to_end, turned}
use Rattle.railway.specs.Railway.{is_train}
use Rattle.railway.specs.Running.{is_within, ridden, rode, run_by, run_for}
use Rattle.railway.specs.Trains.{drive_of}
use Rattle.railway.specs.Turnouts.{advanced, is_moved, moved_on, observed, same_bool, side_in}
use Rattle.railway.proofs.Facts.{not-both, or-none}
use Rattle.railway.proofs.Keeping.{by-step, step-spans, turned-spans, spans-way, way-spans, whole-of}
use Rattle.railway.proofs.Pieces.{same-switches}
use Rattle.railway.proofs.Runs.{parts-of}
use Rattle.railway.proofs.Throwing.{Alike, Changes, all-none, changed, covered-changed, end_of_any, first-next, laid-changes, none-leaves, same-onward}
use Rattle.railway.proofs.Ways.{run_on-derailed}

-- Turnouts that a way does not reach.

-- a way that leads to an end of a turnout reaches it
pub reaches-there : (n : Network) (p q : Place) (way part : ℕ) (state : TurnoutState) → part < way → way_on n p part ≡ Some q → leaves_at (λ end. is_end_of end state) n q ≡ true → reaches n p way state ≡ true
reaches-there n p q way part state less there leaves = by (first_at (λ end. is_end_of end state) n p way) refl where
  by : (found : Option Place) → first_at (λ end. is_end_of end state) n p way ≡ found → reaches n p way state ≡ true
  by (Some place) e = ap (λ (o : Option Place). is_some o) e
  by None e = absurd (not-both (leaves_at (λ end. is_end_of end state) n q) leaves (none-leaves (λ end. is_end_of end state) n p q way part e less there))

off-end : (is : TurnoutState → Bool) (states : List TurnoutState) (end : BlockEnd) → All (λ state. is_end_of end state ≡ true → is state ≡ false) states → end_of_any is states end ≡ false
off-end is [] end h = refl
off-end is (state ∷ states) end h =
    or-none (is_end_of end state && is state) (end_of_any is states end) this (off-end is states end (All-tail (λ s. is_end_of end s ≡ true → is s ≡ false) state states h)) where
      this : (is_end_of end state && is state) ≡ false
      this = elim (cases_Bool (is_end_of end state)) [
        | inl has ↦ ap (λ (b : Bool). b && is state) has ∙ All-head (λ s. is_end_of end s ≡ true → is s ≡ false) state states h has
        | inr other ↦ ap (λ (b : Bool). b && is state) other
      ]

-- a way that reaches none of these turnouts is at none of their ends
pub off-way : (is : TurnoutState → Bool) (n : Network) (p : Place) (way : ℕ) → All (λ state. reaches n p way state ≡ true → is state ≡ false) n.turnouts → first_at (end_of_any is n.turnouts) n p way ≡ None
off-way is n p way h = all-none (end_of_any is n.turnouts) n p way leaves where
  leaves : (part : ℕ) (q : Place) → part < way → way_on n p part ≡ Some q → leaves_at (end_of_any is n.turnouts) n q ≡ false
  leaves part q less there = elim (cases_Bool (to_end (length_of n.blocks q.block) q == 0)) [
    | inl ends ↦
        ap (λ (b : Bool). b && end_of_any is n.turnouts (end_ahead q)) ends
        ∙ off-end is n.turnouts (end_ahead q)
        (λ k d within has. h k d within
        (reaches-there n p q way part (slice_index_or n.turnouts k d) less there (ap (λ (b : Bool). b && is_end_of (end_ahead q) (slice_index_or n.turnouts k d)) ends ∙ has)))
    | inr goes ↦ ap (λ (b : Bool). b && end_of_any is n.turnouts (end_ahead q)) goes
  ]

first-less : (is : BlockEnd → Bool) (n : Network) (p : Place) (way : ℕ) → first_at is n p (suc way) ≡ None → first_at is n p way ≡ None
first-less is n p way h = all-none is n p way (λ part q less there. none-leaves is n p q (suc way) part h (omega (arith, less)) there)

-- Turnouts that stay, while others are moved.

pub record Stays (nodes : List Node) (state : TurnoutState) : Type 0 where
  pub lies : state.left ≡ 0
  pub unmoved : is_moved nodes state ≡ false

not-true : (b : Bool) → not b ≡ true → b ≡ false
not-true true h = cc
not-true false h = refl

not-false : (b : Bool) → not b ≡ false → b ≡ true
not-false true h = refl
not-false false h = cc

pub stays-parts : (nodes : List Node) (state : TurnoutState) → stays nodes state ≡ true → Stays nodes state
stays-parts nodes state h =
    let parts = and_parts (state.left == 0) (not (is_moved nodes state)) h in
    record { lies = eqb-true state.left 0 parts.0; unmoved = not-true (is_moved nodes state) parts.1 }

still-lies : (nodes : List Node) (state : TurnoutState) → Stays nodes state → (observed nodes state).left ≡ 0
still-lies nodes state h =
    ap (λ (b : Bool). if b then state.left else state.turnout.time * 1000 - state.left) (not-false (same_bool (side_in nodes state) state.is_thrown) h.unmoved) ∙ h.lies

-- a turnout does not stay
abbrev pub moves : List Node → TurnoutState → Bool
moves nodes state = not (stays nodes state)

-- turnouts are changed, and those that stay lead where they did, and lie
pub record KeepsLying (nodes : List Node) (f : TurnoutState → TurnoutState) : Type 0 where
  pub changes : Changes f (moves nodes)
  pub lies : (state : TurnoutState) → moves nodes state ≡ false → (f state).left ≡ 0

pub observed-keeps : (nodes : List Node) → KeepsLying nodes (observed nodes)
observed-keeps nodes = record {
  changes = record {
    keeps = λ state. refl;
    others = λ state h. (laid-changes nodes).others state (stays-parts nodes state (not-false (stays nodes state) h)).unmoved;
  };
  lies = λ state h. still-lies nodes state (stays-parts nodes state (not-false (stays nodes state) h));
}

on-alike : (micros : ℕ) (state next : TurnoutState) → next.left ≡ 0 → Alike state next → Alike state (moved_on micros next)
on-alike micros state next lies h =
    let none : next.left - micros ≡ next.left = omega (arith, lies) in
    record { turnout = h.turnout; thrown = h.thrown; moving = ap (λ (left : ℕ). not (left == 0)) none ∙ h.moving }

on-lies : (micros : ℕ) (state : TurnoutState) → state.left ≡ 0 → (moved_on micros state).left ≡ 0
on-lies micros state lies = omega (arith, lies)

pub moved_on-keeps : (nodes : List Node) (micros : ℕ) (f : TurnoutState → TurnoutState) → KeepsLying nodes f → KeepsLying nodes (λ state. moved_on micros (f state))
moved_on-keeps nodes micros f h = record {
  changes = record {
    keeps = λ state. h.changes.keeps state;
    others = λ state stay. on-alike micros state (f state) (h.lies state stay) (h.changes.others state stay);
  };
  lies = λ state stay. on-lies micros (f state) (h.lies state stay);
}

both-changed : (micros : ℕ) (f : TurnoutState → TurnoutState) (states : List TurnoutState) → map (moved_on micros) (map f states) ≡ map (λ state. moved_on micros (f state)) states
both-changed micros f [] = refl
both-changed micros f (state ∷ states) = ap (λ (rest : List TurnoutState). moved_on micros (f state) ∷ rest) (both-changed micros f states)

pub advanced-changed : (micros : ℕ) (f : TurnoutState → TurnoutState) (n : Network) → advanced micros (changed f n) ≡ changed (λ state. moved_on micros (f state)) n
advanced-changed micros f n = ap (λ (states : List TurnoutState). record n { turnouts = states }) (both-changed micros f n.turnouts)

-- A train on whose way none of the changed turnouts is.

stepped-elsewhere : (f : TurnoutState → TurnoutState) (is : TurnoutState → Bool) → Changes f is → (n : Network) (t : TrainState) (front rear : Onward) → stepped (changed f n) t front rear ≡ stepped n t front rear
stepped-elsewhere f is c n t (To front) (To rear) = refl
stepped-elsewhere f is c n t (To front) BufferStop = refl
stepped-elsewhere f is c n t (To front) Against = refl
stepped-elsewhere f is c n t BufferStop rear = refl
stepped-elsewhere f is c n t Against rear = ap (λ (switch : ℕ). record (still t) { derailed_at = Some switch }) (same-switches f is c n.turnouts (end_ahead t.front))

step-elsewhere : (f : TurnoutState → TurnoutState) (is : TurnoutState → Bool) → Changes f is → (n : Network) (t : TrainState)
    → leaves_at (end_of_any is n.turnouts) n t.front ≡ false → leaves_at (end_of_any is n.turnouts) n t.rear ≡ false → step (changed f n) t ≡ step n t
step-elsewhere f is c n t front rear =
    ap₂ (λ (ahead behind : Onward). if is_derailed t then t else stepped (changed f n) t ahead behind) (same-onward f is c n t.front front) (same-onward f is c n t.rear rear)
    ∙ ap (λ (u : TrainState). if is_derailed t then t else u) (stepped-elsewhere f is c n t (onward n t.front) (onward n t.rear))

run-elsewhere : (f : TurnoutState → TurnoutState) (is : TurnoutState → Bool) → Changes f is → (n : Network) (t : TrainState) (way : ℕ) → spans n t ≡ true
    → first_at (end_of_any is n.turnouts) n t.rear (span t + way) ≡ None → run_on (changed f n) t way ≡ run_on n t way
unfolding run_on way_on
run-elsewhere f is c n t zero h none = refl
run-elsewhere f is c n t (suc way) h none =
    let m : Network = changed f n in
    let ends : BlockEnd → Bool = end_of_any is n.turnouts in
    let one_more : span t + suc way ≡ suc (span t + way) = omega arith in
    let all : first_at ends n t.rear (suc (span t + way)) ≡ None = sym (ap (λ (w : ℕ). first_at ends n t.rear w) one_more) ∙ none in
    let front : leaves_at ends n t.front ≡ false = none-leaves ends n t.rear t.front (suc (span t + way)) (span t) all (omega arith) (spans-way n t h) in
    let rear : leaves_at ends n t.rear ≡ false = none-leaves ends n t.rear t.rear (suc (span t + way)) 0 all (omega arith) refl in
    ap (λ (u : TrainState). run_on m u way) (step-elsewhere f is c n t front rear)
    ∙ by-step (λ (u : TrainState). run_on m u way ≡ run_on n u way) n t
    (run-elsewhere f is c n t way h (first-less ends n t.rear (span t + way) all))
    (λ _. run_on-derailed m (off_rails n t.front t) way refl ∙ sym (run_on-derailed n (off_rails n t.front t) way refl))
    (λ next last rails ahead behind.
    run-elsewhere f is c n (record t { front = next; rear = last }) way
    (way-spans n (record t { front = next; rear = last }) (step-spans n t next last h ahead behind))
    (sym (first-next ends n t.rear last (span t + way) rear behind) ∙ all))

by-elsewhere : (f : TurnoutState → TurnoutState) (is : TurnoutState → Bool) → Changes f is → (n : Network) (forward : Bool) (t : TrainState) (way : ℕ) → IsTrue (is_sound n) → is_within n.blocks t ≡ true → spans n t ≡ true
    → first_at (end_of_any is n.turnouts) n (trailing_end forward t) (span t + way) ≡ None → run_by (changed f n) forward way t ≡ run_by n forward way t
by-elsewhere f is c n true t way sound within h none = run-elsewhere f is c n t way h none
by-elsewhere f is c n false t way sound within h none = ap (λ (u : TrainState). turned u) (run-elsewhere f is c n (turned t) way (turned-spans n t sound within h) none)

-- A microsecond.

pub for-derailed : (n : Network) (micros : ℕ) (running : Option Running) (t : TrainState) → is_derailed t ≡ true → run_for n micros running t ≡ t
for-derailed n micros running t h = ap (λ (b : Bool). if b then t else marked n (ridden n (drive_of t running) micros t)) h

pub for-rails : (n : Network) (micros : ℕ) (running : Option Running) (t : TrainState) → is_derailed t ≡ false → run_for n micros running t ≡ marked n (ridden n (drive_of t running) micros t)
for-rails n micros running t h = ap (λ (b : Bool). if b then t else marked n (ridden n (drive_of t running) micros t)) h

pub one-ridden : (n : Network) (d : Drive) (t : TrainState) → ridden n d 1 t ≡ rode n d t
unfolding ridden
one-ridden n d t = refl

rode-elsewhere : (f : TurnoutState → TurnoutState) (is : TurnoutState → Bool) → Changes f is → (n : Network) (d : Drive) (t : TrainState) → IsTrue (is_sound n) → is_within n.blocks t ≡ true → spans n t ≡ true
    → first_at (end_of_any is n.turnouts) n (trailing_end (next_velocity d t.velocity).forward t) (span t + (next_velocity d t.velocity).speed) ≡ None → rode (changed f n) d t ≡ rode n d t
rode-elsewhere f is c n d t sound within h none =
    let v : Velocity = next_velocity d t.velocity in
    ap (λ (u : TrainState). if is_derailed t then t else u) (by v none) where
      by : (v : Velocity) → first_at (end_of_any is n.turnouts) n (trailing_end v.forward t) (span t + v.speed) ≡ None
          → run_by (changed f n) v.forward v.speed (record t { velocity = v }) ≡ run_by n v.forward v.speed (record t { velocity = v })
      by v none = by-elsewhere f is c n v.forward (record t { velocity = v }) v.speed sound within h none

-- a train runs for a microsecond as it would
pub one-elsewhere : (f : TurnoutState → TurnoutState) (is : TurnoutState → Bool) → Changes f is → (n : Network) (running : Running) (t : TrainState) → IsTrue (is_sound n) → is_train n t ≡ true
    → (is_derailed t ≡ false → first_at (end_of_any is n.turnouts) n (trailing_end (next_velocity_of running t).forward t) (span t + (next_velocity_of running t).speed) ≡ None)
    → (is_derailed t ≡ false → first_at (end_of_any is n.turnouts) n (run_for n 1 (Some running) t).rear (span (run_for n 1 (Some running) t)) ≡ None)
    → run_for (changed f n) 1 (Some running) t ≡ run_for n 1 (Some running) t
one-elsewhere f is c n running t sound h over there = elim (cases_Bool (is_derailed t)) [
  | inl derailed ↦ for-derailed (changed f n) 1 (Some running) t derailed ∙ sym (for-derailed n 1 (Some running) t derailed)
  | inr rails ↦
      let m : Network = changed f n in
      let d : Drive = drive_of t (Some running) in
      let u : TrainState = rode n d t in
      let parts = parts-of n t h in
      let within : is_within n.blocks t ≡ true = and_from _ _ parts.front parts.rear in
      let itself : run_for n 1 (Some running) t ≡ marked n u = for-rails n 1 (Some running) t rails ∙ ap (λ (w : TrainState). marked n w) (one-ridden n d t) in
      let none : first_at (end_of_any is n.turnouts) n u.rear (span u) ≡ None =
      subst (λ (w : TrainState). first_at (end_of_any is n.turnouts) n w.rear (span w) ≡ None) itself (there rails) in
      for-rails m 1 (Some running) t rails ∙ ap (λ (w : TrainState). marked m w) (one-ridden m d t)
      ∙ ap (λ (w : TrainState). marked m w) (rode-elsewhere f is c n d t sound within (whole-of n t parts.whole rails).spanned (over rails))
      ∙ ap (λ (marks : List Bool). record u { under = marks }) (covered-changed f is c n u.rear (span u) no_blocks none)
      ∙ sym itself
]
