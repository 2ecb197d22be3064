-- The premises of the law of how a train runs while its decoder does the same can be met.
use Rattle.std.proofs.Common.{◌≡◌, ℕ, zero, suc, ◌+◌, ◌-◌, ◌*◌, ◌<◌, ◌≤◌, Bool, true, false, inl, inr, List, [], ◌∷◌, length, Option, Some, None, refl, ap, ap₂, subst, ◌∙◌, arith}
use Rattle.std.proofs.lemmas.Bool.{and_from}
use Rattle.std.proofs.lemmas.List.Elements.{All-cons, All-nil}
use Rattle.std.specs.List.{list_all, slice_index_or}
use Rattle.std.specs.Prelude.{IsTrue, is_some}
use Rattle.dcc_packet.specs.declared.address.Address.TheVariants.{Short}
use Rattle.dcc_packet.specs.declared.steps.Motion.TheVariants.{Step}
use Rattle.dcc_packet.specs.declared.steps.Steps.TheVariants.{S128}
use Rattle.decoder_node.specs.Decoder.{fresh}
use Rattle.decoder_node.specs.declared.running.Running.{Running}
use Rattle.layout_core.specs.declared.node.Node.{Node}
use Rattle.layout_core.specs.declared.node.Node.TheVariants.{Accessory, Loco}
use Rattle.motion.specs.Velocity.{velocity}
use Rattle.motion.specs.declared.velocity.Drive.{Drive}
use Rattle.motion.specs.declared.velocity.Velocity.{Velocity}
use Rattle.refresh_ring.specs.declared.pick.Power.TheVariants.{Off, Running as PowerRuns}
use Rattle.railway.specs.declared.block.Block.{Block}
use Rattle.railway.specs.declared.block.End.TheVariants.{A, B}
use Rattle.railway.specs.declared.joint.TurnoutState.{TurnoutState}
use Rattle.railway.specs.declared.train.Place.{Place}
use Rattle.railway.specs.declared.train.TrainState.{TrainState}
use Rattle.railway.specs.Blocks.{default_block}
use Rattle.railway.specs.Course.{Happening, after_all}
use Rattle.railway.specs.Course.Happening.{Elapses, Places, SensorFails}
use Rattle.railway.specs.Driven.{AllLeaveAlone, AreDrivenBy, HasRun, IsOnWayOf, lies_over, reaches, runs_over, stays, time_in}
use Rattle.railway.specs.Failures.{none_failing}
use Rattle.railway.specs.Network.{Network, first_at, is_end_of, is_sound, marked, spans, under, way_on}
use Rattle.railway.specs.Places.{further, span}
use Rattle.railway.specs.Railway.{RailwayState, is_railway, is_train, laid_in}
use Rattle.railway.specs.Running.{ridden, rode, run_for}
use Rattle.railway.specs.Trains.{default_position, default_state, standstill}
use Rattle.railway.specs.Turnouts.{is_moved}
use Rattle.railway.proofs.Facts.{not-both}
use Rattle.railway.proofs.Keeping.{marked-whole, spans-spanned, train-from, way-spans}
use Rattle.railway.proofs.Lying.{run_through-turnouts}
use Rattle.railway.proofs.Throwing.{first-part, first-zero}
use Rattle.railway.proofs.Ways.{run_on-moved, way_on-within}

-- a line of a metre
abbrev line : Network
line = record { blocks = record default_block { length = 1000 } ∷ []; joints = []; turnouts = [] }

-- a femtometre of it, with end B ahead
abbrev on_line : ℕ → Place
on_line at = record { block = 0; at = at; toward = B }

-- a train of 100 millimetres that has its front 200 millimetres from end A
abbrev put : TrainState
put = record default_state { top = 300; length = 100; front = on_line 199999999999999; rear = on_line 100000000000000 }

train : TrainState
train = marked line put

abbrev start : RailwayState
start = record { network = line; trains = train ∷ []; failing = none_failing }

-- it is to run forward at step 63 of 128: at 150 millimetres a second
abbrev asked : Running
asked = record { motion = Step S128 63; forward = true; functions = 0 }

abbrev nodes : List Node
nodes = Loco (fresh (record { address = Short 3; reversed = false; fourteen = false }) asked) ∷ []

-- a sensor fails, another train is to be placed, and a second passes
abbrev happenings : List Happening
happenings = SensorFails 3 true ∷ Places 1 default_position ∷ Elapses 1000000 PowerRuns nodes ∷ []

stands_on : way_on line (on_line 100000000000000) (span put) ≡ Some (on_line 199999999999999)
stands_on = way_on-within line (on_line 100000000000000) (span put) (omega arith)

is_line : is_railway start ≡ true
unfolding train
is_line =
    let spanned : spans line put ≡ true = way-spans line put stands_on in
    let whole = marked-whole line put (spans-spanned line put spanned) in
    and_from (is_sound line) (list_all (is_train line) (train ∷ [])) refl
    (and_from (is_train line train) true (train-from line train refl refl whole refl refl) refl)

power_is_on : PowerRuns ≡ Off → ⊥
power_is_on h = cc

other_train : ◌≡◌ {A = ℕ} 1 0 → ⊥
other_train h = omega (arith, h)

abbrev TheLaw : Type 0
TheLaw = (railway : RailwayState) (happenings : List Happening) (i : ℕ) (none : TrainState) (running : Running) → IsTrue (is_railway railway) → i < length railway.trains
    → AllLeaveAlone i running railway happenings → AreDrivenBy (slice_index_or railway.trains i none).decoder running happenings
    → HasRun railway.network running (time_in happenings) (slice_index_or railway.trains i none) (slice_index_or (after_all railway happenings).trains i none)

-- After this second the train has moved 150 millimetres.
after_a_second : TheLaw → (slice_index_or (after_all start happenings).trains 0 default_state).front ≡ on_line 349999999999999
unfolding train
after_a_second law =
    let run = law start happenings 0 default_state asked is_line (omega arith) (tt, (other_train, (All-nil (λ state. IsOnWayOf line asked 1000000 (marked line put) state → IsTrue (stays nodes state)), tt))) (tt, (tt, ((power_is_on, refl), tt))) in
    (run.way (on_line 349999999999999) (record {
      at_once = refl;
      on_rails = refl;
      leads = way_on-within line (on_line 199999999999999) 150000000000000 (omega arith);
    })).0

-- A turnout elsewhere is thrown meanwhile.

abbrev metre : Block
metre = record default_block { length = 1000 }

abbrev elsewhere : TurnoutState
elsewhere = record {
  turnout = record {
    switch = 1;
    common = record { block = 1; end = B };
    closed = record { block = 2; end = A };
    thrown = record { block = 3; end = A };
    time = 0;
    has_feedback = false;
  };
  decoder = 1;
  is_thrown = false;
  left = 0;
  outputs = 0;
  fails = false;
}

-- the line, and three blocks of a metre at a turnout
abbrev yard : Network
yard = record { blocks = metre ∷ metre ∷ metre ∷ metre ∷ []; joints = []; turnouts = elsewhere ∷ [] }

-- a train as above
abbrev put_at : (front rear : ℕ) → Velocity → List Bool → TrainState
put_at front rear v marks = record default_state { top = 300; length = 100; front = on_line front; rear = on_line rear; velocity = v; under = marks }

there : TrainState
there = marked yard put

abbrev start_there : RailwayState
start_there = record { network = yard; trains = there ∷ []; failing = none_failing }

-- beside its decoder one that has the first of its outputs on
abbrev throwing : List Node
throwing = Loco (fresh (record { address = Short 3; reversed = false; fourteen = false }) asked) ∷ Accessory (fresh 1 1) ∷ []

-- it throws the turnout
throws : is_moved throwing elsewhere ≡ true
throws = refl

abbrev drive : Drive
drive = record { forward = true; speed = 150000000; momentum = None }

one_microsecond : (front rear : ℕ) (v : Velocity) (marks : List Bool) → front + 150000000 ≤ 999999999999999 → rear ≤ front
    → rode yard drive (put_at front rear v marks) ≡ put_at (front + 150000000) (rear + 150000000) (velocity true 150000000) marks
one_microsecond front rear v marks h less = run_on-moved yard (put_at front rear (velocity true 150000000) marks) 150000000 refl (omega (arith, h)) (omega (arith, h, less))

microseconds : (k front rear : ℕ) (v : Velocity) (marks : List Bool) → front + 150000000 * k ≤ 999999999999999 → rear ≤ front
    → (w : Velocity) × (ridden yard drive k (put_at front rear v marks) ≡ put_at (front + 150000000 * k) (rear + 150000000 * k) w marks)
unfolding ridden
microseconds zero front rear v marks h less =
    let ahead : front ≡ front + 150000000 * 0 = omega arith in
    let behind : rear ≡ rear + 150000000 * 0 = omega arith in
    (v, ap₂ (λ (x y : ℕ). put_at x y v marks) ahead behind)
microseconds (suc k) front rear v marks h less =
    let rest = microseconds k (front + 150000000) (rear + 150000000) (velocity true 150000000) marks (omega (arith, h)) (omega (arith, less)) in
    let ahead : front + 150000000 + 150000000 * k ≡ front + 150000000 * suc k = omega arith in
    let behind : rear + 150000000 + 150000000 * k ≡ rear + 150000000 * suc k = omega arith in (
      rest.0,
      ap (λ (u : TrainState). ridden yard drive k u) (one_microsecond front rear v marks (omega (arith, h)) less)
          ∙ rest.1 ∙ ap₂ (λ (x y : ℕ). put_at x y rest.0 marks) ahead behind,
    )

-- within the line a way reaches no turnout
unreached : (at way : ℕ) (state : TurnoutState) → at + way ≤ 999999999999999 → reaches yard (on_line at) way state ≡ false
unreached at way state h =
    let rest : way - way ≡ 0 = omega arith in
    ap (λ (o : Option Place). is_some o)
    (first-part (λ end. is_end_of end state) yard (on_line at) way way (omega arith) (omega (arith, h))
    ∙ ap (λ (w : ℕ). first_at (λ end. is_end_of end state) yard (further (on_line at) way) w) rest
    ∙ first-zero (λ end. is_end_of end state) yard (further (on_line at) way))

away : IsOnWayOf yard asked 1000000 there elsewhere → ⊥
unfolding there
away met =
    let ran = microseconds met.moment 199999999999999 100000000000000 standstill (under yard put) (omega (arith, met.within)) (omega arith) in
    let front : ℕ = 199999999999999 + 150000000 * met.moment in
    let rear : ℕ = 100000000000000 + 150000000 * met.moment in
    let u : TrainState = marked yard (put_at front rear ran.0 (under yard put)) in
    let is : run_for yard met.moment (Some asked) (marked yard put) ≡ u = ap (λ (w : TrainState). marked yard w) ran.1 in
    elim met.met [
      | inl lies ↦
          not-both (lies_over yard u elsewhere) (subst (λ (w : TrainState). lies_over yard w elsewhere ≡ true) is lies)
          (unreached rear 99999999999999 elsewhere (omega (arith, met.within)))
      | inr runs ↦
          not-both (runs_over yard asked u elsewhere) (subst (λ (w : TrainState). runs_over yard asked w elsewhere ≡ true) is runs.1)
          (unreached rear (99999999999999 + 150000000) elsewhere (omega (arith, met.within)))
    ]

is_yard : is_railway start_there ≡ true
unfolding there
is_yard =
    let spanned : spans yard put ≡ true = way-spans yard put (way_on-within yard (on_line 100000000000000) (span put) (omega arith)) in
    let whole = marked-whole yard put (spans-spanned yard put spanned) in
    and_from (is_sound yard) (list_all (is_train yard) (there ∷ [])) refl
    (and_from (is_train yard there) true (train-from yard there refl refl whole refl refl) refl)

-- at the end of the second it is thrown
thrown : (slice_index_or (after_all start_there (Elapses 1000000 PowerRuns throwing ∷ [])).network.turnouts 0 elsewhere).is_thrown ≡ true
thrown = ap (λ (states : List TurnoutState). (slice_index_or states 0 elsewhere).is_thrown) (run_through-turnouts PowerRuns throwing 1000000 (laid_in throwing start_there))

-- After this second the train has moved as far.
after_a_second_there : TheLaw → (slice_index_or (after_all start_there (Elapses 1000000 PowerRuns throwing ∷ [])).trains 0 default_state).front ≡ on_line 349999999999999
unfolding there
after_a_second_there law =
    let alone = All-cons (λ state. IsOnWayOf yard asked 1000000 there state → IsTrue (stays throwing state)) elsewhere [] (λ met. absurd (away met))
    (All-nil (λ state. IsOnWayOf yard asked 1000000 there state → IsTrue (stays throwing state))) in
    let run = law start_there (Elapses 1000000 PowerRuns throwing ∷ []) 0 default_state asked is_yard (omega arith) (alone, tt) ((power_is_on, refl), tt) in
    (run.way (on_line 349999999999999) (record {
      at_once = refl;
      on_rails = refl;
      leads = way_on-within yard (on_line 199999999999999) 150000000000000 (omega arith);
    })).0
