-- What turnouts report, and what an observer knows by it.
use Rattle.std.proofs.Common.{◌≡◌, ◌≢◌, ◌⊎◌, inl, inr, ℕ, zero, suc, ◌<◌, ◌==◌, ◌&&◌, ◌||◌, ◌++◌, Bool, true, false, not, List, [], ◌∷◌, Option, Some, None, length, map, refl, ap, sym, subst, ◌∙◌, arith}
use Rattle.std.proofs.lemmas.Bool.{and_from, and_parts, and_right, cases_Bool, eq-eqb, not_from_false, or_left, or_parts, or_right}
use Rattle.std.specs.List.{list_any, slice_index_or}
use Rattle.std.specs.Prelude.{if◌then◌else◌}
use Rattle.layout_core.specs.declared.node.Node.{Node}
use Rattle.refresh_ring.specs.declared.pick.Power.{Power}
use Rattle.refresh_ring.specs.declared.pick.Power.TheVariants.{Off, Running as PowerOn, Paused}
use Rattle.railway.specs.declared.fault.PlaceFault.{PlaceFault}
use Rattle.railway.specs.declared.joint.Turnout.{Turnout}
use Rattle.railway.specs.declared.joint.TurnoutState.{TurnoutState}
use Rattle.railway.specs.declared.turnout_report.TurnoutReport.{TurnoutReport}
use Rattle.railway.specs.Course.{Happening, after, after_all, movements_of, movements_of_all, sensor_failed, unless_refused}
use Rattle.railway.specs.Course.Happening.{Elapses, FailuresEnd, Places, SensorFails, TurnoutFails}
use Rattle.railway.specs.Failures.{block_with, failing_by}
use Rattle.railway.specs.Feedback.{came_to_lie, full_turnouts, is_alone, movement_of, movements, movements_in, movements_within, onto, report_at, reports_of_switch, side_after}
use Rattle.railway.specs.Laws.{AreCompleted, IsCompleted, is_among, is_time}
use Rattle.railway.specs.Network.{is_moving, lies, turnouts_of}
use Rattle.railway.specs.Railway.{RailwayState, laid_in, place_fault, placed_in}
use Rattle.railway.specs.Turnouts.{moved_on_under, observed, same_bool}
use Rattle.railway.proofs.Leading.{same-turnouts}
use Rattle.railway.proofs.Lying.{run_through-turnouts}

-- Each turnout by itself.

by-itself : (power : Power) (micros : ℕ) (nodes : List Node) (states : List TurnoutState)
    → movements states (map (moved_on_under power micros) (map (observed nodes) states)) ≡ movements_within power micros nodes states
by-itself power micros nodes [] = refl
by-itself power micros nodes (state ∷ states) =
    ap (λ (reports : List TurnoutReport). onto (movement_of state (moved_on_under power micros (observed nodes state))) reports) (by-itself power micros nodes states)

pub in_parts : (railway : RailwayState) (micros : ℕ) (power : Power) (nodes : List Node)
    → movements_in railway micros power nodes ≡ movements_within power micros nodes railway.network.turnouts
in_parts railway micros power nodes =
    ap (λ (states : List TurnoutState). movements railway.network.turnouts states) (run_through-turnouts power nodes micros (laid_in nodes railway))
    ∙ by-itself power micros nodes railway.network.turnouts

-- Reports are of completed movements.

same-itself : (b : Bool) → same_bool b b ≡ true
same-itself true = refl
same-itself false = refl

same-true : (one two : Bool) → same_bool one two ≡ true → one ≡ two
same-true true true h = refl
same-true true false h = cc
same-true false true h = cc
same-true false false h = refl

same-false : (one two : Bool) → same_bool one two ≡ false → two ≢ one
same-false true true h = cc
same-false true false h = λ e. cc
same-false false true h = λ e. cc
same-false false false h = cc

differ-false : (one two : Bool) → two ≢ one → same_bool one two ≡ false
differ-false true true h = absurd (h refl)
differ-false true false h = refl
differ-false false true h = refl
differ-false false false h = absurd (h refl)

not-false : (b : Bool) → not b ≡ false → b ≡ true
not-false true h = refl
not-false false h = cc

not-true : (b : Bool) → not b ≡ true → b ≡ false
not-true true h = cc
not-true false h = refl

next-completed : (b a none : TurnoutState) (was is : List TurnoutState) (reports : List TurnoutReport) → AreCompleted was is none reports → AreCompleted (b ∷ was) (a ∷ is) none reports
next-completed b a none was is [] h = tt
next-completed b a none was is (report ∷ reports) h = (
  (let less : suc h.0.turnout < length (a ∷ is) = omega (arith, h.0.of_plan) in
      record { turnout = suc h.0.turnout; of_plan = less; feedback = h.0.feedback; reported = h.0.reported; lies_now = h.0.lies_now; moved = h.0.moved }),
  next-completed b a none was is reports h.1,
)

has-moved : (b a : TurnoutState) → (is_moving b || not (same_bool a.is_thrown b.is_thrown)) ≡ true → (is_moving b ≡ true) ⊎ (b.is_thrown ≢ a.is_thrown)
has-moved b a h = elim (cases_Bool (is_moving b)) [
  | inl moves ↦ inl moves
  | inr lay ↦ inr (same-false a.is_thrown b.is_thrown (not-true (same_bool a.is_thrown b.is_thrown) (sym (ap (λ (m : Bool). m || not (same_bool a.is_thrown b.is_thrown)) lay) ∙ h)))
]

first-completed : (b a none : TurnoutState) (was is : List TurnoutState) (reports : List TurnoutReport) → AreCompleted (b ∷ was) (a ∷ is) none reports → AreCompleted (b ∷ was) (a ∷ is) none (onto (movement_of b a) reports)
first-completed b a none was is reports h = elim (cases_Bool (a.turnout.has_feedback && came_to_lie b a)) [
  | inl does ↦
      let first : 0 < length (a ∷ is) = omega arith in
      let p = and_parts a.turnout.has_feedback (came_to_lie b a) does in
      let q = and_parts (lies a) (is_moving b || not (same_bool a.is_thrown b.is_thrown)) p.1 in
      subst (λ (made : Bool). AreCompleted (b ∷ was) (a ∷ is) none (onto (if made then Some (report_at a) else None) reports)) (sym does)
      (record { turnout = 0; of_plan = first; feedback = p.0; reported = refl; lies_now = q.0; moved = has-moved b a q.1 }, h)
  | inr none_made ↦ subst (λ (made : Bool). AreCompleted (b ∷ was) (a ∷ is) none (onto (if made then Some (report_at a) else None) reports)) (sym none_made) h
]

pub are-completed : (none : TurnoutState) (was is : List TurnoutState) → AreCompleted was is none (movements was is)
are-completed none [] is = tt
are-completed none (b ∷ was) [] = tt
are-completed none (b ∷ was) (a ∷ is) = first-completed b a none was is (movements was is) (next-completed b a none was is (movements was is) (are-completed none was is))

-- Each completed movement is reported.

onto-among : (report : TurnoutReport) (one : Option TurnoutReport) (reports : List TurnoutReport) → is_among report reports ≡ true → is_among report (onto one reports) ≡ true
onto-among report None reports h = h
onto-among report (Some one) reports h = or_right (one.switch == report.switch && same_bool one.is_thrown report.is_thrown) (is_among report reports) h

did-move : (b a : TurnoutState) → (is_moving b ≡ true) ⊎ (b.is_thrown ≢ a.is_thrown) → (is_moving b || not (same_bool a.is_thrown b.is_thrown)) ≡ true
did-move b a moved = elim moved [
  | inl moves ↦ or_left (is_moving b) (not (same_bool a.is_thrown b.is_thrown)) moves
  | inr differ ↦ or_right (is_moving b) (not (same_bool a.is_thrown b.is_thrown)) (not_from_false (same_bool a.is_thrown b.is_thrown) (differ-false a.is_thrown b.is_thrown differ))
]

first-among : (b a : TurnoutState) (reports : List TurnoutReport) → a.turnout.has_feedback ≡ true → lies a ≡ true → (is_moving b ≡ true) ⊎ (b.is_thrown ≢ a.is_thrown) → is_among (report_at a) (onto (movement_of b a) reports) ≡ true
first-among b a reports has lying moved =
    let came = and_from (lies a) (is_moving b || not (same_bool a.is_thrown b.is_thrown)) lying (did-move b a moved) in
    let does = and_from a.turnout.has_feedback (came_to_lie b a) has came in
    subst (λ (made : Bool). is_among (report_at a) (onto (if made then Some (report_at a) else None) reports) ≡ true) (sym does)
    (or_left (a.turnout.switch == a.turnout.switch && same_bool a.is_thrown a.is_thrown) (is_among (report_at a) reports)
    (and_from (a.turnout.switch == a.turnout.switch) (same_bool a.is_thrown a.is_thrown) (eq-eqb a.turnout.switch a.turnout.switch refl) (same-itself a.is_thrown)))

among : (none : TurnoutState) (was is : List TurnoutState) (i : ℕ) → length was ≡ length is → i < length is → (slice_index_or is i none).turnout.has_feedback ≡ true → lies (slice_index_or is i none) ≡ true
    → (is_moving (slice_index_or was i none) ≡ true) ⊎ ((slice_index_or was i none).is_thrown ≢ (slice_index_or is i none).is_thrown)
    → is_among (report_at (slice_index_or is i none)) (movements was is) ≡ true
among none [] [] i same less has lying moved = absurd (let no : ⊥ = omega (arith, less) in no)
among none [] (a ∷ is) i same less has lying moved = absurd (let no : ⊥ = omega (arith, same) in no)
among none (b ∷ was) [] i same less has lying moved = absurd (let no : ⊥ = omega (arith, less) in no)
among none (b ∷ was) (a ∷ is) zero same less has lying moved = first-among b a (movements was is) has lying moved
among none (b ∷ was) (a ∷ is) (suc i) same less has lying moved =
    let as_long : length was ≡ length is = omega (arith, same) in
    let before : i < length is = omega (arith, less) in
    onto-among (report_at (slice_index_or is i none)) (movement_of b a) (movements was is) (among none was is i as_long before has lying moved)

-- Turnouts stay those of the plan.

placed-turnouts : (fault : Option PlaceFault) (placed railway : RailwayState) → placed.network.turnouts ≡ railway.network.turnouts → (unless_refused fault placed railway).network.turnouts ≡ railway.network.turnouts
placed-turnouts None placed railway h = h
placed-turnouts (Some fault) placed railway h = refl

failed-turnouts : (block : Option ℕ) (occupied : Bool) (railway : RailwayState) → (sensor_failed block occupied railway).network.turnouts ≡ railway.network.turnouts
failed-turnouts None occupied railway = refl
failed-turnouts (Some block) occupied railway = refl

failing-turnout : (switch : Option ℕ) (state : TurnoutState) → (failing_by switch state).turnout ≡ state.turnout
failing-turnout None state = refl
failing-turnout (Some switch) state = refl

moved-turnout : (power : Power) (micros : ℕ) (state : TurnoutState) → (moved_on_under power micros state).turnout ≡ state.turnout
moved-turnout Off micros state = refl
moved-turnout PowerOn micros state = refl
moved-turnout Paused micros state = refl

pub of-plan : (railway : RailwayState) (happening : Happening) → turnouts_of (after railway happening).network.turnouts ≡ turnouts_of railway.network.turnouts
of-plan railway (Elapses micros power nodes) =
    ap turnouts_of (run_through-turnouts power nodes micros (laid_in nodes railway))
    ∙ same-turnouts (moved_on_under power micros) (moved-turnout power micros) (map (observed nodes) railway.network.turnouts)
    ∙ same-turnouts (observed nodes) (λ state. refl) railway.network.turnouts
of-plan railway (Places train position) = ap turnouts_of (placed-turnouts (place_fault railway train position) (placed_in railway train position) railway refl)
of-plan railway (SensorFails sensor occupied) = ap turnouts_of (failed-turnouts (block_with sensor railway.network.blocks) occupied railway)
of-plan railway (TurnoutFails switch) = same-turnouts (failing_by (Some switch)) (failing-turnout (Some switch)) railway.network.turnouts
of-plan railway FailuresEnd = same-turnouts (failing_by None) (failing-turnout None) railway.network.turnouts

as-many : (one two : List TurnoutState) → turnouts_of one ≡ turnouts_of two → length one ≡ length two
as-many one two h = sym (count one) ∙ ap length h ∙ count two where
  count : (states : List TurnoutState) → length (turnouts_of states) ≡ length states
  count [] = refl
  count (state ∷ states) = ap suc (count states)

pub each-reported : (railway : RailwayState) (happening : Happening) (none : TurnoutState) (report : TurnoutReport)
    → IsCompleted railway.network.turnouts (after railway happening).network.turnouts none report → is_among report (movements_of railway happening) ≡ true
each-reported railway happening none report h =
    subst (λ (one : TurnoutReport). is_among one (movements_of railway happening) ≡ true) (sym h.reported)
    (among none railway.network.turnouts (after railway happening).network.turnouts h.turnout
    (as-many railway.network.turnouts (after railway happening).network.turnouts (sym (of-plan railway happening))) h.of_plan h.feedback h.lies_now h.moved)

-- Only a time moves turnouts.

stays : (lying thrown : Bool) → (lying && (not lying || not (same_bool thrown thrown))) ≡ false
stays true true = refl
stays true false = refl
stays false thrown = refl

silent-one : (b a : TurnoutState) → came_to_lie b a ≡ false → movement_of b a ≡ None
silent-one b a h = ap (λ (made : Bool). if made then Some (report_at a) else None) (and_right a.turnout.has_feedback (came_to_lie b a) h)

silent-map : (f : TurnoutState → TurnoutState) → ((state : TurnoutState) → came_to_lie state (f state) ≡ false) → (states : List TurnoutState) → movements states (map f states) ≡ []
silent-map f h [] = refl
silent-map f h (state ∷ states) = ap (λ (one : Option TurnoutReport). onto one (movements states (map f states))) (silent-one state (f state) (h state)) ∙ silent-map f h states

silent-same : (states : List TurnoutState) → movements states states ≡ []
silent-same [] = refl
silent-same (state ∷ states) = ap (λ (one : Option TurnoutReport). onto one (movements states states)) (silent-one state state (stays (lies state) state.is_thrown)) ∙ silent-same states

failing-stays : (switch : Option ℕ) (state : TurnoutState) → came_to_lie state (failing_by switch state) ≡ false
failing-stays None state = stays (lies state) state.is_thrown
failing-stays (Some switch) state = stays (lies state) state.is_thrown

pub only-time : (railway : RailwayState) (happening : Happening) → is_time happening ≡ false → movements_of railway happening ≡ []
only-time railway (Elapses micros power nodes) h = cc
only-time railway (Places train position) h =
    ap (λ (is : List TurnoutState). movements railway.network.turnouts is) (placed-turnouts (place_fault railway train position) (placed_in railway train position) railway refl) ∙ silent-same railway.network.turnouts
only-time railway (SensorFails sensor occupied) h =
    ap (λ (is : List TurnoutState). movements railway.network.turnouts is) (failed-turnouts (block_with sensor railway.network.blocks) occupied railway) ∙ silent-same railway.network.turnouts
only-time railway (TurnoutFails switch) h = silent-map (failing_by (Some switch)) (failing-stays (Some switch)) railway.network.turnouts
only-time railway FailuresEnd h = silent-map (failing_by None) (failing-stays None) railway.network.turnouts

-- What an observer knows.

told-others : (feedback came : Bool) (a : TurnoutState) (rest : List TurnoutReport) (switch : ℕ) (side : Bool) → (feedback && (a.turnout.switch == switch)) ≡ false
    → side_after (onto (if feedback && came then Some (report_at a) else None) rest) switch side ≡ side_after rest switch side
told-others true true a rest switch side h = ap (λ (same : Bool). side_after rest switch (if same then a.is_thrown else side)) h
told-others true false a rest switch side h = refl
told-others false came a rest switch side h = refl

told-own : (a : TurnoutState) (rest : List TurnoutReport) (switch : ℕ) (side : Bool) → (a.turnout.switch == switch) ≡ true → side_after (report_at a ∷ rest) switch side ≡ side_after rest switch a.is_thrown
told-own a rest switch side h = ap (λ (same : Bool). side_after rest switch (if same then a.is_thrown else side)) h

others-silent : (was is : List TurnoutState) (switch : ℕ) (side : Bool) → list_any (reports_of_switch switch) (turnouts_of is) ≡ false → side_after (movements was is) switch side ≡ side
others-silent [] is switch side h = refl
others-silent (b ∷ was) [] switch side h = refl
others-silent (b ∷ was) (a ∷ is) switch side h =
    let p = or_parts (reports_of_switch switch a.turnout) (list_any (reports_of_switch switch) (turnouts_of is)) h in
    told-others a.turnout.has_feedback (came_to_lie b a) a (movements was is) switch side p.0 ∙ others-silent was is switch side p.1

stayed : (b a : TurnoutState) → lies a ≡ true → came_to_lie b a ≡ false → (lies b ≡ true) × (b.is_thrown ≡ a.is_thrown)
stayed b a lying h =
    let moved : (is_moving b || not (same_bool a.is_thrown b.is_thrown)) ≡ false = sym (ap (λ (l : Bool). l && (is_moving b || not (same_bool a.is_thrown b.is_thrown))) lying) ∙ h in
    let p = or_parts (is_moving b) (not (same_bool a.is_thrown b.is_thrown)) moved in
    (not-false (lies b) p.0, sym (same-true a.is_thrown b.is_thrown (not-false (same_bool a.is_thrown b.is_thrown) p.1)))

own-known : (b a : TurnoutState) (rest : List TurnoutReport) (switch : ℕ) (side : Bool) → reports_of_switch switch a.turnout ≡ true → (lies b ≡ true → side ≡ b.is_thrown) → lies a ≡ true
    → side_after (onto (movement_of b a) rest) switch side ≡ side_after rest switch a.is_thrown
own-known b a rest switch side own known lying =
    let p = and_parts a.turnout.has_feedback (a.turnout.switch == switch) own in
    elim (cases_Bool (came_to_lie b a)) [
      | inl came ↦
          ap (λ (made : Bool). side_after (onto (if made then Some (report_at a) else None) rest) switch side) (and_from a.turnout.has_feedback (came_to_lie b a) p.0 came)
          ∙ told-own a rest switch side p.1
      | inr stays_so ↦
          let q = stayed b a lying stays_so in
          ap (λ (one : Option TurnoutReport). side_after (onto one rest) switch side) (silent-one b a stays_so)
          ∙ ap (λ (s : Bool). side_after rest switch s) (known q.0 ∙ q.1)
    ]

step-known : (none : TurnoutState) (was is : List TurnoutState) (i switch : ℕ) (side : Bool) → length was ≡ length is → is_alone i switch (turnouts_of is) ≡ true
    → (lies (slice_index_or was i none) ≡ true → side ≡ (slice_index_or was i none).is_thrown) → lies (slice_index_or is i none) ≡ true → side_after (movements was is) switch side ≡ (slice_index_or is i none).is_thrown
step-known none was [] i switch side same alone known lying = cc
step-known none [] (a ∷ is) i switch side same alone known lying = absurd (let no : ⊥ = omega (arith, same) in no)
step-known none (b ∷ was) (a ∷ is) zero switch side same alone known lying =
    let p = and_parts (reports_of_switch switch a.turnout) (not (list_any (reports_of_switch switch) (turnouts_of is))) alone in
    own-known b a (movements was is) switch side p.0 known lying ∙ others-silent was is switch a.is_thrown (not-true (list_any (reports_of_switch switch) (turnouts_of is)) p.1)
step-known none (b ∷ was) (a ∷ is) (suc i) switch side same alone known lying =
    let p = and_parts (not (reports_of_switch switch a.turnout)) (is_alone i switch (turnouts_of is)) alone in
    let as_long : length was ≡ length is = omega (arith, same) in
    told-others a.turnout.has_feedback (came_to_lie b a) a (movements was is) switch side (not-true (reports_of_switch switch a.turnout) p.0)
    ∙ step-known none was is i switch side as_long p.1 known lying

side_after-append : (first second : List TurnoutReport) (switch : ℕ) (side : Bool) → side_after (first ++ second) switch side ≡ side_after second switch (side_after first switch side)
side_after-append [] second switch side = refl
side_after-append (report ∷ first) second switch side = side_after-append first second switch (if report.switch == switch then report.is_thrown else side)

pub always-known : (none : TurnoutState) (railway : RailwayState) (happenings : List Happening) (i switch : ℕ) (side : Bool) → is_alone i switch (turnouts_of railway.network.turnouts) ≡ true
    → (lies (slice_index_or railway.network.turnouts i none) ≡ true → side ≡ (slice_index_or railway.network.turnouts i none).is_thrown)
    → lies (slice_index_or (after_all railway happenings).network.turnouts i none) ≡ true
    → side_after (movements_of_all railway happenings) switch side ≡ (slice_index_or (after_all railway happenings).network.turnouts i none).is_thrown
always-known none railway [] i switch side alone known lying = known lying
always-known none railway (happening ∷ happenings) i switch side alone known lying =
    let next = after railway happening in
    let still_alone = subst (λ (turnouts : List Turnout). is_alone i switch turnouts ≡ true) (sym (of-plan railway happening)) alone in
    let same = as-many railway.network.turnouts next.network.turnouts (sym (of-plan railway happening)) in
    side_after-append (movements_of railway happening) (movements_of_all next happenings) switch side
    ∙ always-known none next happenings i switch (side_after (movements_of railway happening) switch side) still_alone
    (step-known none railway.network.turnouts next.network.turnouts i switch side same still_alone known) lying

-- After a full report.

full-silent : (states : List TurnoutState) (switch : ℕ) (side : Bool) → list_any (reports_of_switch switch) (turnouts_of states) ≡ false → side_after (full_turnouts states) switch side ≡ side
full-silent [] switch side h = refl
full-silent (state ∷ states) switch side h =
    let p = or_parts (reports_of_switch switch state.turnout) (list_any (reports_of_switch switch) (turnouts_of states)) h in
    told-others state.turnout.has_feedback (lies state) state (full_turnouts states) switch side p.0 ∙ full-silent states switch side p.1

pub full-known : (none : TurnoutState) (states : List TurnoutState) (i switch : ℕ) (before : Bool) → is_alone i switch (turnouts_of states) ≡ true → lies (slice_index_or states i none) ≡ true
    → side_after (full_turnouts states) switch before ≡ (slice_index_or states i none).is_thrown
full-known none [] i switch before alone lying = cc
full-known none (state ∷ states) zero switch before alone lying =
    let p = and_parts (reports_of_switch switch state.turnout) (not (list_any (reports_of_switch switch) (turnouts_of states))) alone in
    let q = and_parts state.turnout.has_feedback (state.turnout.switch == switch) p.0 in
    ap (λ (made : Bool). side_after (onto (if made then Some (report_at state) else None) (full_turnouts states)) switch before) (and_from state.turnout.has_feedback (lies state) q.0 lying)
    ∙ told-own state (full_turnouts states) switch before q.1 ∙ full-silent states switch state.is_thrown (not-true (list_any (reports_of_switch switch) (turnouts_of states)) p.1)
full-known none (state ∷ states) (suc i) switch before alone lying =
    let p = and_parts (not (reports_of_switch switch state.turnout)) (is_alone i switch (turnouts_of states)) alone in
    told-others state.turnout.has_feedback (lies state) state (full_turnouts states) switch before (not-true (reports_of_switch switch state.turnout) p.0)
    ∙ full-known none states i switch before p.1 lying
