-- Where turns follow messages, all those of one pass before a client sends a byte or connects.
use Rattle.std.proofs.Common.{◌≡◌, ℕ, zero, suc, ◌-◌, ◌<◌, ◌≤◌, ◌⊎◌, inl, inr, Bool, true, false, if◌then◌else◌, List, [], ◌∷◌, ◌++◌, length, map, Option, refl, ap, ap₂, sym, subst, ◌∙◌, arith}
use Rattle.std.specs.Prelude.{◌==◌, ◌&&◌, ◌||◌, nat_lt, slice_set, Ok, Err}
use Rattle.std.specs.List.{flat_map, list_all, list_any}
use Rattle.std.proofs.lemmas.Bool.{and_parts, cases_eq}
use Rattle.std.proofs.lemmas.Bool.Decides.{nat_tests}
use Rattle.std.proofs.lemmas.List.{get_or-set_same, get_or-set_other, length-set}
use Rattle.bus.specs.declared.outcome.Outcome.{Outcome}
use Rattle.bus.specs.declared.outcome.Outcome.TheVariants.{Connected, Disconnected, StatesRequested, Nothing, Placed, DeviceAnswered, PlaceRequested, DeviceRequested, Rejected, Reported, Sent, Programmed, TurnBegan, TurnsRequested}
use Rattle.layout_core.specs.declared.node.Node.{Node}
use Rattle.railway.specs.Railway.{RailwayState}
use Rattle.bus.specs.declared.event.Event.{Event}
use Rattle.bus.specs.declared.event.Event.TheVariants.{Connects, Disconnects, Elapses, Receives, Reports, Programs, Turn}
use Rattle.bus.specs.Bus.{outcome_of}
use Rattle.bus_server.specs.declared.pace.Pace.{Pace}
use Rattle.bus_server.specs.declared.pace.Pace.TheVariants.{AfterMessages}
use Rattle.bus_server.specs.declared.track_due.Cause.{Cause}
use Rattle.bus_server.specs.declared.track_due.Cause.TheVariants.{Departed, Message, Request}
use Rattle.bus_server.specs.declared.track_due.TurnsDue.{TurnsDue}
use Rattle.bus_server.specs.ServerState.{Applies, AppliesAll, Handled, IsWithReports, LoggedEvent, RunsEvent, RunsEvents, ServerState, events_of, round_start, with_backlog}
use Rattle.bus_server.specs.SendQueues.{names_client}
use Rattle.bus_server.specs.TrackDue.{after_answer, departed, due_after, due_to, follow_message, is_due, is_message, is_request, less, none_due}
use Rattle.bus_server.specs.Observations.{Observation, Observed}
use Rattle.programming_track.specs.Bench.{BenchState}
use Rattle.bus_server.specs.Placement.{answered}
use Rattle.bus_server.specs.Programming.{programmed}
use Rattle.bus_server.specs.Repeats.{BeginsInTurns, TurnsFollow, is_from_client, is_sent, left_after}
use Rattle.bus_server.specs.Running.{Round, RunsRounds, logged_in}
use Rattle.bus_server.specs.Sensors.{is_report}
use Rattle.bus_server.specs.Track.{RunsSteps, RunsTrack, RunsTurns, RunsTurnsOf, is_turn, with_turns_run}
use Rattle.bus_server.specs.TransportEvents.{Accepted, NonePending, PeerClosed, Polled, ReadBlocked, Received, Refused, ServerClosed, TransportEvent, WriteBlocked, Written}
use Rattle.bus_server.proofs.Placing.{placed_by}
use Rattle.bus_server.proofs.Rounding.{round_serves}
use Rattle.bus_server.proofs.Tracking.{reports_keep, steps_run, turns_keep}

no_both : {P : Type 0} (a : Bool) → a ≡ true → a ≡ false → P
no_both true h k = cc
no_both false h k = cc

both_false : (a b : Bool) → (a || b) ≡ false → (a ≡ false) × (b ≡ false)
both_false false false h = (refl, refl)
both_false false true h = cc
both_false true b h = cc

-- Turns that follow a message are due.

-- so many are left, or more
abbrev pub Owes : (left : ℕ) → List TurnsDue → Type 0
Owes left turns = (left ≡ 0) ⊎ ((client : ℕ) × (is_message (due_to turns client).cause ≡ true) × (left ≤ (due_to turns client).left))

any_none : (turns : List TurnsDue) (client : ℕ) → list_any follow_message turns ≡ false → follow_message (due_to turns client) ≡ false
any_none [] client none = refl
any_none (owed ∷ turns) zero none = (both_false (follow_message owed) (list_any follow_message turns) none).0
any_none (owed ∷ turns) (suc client) none = any_none turns client (both_false (follow_message owed) (list_any follow_message turns) none).1

first_false : (a b : Bool) → (a && b) ≡ false → b ≡ true → a ≡ false
first_false false b h is = refl
first_false true true h is = cc
first_false true false h is = cc

zero_left : (left : ℕ) (is : Bool) → (nat_lt 0 left && is) ≡ false → is ≡ true → left ≡ 0
zero_left left is h message = let none : nat_lt 0 left ≡ false = first_false (nat_lt 0 left) is h message in grind (arith, nat_tests, none)

pub settled : (left : ℕ) (turns : List TurnsDue) → list_any follow_message turns ≡ false → Owes left turns → left ≡ 0
settled left turns nothing h = elim h [
  | inl none ↦ none
  | inr owed ↦
      let first = due_to turns owed.0 in
      let empty : first.left ≡ 0 = zero_left first.left (is_message first.cause) (any_none turns owed.0 nothing) owed.1 in
      omega (arith, empty, owed.2)
]

-- One client's turns become others, which follow its message if those before did.
set_owes : (left left' client : ℕ) (turns : List TurnsDue) (owed : TurnsDue) → client < length turns → left' ≤ left → (is_message (due_to turns client).cause ≡ true → is_message owed.cause ≡ true)
    → (left ≤ (due_to turns client).left → left' ≤ owed.left) → Owes left turns → Owes left' (slice_set turns client owed)
set_owes left left' client turns owed within fewer keeps has h = elim h [
  | inl none ↦ inl (omega (arith, none, fewer))
  | inr those ↦ elim (cases_eq those.0 client) [
    | inl same ↦
        let now : due_to (slice_set turns client owed) client ≡ owed = get_or-set_same turns client owed none_due within in
        let is : is_message (due_to turns client).cause ≡ true = subst (λ (i : ℕ). is_message (due_to turns i).cause ≡ true) same those.1 in
        let left_there : left ≤ (due_to turns client).left = subst (λ (i : ℕ). left ≤ (due_to turns i).left) same those.2 in
        let many : owed.left ≡ (due_to (slice_set turns client owed) client).left = ap (λ (owed : TurnsDue). owed.left) (sym now) in
        inr (client, ap (λ (owed : TurnsDue). is_message owed.cause) now ∙ keeps is, omega (arith, has left_there, many))
    | inr differs ↦
        let now : due_to (slice_set turns client owed) those.0 ≡ due_to turns those.0 = get_or-set_other turns client those.0 owed none_due differs in
        let many : (due_to turns those.0).left ≡ (due_to (slice_set turns client owed) those.0).left = ap (λ (owed : TurnsDue). owed.left) (sym now) in
        inr (those.0, ap (λ (owed : TurnsDue). is_message owed.cause) now ∙ those.1, omega (arith, those.2, fewer, many))
  ]
]

still_message : (cause : Cause) → is_message cause ≡ true → is_message (departed (record { left = 0; cause = cause })).cause ≡ true
still_message Message h = refl
still_message Request h = cc
still_message Departed h = cc

departed_owes : (left client : ℕ) (turns : List TurnsDue) → client < length turns → Owes left turns → Owes left (slice_set turns client (departed (due_to turns client)))
departed_owes left client turns within h = set_owes left left client turns (departed (due_to turns client)) within (omega arith) (still_message (due_to turns client).cause) (λ many. many) h

run_owes : (left client count : ℕ) (turns : List TurnsDue) → client < length turns → Owes left turns → Owes (left - count) (slice_set turns client (less count (due_to turns client)))
run_owes left client count turns within h =
    set_owes left (left - count) client turns (less count (due_to turns client)) within (omega arith) (λ is. is) (λ many. omega (arith, many)) h

-- A client is told that its turns have passed.

none_passed : (is : Bool) (cause : Cause) → is_message cause ≡ true → (is && is_request cause) ≡ false
none_passed true Message h = refl
none_passed false Message h = refl
none_passed is Request h = cc
none_passed is Departed h = cc

answer_keeps : (owed : TurnsDue) → is_message owed.cause ≡ true → after_answer owed ≡ owed
answer_keeps owed is = ap (λ (b : Bool). if b then none_due else owed) (none_passed (owed.left == 0) owed.cause is)

told_to : (turns : List TurnsDue) (client : ℕ) → due_to (map after_answer turns) client ≡ after_answer (due_to turns client)
told_to [] client = refl
told_to (owed ∷ turns) zero = refl
told_to (owed ∷ turns) (suc client) = told_to turns client

told_length : (turns : List TurnsDue) → length (map after_answer turns) ≡ length turns
told_length [] = refl
told_length (owed ∷ turns) = ap suc (told_length turns)

told_owes : (left : ℕ) (turns : List TurnsDue) → Owes left turns → Owes left (map after_answer turns)
told_owes left turns h = elim h [
  | inl none ↦ inl none
  | inr those ↦
      let now : due_to (map after_answer turns) those.0 ≡ due_to turns those.0 = told_to turns those.0 ∙ answer_keeps (due_to turns those.0) those.1 in
      let many : (due_to turns those.0).left ≡ (due_to (map after_answer turns) those.0).left = ap (λ (owed : TurnsDue). owed.left) (sym now) in
      inr (those.0, ap (λ (owed : TurnsDue). is_message owed.cause) now ∙ those.1, omega (arith, those.2, many))
]

-- A moment of a run, and events until it.

pub record Follows (turns left : ℕ) (state : ServerState) : Type 0 where
  pub pace : state.pace ≡ AfterMessages turns
  pub eight : length state.turns_due ≡ 8
  pub owes : Owes left state.turns_due

abbrev pub left_at_end : (turns left : ℕ) → List LoggedEvent → ℕ
left_at_end turns left [] = left
left_at_end turns left (one ∷ more) = left_at_end turns (left_after turns left one.event one.observed) more

abbrev pub Leads : (turns left : ℕ) → List LoggedEvent → ServerState → Type 0
Leads turns left applied new = TurnsFollow turns left applied × Follows turns (left_at_end turns left applied) new

follow_more : (turns left : ℕ) (first second : List LoggedEvent) → TurnsFollow turns left first → TurnsFollow turns (left_at_end turns left first) second → TurnsFollow turns left (first ++ second)
follow_more turns left [] second h k = k
follow_more turns left (one ∷ first) second h k = (h.0, follow_more turns (left_after turns left one.event one.observed) first second h.1 k)

end_more : (turns left : ℕ) (first second : List LoggedEvent) → left_at_end turns left (first ++ second) ≡ left_at_end turns (left_at_end turns left first) second
end_more turns left [] second = refl
end_more turns left (one ∷ first) second = end_more turns (left_after turns left one.event one.observed) first second

leads_more : (turns left : ℕ) (first second : List LoggedEvent) (mid new : ServerState) → Leads turns left first mid → Leads turns (left_at_end turns left first) second new → Leads turns left (first ++ second) new
leads_more turns left first second mid new h k =
    (follow_more turns left first second h.0 k.0, subst (λ (n : ℕ). Follows turns n new) (sym (end_more turns left first second)) k.1)

leads_nowhere : (turns left : ℕ) (applied : List LoggedEvent) (old new : ServerState) → applied ≡ [] → new.pace ≡ old.pace → new.turns_due ≡ old.turns_due → Follows turns left old → Leads turns left applied new
leads_nowhere turns left applied old new none pace same f =
    subst (λ (all : List LoggedEvent). Leads turns left all new) (sym none)
    (tt, record { pace = pace ∙ f.pace; eight = ap length same ∙ f.eight; owes = subst (λ (owed : List TurnsDue). Owes left owed) (sym same) f.owes })

events_pace : (applied : List LoggedEvent) (old new : ServerState) → RunsEvents applied old new → new.pace ≡ old.pace
events_pace [] old new same = ap (λ (s : ServerState). s.pace) same
events_pace (one ∷ applied) old new h = events_pace applied h.0 new h.2 ∙ h.1.pace

-- What an event leaves, if no message is sent.
abbrev EndsAt : (turns left left' : ℕ) → List LoggedEvent → Type 0
EndsAt turns left left' applied = TurnsFollow turns left applied × (left_at_end turns left applied ≡ left')

report_leaves : (turns left : ℕ) (event : Event) (observed : Observation) → is_report event ≡ true → (left_after turns left event observed ≡ left) × (is_from_client event ≡ false)
report_leaves turns left (Reports message) observed is = (refl, refl)
report_leaves turns left (Programs packet change) observed is = (refl, refl)
report_leaves turns left (Connects client) observed is = cc
report_leaves turns left (Receives client byte) observed is = cc
report_leaves turns left (Disconnects client) observed is = cc
report_leaves turns left (Elapses micros missed) observed is = cc
report_leaves turns left (Turn missed) observed is = cc

reports_leave : (turns left : ℕ) (applied : List LoggedEvent) → list_all is_report (events_of applied) ≡ true → EndsAt turns left left applied
reports_leave turns left [] are = (tt, refl)
reports_leave turns left (one ∷ applied) are =
    let p = and_parts (is_report one.event) (list_all is_report (events_of applied)) are in
    let first = report_leaves turns left one.event one.observed p.0 in
    let rest = reports_leave turns (left_after turns left one.event one.observed) applied p.1 in
    ((λ from. no_both (is_from_client one.event) from first.1, rest.0), rest.1 ∙ first.0)

turn_leaves : (turns left : ℕ) (event : Event) (observed : Observation) → is_turn event ≡ true → (left_after turns left event observed ≡ left - 1) × (is_from_client event ≡ false)
turn_leaves turns left (Turn missed) observed is = (refl, refl)
turn_leaves turns left (Connects client) observed is = cc
turn_leaves turns left (Receives client byte) observed is = cc
turn_leaves turns left (Disconnects client) observed is = cc
turn_leaves turns left (Elapses micros missed) observed is = cc
turn_leaves turns left (Reports message) observed is = cc
turn_leaves turns left (Programs packet change) observed is = cc

step_leaves : (turns left : ℕ) (event : Event) (applied : List LoggedEvent) → is_turn event ≡ true → IsWithReports event (events_of applied) → EndsAt turns left (left - 1) applied
step_leaves turns left event [] is are = absurd are
step_leaves turns left event (one ∷ applied) is are =
    let first = turn_leaves turns left one.event one.observed (subst (λ (e : Event). is_turn e ≡ true) (sym are.0) is) in
    let rest = reports_leave turns (left_after turns left one.event one.observed) applied are.1 in
    ((λ from. no_both (is_from_client one.event) from first.1, rest.0), rest.1 ∙ first.0)

steps_leave : (turns left count : ℕ) (applied : List LoggedEvent) (old new : ServerState) → RunsSteps is_turn count applied old new → EndsAt turns left (left - count) applied
steps_leave turns left zero applied old new h =
    let all : left ≡ left - 0 = omega arith in
    let none : EndsAt turns left (left - 0) [] = (tt, all) in
    subst (λ (events : List LoggedEvent). EndsAt turns left (left - 0) events) (sym h.0) none
steps_leave turns left (suc n) applied old new h =
    let so_far = steps_leave turns left n h.0 old h.2 h.4 in
    let last = step_leaves turns (left_at_end turns left h.0) h.6.0 h.1 h.6.1 h.6.2 in
    let fewer : left_at_end turns left h.0 - 1 ≡ left - suc n = omega (arith, so_far.1) in
    subst (λ (events : List LoggedEvent). EndsAt turns left (left - suc n) events) (sym h.3)
    (follow_more turns left h.0 h.1 so_far.0 last.0, end_more turns left h.0 h.1 ∙ last.1 ∙ fewer)

-- The track runs.

turns_of_lead : (turns left client : ℕ) (applied : List LoggedEvent) (old new : ServerState) → client < 8 → RunsTurnsOf client applied old new → Follows turns left old → Leads turns left applied new
turns_of_lead turns left client applied old new among h f = elim h [
  | inl none ↦ leads_nowhere turns left applied old new none.1 (ap (λ (s : ServerState). s.pace) none.2) (ap (λ (s : ServerState). s.turns_due) none.2) f
  | inr some ↦
      let count = some.1 in
      let mid = some.2 in
      let leaves = steps_leave turns left count applied old mid some.3 in
      let same : mid.turns_due ≡ old.turns_due = turns_keep count applied old mid some.3 in
      let within : client < length mid.turns_due = let eight : length mid.turns_due ≡ 8 = ap length same ∙ f.eight in omega (arith, among, eight) in
      let owes : Owes left mid.turns_due = subst (λ (owed : List TurnsDue). Owes left owed) (sym same) f.owes in
      let ran : Follows turns (left - count) (with_turns_run client count mid) = record {
        pace = events_pace applied old mid (steps_run is_turn count applied old mid some.3) ∙ f.pace;
        eight = length-set mid.turns_due client (less count (due_to mid.turns_due client)) ∙ ap length same ∙ f.eight;
        owes = run_owes left client count mid.turns_due within owes;
      } in
      (leaves.0, subst (λ (s : ServerState). Follows turns (left_at_end turns left applied) s) (sym some.5) (subst (λ (n : ℕ). Follows turns n (with_turns_run client count mid)) (sym leaves.1) ran))
]

turns_lead : (turns left below : ℕ) (applied : List LoggedEvent) (old new : ServerState) → below ≤ 8 → RunsTurns below applied old new → Follows turns left old → Leads turns left applied new
turns_lead turns left zero applied old new among h f =
    leads_nowhere turns left applied old new h.0 (ap (λ (s : ServerState). s.pace) h.1) (ap (λ (s : ServerState). s.turns_due) h.1) f
turns_lead turns left (suc n) applied old new among h f =
    let first = turns_lead turns left n h.0 old h.2 (omega (arith, among)) h.4 f in
    let last = turns_of_lead turns (left_at_end turns left h.0) n h.1 h.2 new (omega (arith, among)) h.5 first.1 in
    subst (λ (all : List LoggedEvent). Leads turns left all new) (sym h.3) (leads_more turns left h.0 h.1 h.2 new first last)

-- An event of the transport.

reports_lead : (turns left : ℕ) (applied : List LoggedEvent) (old new : ServerState) → list_all is_report (events_of applied) ≡ true → RunsEvents applied old new → Follows turns left old → Leads turns left applied new
reports_lead turns left applied old new are h f =
    let leaves = reports_leave turns left applied are in
    let same : new.turns_due ≡ old.turns_due = reports_keep applied old new are h in
    let after : Follows turns left new = record {
      pace = events_pace applied old new h ∙ f.pace;
      eight = ap length same ∙ f.eight;
      owes = subst (λ (owed : List TurnsDue). Owes left owed) (sym same) f.owes;
    } in
    (leaves.0, subst (λ (n : ℕ). Follows turns n new) (sym leaves.1) after)

-- the first event leads somewhere, whatever is observed
abbrev LeadsFirst : (turns left : ℕ) → Event → ServerState → Type 0
LeadsFirst turns left event old = (observed : Observation) (mid : ServerState) → RunsEvent event observed old mid → Follows turns (left_after turns left event observed) mid

event_leads : (turns left : ℕ) (event : Event) (applied : List LoggedEvent) (old new : ServerState) → (is_from_client event ≡ true → left ≡ 0) → LeadsFirst turns left event old → IsWithReports event (events_of applied)
    → RunsEvents applied old new → Leads turns left applied new
event_leads turns left event [] old new settles leads are h = absurd are
event_leads turns left event (one ∷ applied) old new settles leads are h =
    let first : Follows turns (left_after turns left one.event one.observed) h.0 =
    subst (λ (e : Event). Follows turns (left_after turns left e one.observed) h.0) (sym are.0) (leads one.observed h.0 (subst (λ (e : Event). RunsEvent e one.observed old h.0) are.0 h.1)) in
    let rest = reports_lead turns (left_after turns left one.event one.observed) applied h.0 new are.1 h.2 first in
    ((λ from. settles (subst (λ (e : Event). is_from_client e ≡ true) are.0 from), rest.0), rest.1)

connects_first : (turns left client : ℕ) (old : ServerState) → Follows turns left old → LeadsFirst turns left (Connects client) old
connects_first turns left client old f observed mid h = record {
  pace = h.pace ∙ f.pace;
  eight = ap length h.turns_due ∙ f.eight;
  owes = subst (λ (owed : List TurnsDue). Owes left owed) (sym h.turns_due) f.owes;
}

disconnects_first : (turns left client : ℕ) (old : ServerState) → Follows turns left old → LeadsFirst turns left (Disconnects client) old
disconnects_first turns left client old f observed mid h =
    let eight = f.eight in
    let within : client < length old.turns_due = grind (arith, nat_tests, h.legal, eight) in
    record {
      pace = h.pace ∙ f.pace;
      eight = ap length h.turns_due ∙ length-set old.turns_due client (departed (due_to old.turns_due client)) ∙ f.eight;
      owes = subst (λ (owed : List TurnsDue). Owes left owed) (sym h.turns_due) (departed_owes left client old.turns_due within f.owes);
    }

-- an outcome of what a client sent: a message, or none
abbrev is_sending : Outcome → Bool
is_sending (Sent client message reply) = true
is_sending Nothing = false
is_sending (Connected client) = false
is_sending (Disconnected client) = false
is_sending (Rejected client reason) = false
is_sending (Reported message) = false
is_sending (Programmed packet change) = false
is_sending (TurnBegan packet) = false
is_sending (TurnsRequested client count) = false
is_sending (StatesRequested client things) = false
is_sending (PlaceRequested client placement) = false
is_sending (DeviceRequested client request) = false
is_sending (Placed client answer) = false
is_sending (DeviceAnswered client answer) = false

sending_sent : (programming : Option BenchState) (names : List (List ℕ)) (railway now : Option RailwayState) (nodes : List Node) (outcome : Outcome)
    → is_sent (Observed (programmed programming railway (answered names railway outcome)) nodes now) ≡ is_sending outcome
sending_sent programming names railway now nodes (Sent client message reply) = refl
sending_sent programming names railway now nodes Nothing = refl
sending_sent programming names railway now nodes (Connected client) = refl
sending_sent programming names railway now nodes (Disconnected client) = refl
sending_sent programming names railway now nodes (Rejected client reason) = refl
sending_sent programming names railway now nodes (Reported message) = refl
sending_sent programming names railway now nodes (Programmed packet change) = refl
sending_sent programming names railway now nodes (TurnBegan packet) = refl
sending_sent programming names railway now nodes (TurnsRequested client count) = refl
sending_sent programming names railway now nodes (StatesRequested client things) = refl
sending_sent programming names railway now nodes (PlaceRequested client placement) = refl
sending_sent programming names railway now nodes (DeviceRequested client request) = refl
sending_sent programming names railway now nodes (Placed client answer) = refl
sending_sent programming names railway now nodes (DeviceAnswered client answer) = refl

-- What is due after it: nothing was left before.
sent_owes : (turns : ℕ) (outcome : Outcome) (owed : List TurnsDue) → length owed ≡ 8 → names_client outcome ≡ true → Owes (if is_sending outcome then turns else 0) (due_after outcome (AfterMessages turns) owed)
sent_owes turns (Sent client message reply) owed eight names =
    let within : client < length owed = grind (arith, nat_tests, names, eight) in
    let now : due_to (slice_set owed client (record { left = turns; cause = Message })) client ≡ record { left = turns; cause = Message } = get_or-set_same owed client (record { left = turns; cause = Message }) none_due within in
    let many : turns ≡ (due_to (slice_set owed client (record { left = turns; cause = Message })) client).left = ap (λ (owed : TurnsDue). owed.left) (sym now) in
    inr (client, ap (λ (owed : TurnsDue). is_message owed.cause) now, omega (arith, many))
sent_owes turns Nothing owed eight names = inl refl
sent_owes turns (Connected client) owed eight names = inl refl
sent_owes turns (Disconnected client) owed eight names = inl refl
sent_owes turns (Rejected client reason) owed eight names = inl refl
sent_owes turns (Reported message) owed eight names = inl refl
sent_owes turns (Programmed packet change) owed eight names = inl refl
sent_owes turns (TurnBegan packet) owed eight names = inl refl
sent_owes turns (TurnsRequested client count) owed eight names = inl refl
sent_owes turns (StatesRequested client things) owed eight names = inl refl
sent_owes turns (PlaceRequested client placement) owed eight names = inl refl
sent_owes turns (DeviceRequested client request) owed eight names = inl refl
sent_owes turns (Placed client answer) owed eight names = inl refl
sent_owes turns (DeviceAnswered client answer) owed eight names = inl refl

due_length : (turns : ℕ) (outcome : Outcome) (owed : List TurnsDue) → length (due_after outcome (AfterMessages turns) owed) ≡ length owed
due_length turns (Sent client message reply) owed = length-set owed client (record { left = turns; cause = Message })
due_length turns Nothing owed = refl
due_length turns (Connected client) owed = refl
due_length turns (Disconnected client) owed = length-set owed client (departed (due_to owed client))
due_length turns (Rejected client reason) owed = refl
due_length turns (Reported message) owed = refl
due_length turns (Programmed packet change) owed = refl
due_length turns (TurnBegan packet) owed = refl
due_length turns (TurnsRequested client (Ok count)) owed = length-set owed client (record { left = count; cause = Request })
due_length turns (TurnsRequested client (Err error)) owed = refl
due_length turns (StatesRequested client things) owed = refl
due_length turns (PlaceRequested client placement) owed = refl
due_length turns (DeviceRequested client request) owed = refl
due_length turns (Placed client answer) owed = refl
due_length turns (DeviceAnswered client answer) owed = refl

receives_first : (turns left client byte : ℕ) (old : ServerState) → left ≡ 0 → Follows turns left old → LeadsFirst turns left (Receives client byte) old
receives_first turns left client byte old none f observed mid h =
    let outcome = outcome_of old.bus (Receives client byte) in
    let same : mid.turns_due ≡ due_after outcome (AfterMessages turns) old.turns_due = h.turns_due ∙ ap (λ (pace : Pace). due_after outcome pace old.turns_due) f.pace in
    let sent : is_sent observed ≡ is_sending outcome = ap is_sent h.saw ∙ sending_sent old.programming old.names old.railway mid.railway mid.nodes outcome in
    let owes = sent_owes turns outcome old.turns_due f.eight (placed_by old.bus (Receives client byte) h.legal) in
    let after : Owes (if is_sent observed then turns else left) (due_after outcome (AfterMessages turns) old.turns_due) =
    subst (λ (n : ℕ). Owes n (due_after outcome (AfterMessages turns) old.turns_due)) (ap₂ (λ (b : Bool) (n : ℕ). if b then turns else n) (sym sent) (sym none)) owes in
    record {
      pace = h.pace ∙ f.pace;
      eight = ap length same ∙ due_length turns outcome old.turns_due ∙ f.eight;
      owes = subst (λ (owed : List TurnsDue). Owes (if is_sent observed then turns else left) owed) (sym same) after;
    }

backlog_follows : (turns left : ℕ) (old : ServerState) → Follows turns left old → Follows turns left (with_backlog old)
backlog_follows turns left old f = record { pace = f.pace; eight = f.eight; owes = f.owes }

none_from : (left : ℕ) → false ≡ true → left ≡ 0
none_from left h = cc

act_leads : (log : TransportEvent) (turns left : ℕ) (applied : List LoggedEvent) (old new : ServerState) → Applies log applied old new → Follows turns left old → Leads turns left applied new
act_leads (Accepted client) turns left applied old new h f =
    event_leads turns left (Connects client) applied (with_backlog old) new (λ from. settled left old.turns_due h.0 f.owes)
    (connects_first turns left client (with_backlog old) (backlog_follows turns left old f)) h.1.1 h.1.2
act_leads (Received client byte) turns left applied old new h f =
    let none = settled left old.turns_due (both_false (list_any follow_message old.turns_due) (is_due (due_to old.turns_due client)) h.0).0 f.owes in
    event_leads turns left (Receives client byte) applied (with_backlog old) new (λ from. none)
    (receives_first turns left client byte (with_backlog old) none (backlog_follows turns left old f)) h.1.1 h.1.2
act_leads (PeerClosed client) turns left applied old new h f =
    event_leads turns left (Disconnects client) applied old new (none_from left) (disconnects_first turns left client old f) h.1 h.2
act_leads (ServerClosed client) turns left applied old new h f =
    event_leads turns left (Disconnects client) applied old new (none_from left) (disconnects_first turns left client old f) h.1.1 h.1.2
act_leads (Written client bytes) turns left applied old new h f =
    leads_nowhere turns left applied old new h.0 (ap (λ (s : ServerState). s.pace) h.3) (ap (λ (s : ServerState). s.turns_due) h.3) f
act_leads Refused turns left applied old new h f =
    leads_nowhere turns left applied old new h.0 (ap (λ (s : ServerState). s.pace) h.2) (ap (λ (s : ServerState). s.turns_due) h.2) f
act_leads (Polled longest) turns left applied old new h f = absurd h
act_leads (ReadBlocked client) turns left applied old new h f =
    leads_nowhere turns left applied old new h.0 (ap (λ (s : ServerState). s.pace) h.1) (ap (λ (s : ServerState). s.turns_due) h.1) f
act_leads (WriteBlocked client) turns left applied old new h f =
    leads_nowhere turns left applied old new h.0 (ap (λ (s : ServerState). s.pace) h.1) (ap (λ (s : ServerState). s.turns_due) h.1) f
act_leads NonePending turns left applied old new h f =
    leads_nowhere turns left applied old new h.0 (ap (λ (s : ServerState). s.pace) h.1) (ap (λ (s : ServerState). s.turns_due) h.1) f

abbrev applied_in : List Handled → List LoggedEvent
applied_in handled = flat_map (λ one_handled. one_handled.applied) handled

acts_lead : (handled : List Handled) (turns left : ℕ) (old new : ServerState) → AppliesAll handled old new → Follows turns left old → Leads turns left (applied_in handled) new
acts_lead [] turns left old new same f = leads_nowhere turns left [] old new refl (ap (λ (s : ServerState). s.pace) same) (ap (λ (s : ServerState). s.turns_due) same) f
acts_lead (one ∷ handled) turns left old new h f =
    let first = act_leads one.log turns left one.applied old h.0 h.1 f in
    leads_more turns left one.applied (applied_in handled) h.0 new first (acts_lead handled turns (left_at_end turns left one.applied) h.0 new h.2 first.1)

-- Rounds.

start_follows : (turns left : ℕ) (old : ServerState) → Follows turns left old → Follows turns left (round_start old)
start_follows turns left old f = record { pace = f.pace; eight = told_length old.turns_due ∙ f.eight; owes = told_owes left old.turns_due f.owes }

pub rounds_lead : (most : ℕ) (rounds : List Round) (turns left : ℕ) (old new : ServerState) → RunsRounds most rounds old new → Follows turns left old → Leads turns left (logged_in rounds) new
rounds_lead most [] turns left old new same f = leads_nowhere turns left [] old new refl (ap (λ (s : ServerState). s.pace) same) (ap (λ (s : ServerState). s.turns_due) same) f
rounds_lead most (round ∷ rounds) turns left old new h f =
    let went = h.2 in
    let handled = applied_in round.handled in
    let served = acts_lead round.handled turns left (round_start old) went.1 (round_serves round.handled (round_start old) went.1 went.2) (start_follows turns left old f) in
    let track = subst (λ (pace : Pace). RunsTrack pace round.readings round.elapsing went.1 h.1) served.1.pace went.3 in
    let ran = turns_lead turns (left_at_end turns left handled) 8 round.elapsing went.1 h.1 (omega arith) track.1 served.1 in
    let all = leads_more turns left handled round.elapsing went.1 h.1 served ran in
    leads_more turns left (handled ++ round.elapsing) (logged_in rounds) h.1 new all
    (rounds_lead most rounds turns (left_at_end turns left (handled ++ round.elapsing)) h.1 new h.3 all.1)

pub begins : (turns : ℕ) (old : ServerState) → BeginsInTurns turns old → Follows turns 0 old
begins turns old h = record { pace = h.0; eight = ap length h.1; owes = inl refl }

pub turns_follow_messages : (turns most : ℕ) (rounds : List Round) (old new : ServerState) → BeginsInTurns turns old → RunsRounds most rounds old new → TurnsFollow turns 0 (logged_in rounds)
turns_follow_messages turns most rounds old new h runs = (rounds_lead most rounds turns 0 old new runs (begins turns old h)).0
