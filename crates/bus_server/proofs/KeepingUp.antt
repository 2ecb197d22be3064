-- A client that keeps up stays connected.
use Rattle.std.proofs.Common.{◌≡◌, ℕ, zero, suc, ◌+◌, ◌*◌, ◌-◌, ◌<◌, ◌≤◌, ◌⊎◌, inl, inr, Bool, true, false, if◌then◌else◌, nat_le, List, [], ◌∷◌, ◌++◌, length, take, Option, Some, None, refl, ap, ap₂, sym, subst, ◌∙◌, arith, eqb-true, ne_eqb}
use Rattle.std.specs.Prelude.{◌==◌, ◌&&◌, ◌||◌, is_some, map, not, slice_set}
use Rattle.std.specs.List.{list_all, list_any, slice_index_or}
use Rattle.std.proofs.lemmas.Bool.{and_parts, cases_eq, le-leb}
use Rattle.std.proofs.lemmas.Bool.Decides.{nat_tests}
use Rattle.std.proofs.lemmas.List.{get_or-set_other, length-append, length-take}
use Rattle.std.proofs.lemmas.List.Folds.{list_any-append}
use Rattle.layout_core.specs.declared.node.Node.{Node}
use Rattle.layout_core.specs.DecoderStates.{decoder_line, decoder_state_of}
use Rattle.layout_core.specs.Nodes.{spec_of}
use Rattle.railway.specs.Railway.{RailwayState, shown_speed}
use Rattle.railway_text.specs.TrainPlace.{place_of, train_line}
use Rattle.railway_text.specs.Turnouts.{turnout_line}
use Rattle.loconet_tcp.specs.declared.request.Things.{Things}
use Rattle.loconet_tcp.specs.declared.request.Things.TheVariants.{Nodes, Trains, Turnouts, Variables}
use Rattle.loconet_tcp.specs.ClientLines.{change_line, line_end, node_text, state_text, states_ok_text, turns_ok_text, version_text}
use Rattle.bus.specs.Outcome.{text_for}
use Rattle.bus.specs.declared.outcome.Outcome.{Outcome}
use Rattle.bus.specs.declared.outcome.Outcome.TheVariants.{Connected, Nothing, Placed, DeviceAnswered, Rejected, Reported, Sent, TurnBegan, TurnsRequested}
use Rattle.loconet_tcp.specs.declared.request.Request.{Request}
use Rattle.loconet_tcp.specs.declared.request.Request.TheVariants.{Invalid, States, Place, Device, Send, Turns}
use Rattle.bus.specs.Bus.{BusState, after_event, client_of, granted, pending_text_at, reply_to, request_at}
use Rattle.bus.specs.Course.{is_time}
use Rattle.bus.specs.declared.event.Event.{Event}
use Rattle.bus.specs.declared.event.Event.TheVariants.{Connects, Disconnects, Elapses, Receives, Reports, Programs, Turn}
use Rattle.bus_server.specs.declared.under_way.UnderWay.{UnderWay}
use Rattle.bus_server.specs.Answers.{line_at, line_of_change, line_of_train, line_of_turnout, lines_of, next_line, node_lines, train_lines, turnouts_of, variable_line}
use Rattle.bus_server.specs.ServerState.{answer_to, Applies, AppliesAll, Handled, IsWithReports, LoggedEvent, RunsEvent, RunsEventWithReports, RunsEvents, ServerState, events_of, has_overflowed, is_connected, is_crowded, outcome_in, transport_events, with_backlog, round_start}
use Rattle.bus_server.specs.SendQueues.{SendQueues, enqueued_all, enqueued_from, queues_after}
use Rattle.bus_server.specs.TrackDue.{due_to, have_passed, turns_answer}
use Rattle.bus_server.specs.KeepUp.{IsAtRest, IsUpToDate, KeepsUp, is_blocked, is_closed}
use Rattle.bus_server.specs.Observations.{Observation}
use Rattle.service_mode.specs.declared.packet.ServicePacket.{ServicePacket}
use Rattle.programming_track.specs.Bench.{BenchState, name_at, next_change, number_at, value_at}
use Rattle.bus_server.specs.Placement.{answered, place_answer}
use Rattle.programming_track.specs.declared.packet_end.NamedChange.{NamedChange}
use Rattle.bus_server.specs.Programming.{device_answer, device_reply, programmed}
use Rattle.bus_server.specs.SendQueue.{enqueued, is_more_than_quarter, queued}
use Rattle.bus_server.specs.Rounds.{IsReadOn, IsRound, IsUnread, Reads, ReadsOn, ServesClient, ServesClients, is_read, is_reading, is_write_blocked, nth_client}
use Rattle.bus_server.specs.declared.pace.Pace.{Pace}
use Rattle.bus_server.specs.declared.pace.Pace.TheVariants.{AfterMessages, RealTime}
use Rattle.bus_server.specs.Running.{Round, RunsRounds, transport_log}
use Rattle.bus_server.specs.Sensors.{is_report}
use Rattle.bus_server.specs.Track.{RunsStep, RunsSteps, RunsTrack, RunsTurns, RunsTurnsOf, is_piece, is_turn, with_time_due, with_turns_run}
use Rattle.bus_server.specs.TransportEvents.{Accepted, NonePending, PeerClosed, Polled, ReadBlocked, Received, Refused, ServerClosed, TransportEvent, WriteBlocked, Written}
use Rattle.bus_server.proofs.Going.{log-append}
use Rattle.bus_server.proofs.Keeping.{enqueued_there, joined_one, none_of_both, none_set, only_joins, only_leaves, left_is_not_late, put_keeps, row_before, row_behind, set_at}
use Rattle.bus_server.proofs.Placing.{length-enqueued}
use Rattle.bus_server.proofs.Rounding.{accepts_apply, accepts_unread, early_applies, early_unread}
use Rattle.bus_server.proofs.Sizes.{HasFew, HasFewParts, Limits, answered_request, text_size, event_few, few_first, message_size, none_due, owed, request_most}

-- What is queued for a client, and with it what is still due, which is at most as many bytes; nothing has overflowed.

abbrev size : (client : ℕ) → ServerState → ℕ
size client state = length (queued (slice_index_or state.queues client None))

abbrev Sized : (client n : ℕ) → ServerState → Type 0
Sized client n state = (client < length state.queues) × (size client state ≤ n) × (has_overflowed state client ≡ false) × HasFew state

abbrev Within : (client n : ℕ) → ServerState → Type 0
Within client n state = (client < length state.queues) × (size client state + owed state.unreported ≤ n) × (has_overflowed state client ≡ false) × HasFew state

within_more : (client n m : ℕ) (state : ServerState) → n ≤ m → Within client n state → Within client m state
within_more client n m state more h = (h.0, omega (arith, more, h.1), h.2, h.3)

as_sized : (client n : ℕ) (state : ServerState) → Within client n state → Sized client n state
as_sized client n state h = (h.0, omega (arith, h.1), h.2, h.3)

-- with the reports that may be due
as_within : (client n : ℕ) (state : ServerState) → Sized client n state → Within client (n + 4134) state
as_within client n state h = (h.0, omega (arith, h.1, h.3.0), h.2, h.3)

when_none_due : (client n : ℕ) (state : ServerState) → state.unreported ≡ [] → Sized client n state → Within client n state
when_none_due client n state none h = let zero_due : owed state.unreported ≡ 0 = ap owed none in (h.0, omega (arith, h.1, zero_due), h.2, h.3)

length-set_queue : {A : Type 0} (all : List A) (i : ℕ) (a : A) → length (slice_set all i a) ≡ length all
length-set_queue [] i a = refl
length-set_queue (x ∷ all) zero a = refl
length-set_queue (x ∷ all) (suc i) a = ap suc (length-set_queue all i a)

enqueued_by : (fits : Bool) (text bytes : List ℕ) (m : ℕ) → fits ≡ true → length bytes + length text ≤ m
    → (length (queued (if fits then Some (bytes ++ text) else None)) ≤ m) × (is_some (if fits then Some (bytes ++ text) else None) ≡ true)
enqueued_by true text bytes m e most = (omega (arith, most, length-append bytes text), refl)
enqueued_by false text bytes m e most = cc

enqueued_within : (text : List ℕ) (queue : Option (List ℕ)) (n m : ℕ) → length (queued queue) ≤ n → n + length text ≤ m → m ≤ 65536
    → (length (queued (enqueued text queue)) ≤ m) × (is_some (enqueued text queue) ≡ is_some queue)
enqueued_within text None n m has most room = (omega arith, refl)
enqueued_within text (Some bytes) n m has most room =
    enqueued_by (nat_le (length bytes + length text) 65536) text bytes m (le-leb (length bytes + length text) 65536 (omega (arith, has, most, room))) (omega (arith, has, most))

-- Texts are enqueued for all.
texts_within : (client n m : ℕ) (text : ℕ → List ℕ) (old new : ServerState) → new.queues ≡ enqueued_from 0 text old.queues → is_connected new client ≡ is_connected old client → HasFew new
    → size client old + length (text client) + owed new.unreported ≤ m → m ≤ 65536 → Within client n old → Within client m new
texts_within client n m text old new queues connected few most room h =
    let queue = slice_index_or old.queues client None in
    let at_most : size client old + length (text client) ≤ size client old + length (text client) = omega arith in
    let does = enqueued_within (text client) queue (size client old) (size client old + length (text client)) (omega arith) at_most (omega (arith, most, room)) in
    let put : size client new ≤ size client old + length (text client) =
    subst (λ (all : SendQueues). length (queued (slice_index_or all client None)) ≤ size client old + length (text client)) (sym queues)
    (subst (λ (q : Option (List ℕ)). length (queued q) ≤ size client old + length (text client)) (sym (enqueued_there text old.queues client)) does.0) in (
      subst (λ (all : SendQueues). client < length all) (sym queues) (omega (arith, h.0, length-enqueued 0 text old.queues)),
      omega (arith, put, most),
      ap₂ (λ (a b : Bool). a && not b) connected (ap (λ (all : SendQueues). is_some (slice_index_or all client None)) queues ∙ ap is_some (enqueued_there text old.queues client) ∙ does.1) ∙ h.2,
      few,
    )

enqueues_within : (client n m : ℕ) (outcome : Outcome) (old new : ServerState) → new.queues ≡ enqueued_all outcome old.queues → is_connected new client ≡ is_connected old client → HasFew new
    → size client old + length (text_for client outcome) + owed new.unreported ≤ m → m ≤ 65536 → Within client n old → Within client m new
enqueues_within client n m outcome old new queues connected few most room h = texts_within client n m (λ i. text_for i outcome) old new queues connected few most room h

-- Nothing happens to the queues.
same_within : (client n m : ℕ) (old new : ServerState) → new.queues ≡ old.queues → is_connected new client ≡ is_connected old client → HasFew new
    → size client old + owed new.unreported ≤ m → Within client n old → Within client m new
same_within client n m old new queues connected few most h =
    let same : size client new ≡ size client old = ap (λ (all : SendQueues). length (queued (slice_index_or all client None))) queues in (
      subst (λ (all : SendQueues). client < length all) (sym queues) h.0,
      omega (arith, same, most),
      ap₂ (λ (a b : Bool). a && not b) connected (ap (λ (all : SendQueues). is_some (slice_index_or all client None)) queues) ∙ h.2,
      few,
    )

-- A byte is read.

pending_some : (kept : Option (List ℕ)) (byte : ℕ) → is_some (pending_text_at kept byte) ≡ is_some kept
pending_some None byte = refl
pending_some (Some kept) byte = refl

pending_there : (clients : List (Option (List ℕ))) (i byte : ℕ) → slice_index_or (slice_set clients i (pending_text_at (slice_index_or clients i None) byte)) i None ≡ pending_text_at (slice_index_or clients i None) byte
pending_there [] i byte = refl
pending_there (kept ∷ clients) zero byte = refl
pending_there (kept ∷ clients) (suc i) byte = pending_there clients i byte

connected_still : (clients : List (Option (List ℕ))) (reader client byte : ℕ)
    → is_some (slice_index_or (slice_set clients reader (pending_text_at (slice_index_or clients reader None) byte)) client None) ≡ is_some (slice_index_or clients client None)
connected_still clients reader client byte = elim (cases_eq client reader) [
  | inl same ↦ subst (λ (i : ℕ). is_some (slice_index_or (slice_set clients reader (pending_text_at (slice_index_or clients reader None) byte)) i None) ≡ is_some (slice_index_or clients i None)) (sym same)
      (ap is_some (pending_there clients reader byte) ∙ pending_some (slice_index_or clients reader None) byte)
  | inr differs ↦ ap is_some (get_or-set_other clients reader client (pending_text_at (slice_index_or clients reader None) byte) None differs)
]

-- the text of a request, and the reports that it makes due
request_within : (client reader n : ℕ) (request : Option Request) (old new : ServerState) → new.queues ≡ queues_after (answered_request old reader request) old.queues
    → is_connected new client ≡ is_connected old client → HasFew new → length (text_for client (answered_request old reader request)) ≤ 789 → n + 4923 ≤ 65536 → Within client n old → Within client (n + 4923) new
request_within client reader n None old new queues connected few most room h = same_within client n (n + 4923) old new queues connected few (omega (arith, few.0, h.1)) h
request_within client reader n (Some (Invalid reason)) old new queues connected few most room h =
    enqueues_within client n (n + 4923) (Rejected reader reason) old new queues connected few (omega (arith, most, few.0, h.1)) room h
request_within client reader n (Some (Send message)) old new queues connected few most room h =
    enqueues_within client n (n + 4923) (Sent reader message (device_reply old.programming old.railway message (reply_to old.bus (Some (Send message))))) old new queues connected few (omega (arith, most, few.0, h.1)) room h
request_within client reader n (Some (Turns count)) old new queues connected few most room h =
    enqueues_within client n (n + 4923) (TurnsRequested reader (granted old.bus.options.is_stepped count)) old new queues connected few (omega (arith, most, few.0, h.1)) room h
request_within client reader n (Some (Place placement)) old new queues connected few most room h =
    enqueues_within client n (n + 4923) (Placed reader (place_answer old.names old.railway placement)) old new queues connected few (omega (arith, most, few.0, h.1)) room h
request_within client reader n (Some (Device request)) old new queues connected few most room h =
    enqueues_within client n (n + 4923) (DeviceAnswered reader (device_answer old.programming old.railway request)) old new queues connected few (omega (arith, most, few.0, h.1)) room h
request_within client reader n (Some (States things)) old new queues connected few most room h = same_within client n (n + 4923) old new queues connected few (omega (arith, few.0, h.1)) h

receives_within : Limits → (client reader byte n : ℕ) (observed : Observation) (old new : ServerState) → RunsEvent (Receives reader byte) observed old new → n + 4923 ≤ 65536 → Within client n old → Within client (n + 4923) new
receives_within same client reader byte n observed old new runs room h =
    request_within client reader n (request_at (client_of old.bus reader) byte) old new runs.queues
    (ap (λ (bus : BusState). is_some (slice_index_or bus.clients client None)) runs.bus ∙ connected_still old.bus.clients reader client byte)
    (event_few same (Receives reader byte) observed old new refl runs h.3.1)
    (request_most same.lines old reader client (client_of old.bus reader) byte) room h

-- Devices report.

report_within : (client n : ℕ) (message : List ℕ) (observed : Observation) (old new : ServerState) → RunsEvent (Reports message) observed old new → n ≤ 65536 → Within client n old → Within client n new
report_within client n message observed old new runs room h =
    let next = runs.unreported in
    let less : owed old.unreported ≡ text_size next.0 + owed new.unreported = ap owed next.1 in
    let few : HasFew new = (omega (arith, less, h.3.0), subst HasFewParts (sym runs.railway) h.3.1) in
    enqueues_within client n n (Reported message) old new runs.queues (ap (λ (bus : BusState). is_some (slice_index_or bus.clients client None)) runs.bus) few
    (omega (arith, message_size next.0 message next.3, less, h.1)) room h

packet_within : (client n : ℕ) (packet : ServicePacket) (change : Option NamedChange) (observed : Observation) (old new : ServerState) → RunsEvent (Programs packet change) observed old new → Within client n old → Within client n new
packet_within client n packet change observed old new runs h =
    let next = runs.unreported in
    let less : owed old.unreported ≡ text_size next.0 + owed new.unreported = ap owed next.1 in
    let few : HasFew new = (omega (arith, less, h.3.0), subst HasFewParts (sym runs.railway) h.3.1) in
    same_within client n n old new runs.queues (ap (λ (bus : BusState). is_some (slice_index_or bus.clients client None)) runs.bus) few (omega (arith, less, h.1)) h

one_report_within : (client n : ℕ) (event : Event) (observed : Observation) (old new : ServerState) → is_report event ≡ true → RunsEvent event observed old new → n ≤ 65536 → Within client n old → Within client n new
one_report_within client n (Reports message) observed old new reports runs room h = report_within client n message observed old new runs room h
one_report_within client n (Programs packet change) observed old new reports runs room h = packet_within client n packet change observed old new runs h
one_report_within client n (Connects i) observed old new reports runs room h = cc
one_report_within client n (Receives i byte) observed old new reports runs room h = cc
one_report_within client n (Disconnects i) observed old new reports runs room h = cc
one_report_within client n (Elapses micros missed) observed old new reports runs room h = cc
one_report_within client n (Turn missed) observed old new reports runs room h = cc

reports_within : (client n : ℕ) (applied : List LoggedEvent) (old new : ServerState) → list_all is_report (events_of applied) ≡ true → RunsEvents applied old new → n ≤ 65536 → Within client n old → Within client n new
reports_within client n [] old new are same room h = subst (λ (s : ServerState). Within client n s) (sym same) h
reports_within client n (one ∷ more) old new are runs room h =
    let p = and_parts (is_report one.event) (list_all is_report (events_of more)) are in
    reports_within client n more runs.0 new p.1 runs.2 room (one_report_within client n one.event one.observed old runs.0 p.0 runs.1 room h)

-- an event, and then the reports after it
first_event : (event : Event) (applied : List LoggedEvent) (old new : ServerState) → IsWithReports event (events_of applied) → RunsEvents applied old new
    → (observed : Observation) × (mid : ServerState) × (reports : List LoggedEvent) × RunsEvent event observed old mid × RunsEvents reports mid new × (list_all is_report (events_of reports) ≡ true)
first_event event [] old new are runs = absurd are
first_event event (one ∷ more) old new are runs = (one.observed, runs.0, more, subst (λ (e : Event). RunsEvent e one.observed old runs.0) are.0 runs.1, runs.2, are.1)

-- A step of the track.

turn_queues : (programming : Option BenchState) (names : List (List ℕ)) (railway : Option RailwayState) (ends : Bool) (packet : Option (List ℕ)) (queues : SendQueues)
    → queues_after (programmed programming railway (answered names railway (if ends then TurnBegan packet else Nothing))) queues ≡ queues
turn_queues programming names railway true packet queues = refl
turn_queues programming names railway false packet queues = refl

turn_clients : (ends : Bool) (a b : BusState) → a.clients ≡ b.clients → (if ends then a else b).clients ≡ b.clients
turn_clients true a b same = same
turn_clients false a b same = refl

clients_in_time : (event : Event) (bus : BusState) → is_time event ≡ true → (after_event bus event).clients ≡ bus.clients
clients_in_time (Connects client) bus h = cc
clients_in_time (Receives client byte) bus h = cc
clients_in_time (Disconnects client) bus h = cc
clients_in_time (Reports message) bus h = refl
clients_in_time (Programs packet change) bus h = refl
clients_in_time (Turn missed) bus h = refl
clients_in_time (Elapses micros missed) bus h = turn_clients (nat_le bus.remaining micros) _ _ refl

queues_in_time : (event : Event) (old : ServerState) → is_time event ≡ true → is_report event ≡ false → queues_after (outcome_in old event) old.queues ≡ old.queues
queues_in_time (Connects client) old h none = cc
queues_in_time (Receives client byte) old h none = cc
queues_in_time (Disconnects client) old h none = cc
queues_in_time (Reports message) old h none = cc
queues_in_time (Programs packet change) old h none = cc
queues_in_time (Turn missed) old h none = refl
queues_in_time (Elapses micros missed) old h none = turn_queues old.programming old.names old.railway (nat_le old.bus.remaining micros) _ old.queues

-- an event of time that is no report
abbrev IsStep : Event → Type 0
IsStep event = (is_time event ≡ true) × (is_report event ≡ false)

turn_is_step : (event : Event) → is_turn event ≡ true → IsStep event
turn_is_step (Turn missed) is = (refl, refl)
turn_is_step (Connects client) is = cc
turn_is_step (Receives client byte) is = cc
turn_is_step (Disconnects client) is = cc
turn_is_step (Reports message) is = cc
turn_is_step (Programs packet change) is = cc
turn_is_step (Elapses micros missed) is = cc

piece_is_step : (event : Event) → is_piece event ≡ true → IsStep event
piece_is_step (Elapses micros missed) is = (refl, refl)
piece_is_step (Turn missed) is = cc
piece_is_step (Connects client) is = cc
piece_is_step (Receives client byte) is = cc
piece_is_step (Disconnects client) is = cc
piece_is_step (Reports message) is = cc
piece_is_step (Programs packet change) is = cc

time_within : Limits → (client n : ℕ) (event : Event) (observed : Observation) (old new : ServerState) → IsStep event → RunsEvent event observed old new → n + 4134 ≤ 65536 → Within client n old → Within client (n + 4134) new
time_within same client n event observed old new step runs room h =
    let clients : new.bus.clients ≡ old.bus.clients = ap (λ (bus : BusState). bus.clients) runs.bus ∙ clients_in_time event old.bus step.0 in
    let few = event_few same event observed old new step.1 runs h.3.1 in
    same_within client n (n + 4134) old new (runs.queues ∙ queues_in_time event old step.0 step.1)
    (ap (λ (all : List (Option (List ℕ))). is_some (slice_index_or all client None)) clients) few (omega (arith, few.0, h.1)) h

step_within : Limits → (is_step : Event → Bool) → ((event : Event) → is_step event ≡ true → IsStep event) → (client n : ℕ) (applied : List LoggedEvent) (old new : ServerState) → RunsStep is_step applied old new
    → n + 4134 ≤ 65536 → Within client n old → Within client (n + 4134) new
step_within same is_step are client n applied old new step room h =
    let first = first_event step.0 applied old new step.2 step.3 in
    reports_within client (n + 4134) first.2 first.1 new first.5 first.4 room (time_within same client n step.0 first.0 old first.1 (are step.0 step.1) first.3 room h)

-- while no queue is more than a quarter full

unread_parts : (a b : Bool) → (a || b) ≡ false → (a ≡ false) × (b ≡ false)
unread_parts true b h = cc
unread_parts false b h = (refl, h)

uncrowded_at : (queues : SendQueues) (i : ℕ) → list_any is_more_than_quarter queues ≡ false → length (queued (slice_index_or queues i None)) ≤ 16384
uncrowded_at [] i none = omega arith
uncrowded_at (queue ∷ queues) zero none =
    let first = (unread_parts (is_more_than_quarter queue) (list_any is_more_than_quarter queues) none).0 in
    grind (arith, nat_tests, first)
uncrowded_at (queue ∷ queues) (suc i) none = uncrowded_at queues i (unread_parts (is_more_than_quarter queue) (list_any is_more_than_quarter queues) none).1

uncrowded : (client n : ℕ) (state : ServerState) → is_crowded state ≡ false → Sized client n state → Sized client 16384 state
uncrowded client n state none h = (h.0, uncrowded_at state.queues client none, h.2, h.3)

steps_within : Limits → (is_step : Event → Bool) → ((event : Event) → is_step event ≡ true → IsStep event) → (client n count : ℕ) (applied : List LoggedEvent) (old new : ServerState)
    → RunsSteps is_step count applied old new → 20518 ≤ n → n + 4134 ≤ 65536 → Within client n old → Within client (n + 4134) new
steps_within same is_step are client n zero applied old new steps most room h = subst (λ (s : ServerState). Within client (n + 4134) s) (sym steps.1) (within_more client n (n + 4134) old (omega arith) h)
steps_within same is_step are client n (suc zero) applied old new steps most room h =
    step_within same is_step are client n steps.1 steps.2 new steps.6 room (subst (λ (s : ServerState). Within client n s) (sym steps.4.1) h)
steps_within same is_step are client n (suc (suc count)) applied old new steps most room h =
    let some : 0 < suc count = omega arith in
    let before = steps_within same is_step are client n (suc count) steps.0 old steps.2 steps.4 most room h in
    let half = as_within client 16384 steps.2 (uncrowded client (n + 4134) steps.2 (steps.5 some) (as_sized client (n + 4134) steps.2 before)) in
    step_within same is_step are client n steps.1 steps.2 new steps.6 room (within_more client 20518 n steps.2 most half)

turns_of_within : Limits → (client other n : ℕ) (applied : List LoggedEvent) (old new : ServerState) → RunsTurnsOf other applied old new → 20518 ≤ n → n + 4134 ≤ 65536 → Within client n old → Within client (n + 4134) new
turns_of_within same client other n applied old new turns most room h = elim turns [
  | inl none ↦ subst (λ (s : ServerState). Within client (n + 4134) s) (sym none.2) (within_more client n (n + 4134) old (omega arith) h)
  | inr some ↦
      let ran : Within client (n + 4134) (with_turns_run other some.1 some.2) = steps_within same is_turn turn_is_step client n some.1 applied old some.2 some.3 most room h in
      subst (λ (s : ServerState). Within client (n + 4134) s) (sym some.5) ran
]

turns_within : Limits → (client below : ℕ) (applied : List LoggedEvent) (old new : ServerState) → RunsTurns below applied old new → below ≤ 8 → Within client 20518 old → Within client (20518 + 4134 * below) new
turns_within same client zero applied old new turns most h = subst (λ (s : ServerState). Within client 20518 s) (sym turns.1) h
turns_within same client (suc n) applied old new turns most h =
    let before = turns_within same client n turns.0 old turns.2 turns.4 (omega (arith, most)) h in
    within_more client (20518 + 4134 * n + 4134) (20518 + 4134 * suc n) new (omega arith)
    (turns_of_within same client n (20518 + 4134 * n) turns.1 turns.2 new turns.5 (omega arith) (omega (arith, most)) before)

track_within : Limits → (client : ℕ) (pace : Pace) (readings : List ℕ) (applied : List LoggedEvent) (old new : ServerState) → RunsTrack pace readings applied old new → Within client 20518 old → Within client 53590 new
track_within same client (AfterMessages turns) readings applied old new h within = turns_within same client 8 applied old new h.1 (omega arith) within
track_within same client (RealTime rate) readings applied old new h within =
    let time = h.2 in
    let ran : Within client 24652 (with_time_due (h.0 - time.1) time.2) = steps_within same is_piece piece_is_step client 20518 time.0 applied (with_time_due h.0 old) time.2 time.3 (omega arith) (omega arith) within in
    subst (λ (s : ServerState). Within client 53590 s) (sym time.6) (within_more client 24652 53590 (with_time_due (h.0 - time.1) time.2) (omega arith) ran)

-- Booleans.

no_both : {P : Type 0} (a : Bool) → a ≡ true → a ≡ false → P
no_both true h k = cc
no_both false h k = cc

either : (a b : Bool) → (a || b) ≡ true → (a ≡ true) ⊎ (b ≡ true)
either true b h = inl refl
either false b h = inr h

or_true_left : (a b : Bool) → a ≡ true → (a || b) ≡ true
or_true_left true b h = refl
or_true_left false b h = cc

or_true_right : (a b : Bool) → b ≡ true → (a || b) ≡ true
or_true_right true b h = refl
or_true_right false b h = h

is_open : (connected unfull : Bool) → unfull ≡ true → (connected && not unfull) ≡ false
is_open true unfull h = rw h refl
is_open false unfull h = refl

opened : (connected : Bool) (queue : Option (List ℕ)) (bytes : List ℕ) → queue ≡ Some bytes → (connected && not (is_some queue)) ≡ false
opened connected queue bytes is = is_open connected (is_some queue) (ap is_some is)

-- A client connects or disconnects.

version_most : (newcomer : Bool) → length (if newcomer then version_text else []) ≤ 26
version_most true = omega arith
version_most false = omega arith

-- a client that connects has the version line in its queue, and no more
joined_within : (client : ℕ) (observed : Observation) (old new : ServerState) → RunsEvent (Connects client) observed old new → client < length old.queues → HasFewParts old.railway → Within client 26 new
joined_within client observed old new runs there few =
    let queues : new.queues ≡ enqueued_all (Connected client) (slice_set old.queues client (Some [])) = runs.queues in
    let queue : slice_index_or new.queues client None ≡ Some version_text = ap (λ (all : SendQueues). slice_index_or all client None) queues ∙ joined_one old.queues client there in
    let put : size client new ≤ 26 = subst (λ (q : Option (List ℕ)). length (queued q) ≤ 26) (sym queue) (version_most true) in
    let none : owed new.unreported ≡ 0 = ap owed runs.unreported.1 in (
      subst (λ (all : SendQueues). client < length all) (sym queues)
          (omega (arith, there, length-enqueued 0 (λ i. text_for i (Connected client)) (slice_set old.queues client (Some [])), length-set_queue old.queues client (Some []))),
      omega (arith, put, none),
      opened (is_connected new client) (slice_index_or new.queues client None) version_text queue,
      (omega (arith, none), subst HasFewParts (sym runs.railway) few),
    )

joins_within : (client other n : ℕ) (observed : Observation) (old new : ServerState) → 26 ≤ n → n ≤ 65536 → RunsEvent (Connects other) observed old new → Within client n old → Within client n new
joins_within client other n observed old new least room runs h = elim (cases_eq client other) [
  | inl same ↦ within_more client 26 n new least (joined_within client observed old new (subst (λ (i : ℕ). RunsEvent (Connects i) observed old new) (sym same) runs) h.0 h.3.1)
  | inr differs ↦
      let before = slice_set old.queues other (Some []) in
      let queue : slice_index_or before client None ≡ slice_index_or old.queues client None = get_or-set_other old.queues other client (Some []) None differs in
      let text : length (text_for client (Connected other)) ≡ 0 = ap (λ (b : Bool). length (if b then version_text else [])) (ne_eqb other client (λ same. differs (sym same))) in
      let none : owed new.unreported ≡ 0 = ap owed runs.unreported.1 in
      let few : HasFew new = (omega (arith, none), subst HasFewParts (sym runs.railway) h.3.1) in
      let opened : ServerState = record old { queues = before } in
      let as_old : size client opened ≡ size client old = ap (λ (q : Option (List ℕ)). length (queued q)) queue in
      let prepared : Within client n opened = (
        omega (arith, h.0, length-set_queue old.queues other (Some [])),
        omega (arith, as_old, h.1),
        ap (λ (q : Option (List ℕ)). is_connected old client && not (is_some q)) queue ∙ h.2,
        h.3,
      ) in
      enqueues_within client n n (Connected other) opened new runs.queues
      (ap (λ (bus : BusState). is_some (slice_index_or bus.clients client None)) runs.bus ∙ ap is_some (get_or-set_other old.bus.clients other client (Some []) None differs))
      few (omega (arith, text, none, as_old, h.1)) room prepared
]

leaves_within : (client other n : ℕ) (observed : Observation) (old new : ServerState) → RunsEvent (Disconnects other) observed old new → Within client n old → Within client n new
leaves_within client other n observed old new runs h =
    let queues : new.queues ≡ slice_set old.queues other None = runs.queues in
    let there : client < length new.queues = subst (λ (all : SendQueues). client < length all) (sym queues) (omega (arith, h.0, length-set_queue old.queues other None)) in
    let none : owed new.unreported ≡ 0 = ap owed runs.unreported.1 in
    let few : HasFew new = (omega (arith, none), subst HasFewParts (sym runs.railway) h.3.1) in
    elim (cases_eq client other) [
      | inl same ↦
          let leaves : RunsEvent (Disconnects client) observed old new = subst (λ (i : ℕ). RunsEvent (Disconnects i) observed old new) (sym same) runs in
          let queue : size client new ≡ 0 = ap (λ (all : SendQueues). length (queued (slice_index_or all client None))) leaves.queues ∙ ap (λ (q : Option (List ℕ)). length (queued q)) (none_set old.queues client) in
          (there, omega (arith, queue, none), left_is_not_late client observed old new leaves, few)
      | inr differs ↦
          let queue : slice_index_or new.queues client None ≡ slice_index_or old.queues client None = ap (λ (all : SendQueues). slice_index_or all client None) queues ∙ get_or-set_other old.queues other client None None differs in
          let as_old : size client new ≡ size client old = ap (λ (q : Option (List ℕ)). length (queued q)) queue in
          let kept : is_connected new client ≡ is_connected old client =
          ap (λ (bus : BusState). is_some (slice_index_or bus.clients client None)) runs.bus ∙ ap is_some (get_or-set_other old.bus.clients other client None None differs) in
          (there, omega (arith, as_old, none, h.1), ap₂ (λ (a b : Bool). a && not b) kept (ap is_some queue) ∙ h.2, few)
    ]

-- One client is read, from a queue in which the text of one more request has room.

-- what is read closes no connection
abbrev ReadOne : (client n : ℕ) → TransportEvent → ServerState → Type 0
ReadOne client n log new = Within client (n + 4923) new × (is_closed client log ≡ false)

received_within : Limits → (client reader byte n : ℕ) (applied : List LoggedEvent) (old new : ServerState) → RunsEventWithReports (Receives reader byte) applied old new → n + 4923 ≤ 65536 → Sized client n old
    → Within client (n + 4923) new
received_within same client reader byte n applied old new runs room h =
    let first = first_event (Receives reader byte) applied old new runs.1 runs.2 in
    let ready = when_none_due client n old (none_due (Receives reader byte) first.0 old first.1 refl first.3) h in
    reports_within client (n + 4923) first.2 first.1 new first.5 first.4 room (receives_within same client reader byte n first.0 old first.1 first.3 room ready)

left_within : (client reader n : ℕ) (applied : List LoggedEvent) (old new : ServerState) → RunsEventWithReports (Disconnects reader) applied old new → Sized client n old → Within client (n + 4923) new
left_within client reader n applied old new runs h =
    let leaves = only_leaves reader applied old new runs in
    within_more client n (n + 4923) new (omega arith)
    (leaves_within client reader n leaves.0 old new leaves.1 (when_none_due client n old (none_due (Disconnects reader) leaves.0 old new refl leaves.1) h))

read_one : Limits → (client reader n : ℕ) (log : TransportEvent) (applied : List LoggedEvent) (old new : ServerState) → Applies log applied old new → is_read reader log ≡ true → n + 4923 ≤ 65536 → Sized client n old
    → ReadOne client n log new
read_one same client reader n (Received i byte) applied old new does is room h = (received_within same client i byte n applied (with_backlog old) new does.1 room h, refl)
read_one same client reader n (PeerClosed i) applied old new does is room h = (left_within client i n applied old new does h, refl)
read_one same client reader n (ReadBlocked i) applied old new does is room h =
    (subst (λ (s : ServerState). Within client (n + 4923) s) (sym does.1) (within_more client (n + 4134) (n + 4923) old (omega arith) (as_within client n old h)), refl)
read_one same client reader n (Polled longest) applied old new does is room h = cc
read_one same client reader n (Accepted i) applied old new does is room h = cc
read_one same client reader n (Written i written) applied old new does is room h = cc
read_one same client reader n (ServerClosed i) applied old new does is room h = cc
read_one same client reader n (WriteBlocked i) applied old new does is room h = cc
read_one same client reader n NonePending applied old new does is room h = cc
read_one same client reader n Refused applied old new does is room h = cc

-- and then it is read on
read_on : (client reader n : ℕ) (old new : ServerState) → IsReadOn reader old new → 16384 ≤ n → Sized client n old → Within client (n + 4923) new → Sized client n new
read_on client reader n old new on most before h = elim on.1 [
  | inl none ↦ (h.0, omega (arith, most, uncrowded_at new.queues client none), h.2, h.3)
  | inr same ↦ (h.0, subst (λ (all : SendQueues). length (queued (slice_index_or all client None)) ≤ n) (sym same) before.1, h.2, h.3)
]

-- what a number of reads leave
abbrev ReadAll : (client n : ℕ) → List Handled → ServerState → Type 0
ReadAll client n handled new = Sized client n new × (list_any (is_closed client) (transport_events handled) ≡ false)

reads_on : Limits → (client reader n : ℕ) (handled : List Handled) (old new : ServerState) → ReadsOn reader handled old new → 16384 ≤ n → n + 4923 ≤ 65536 → Sized client n old → ReadAll client n handled new
reads_on same client reader n [] old new reads most room h = (subst (λ (s : ServerState). Sized client n s) (sym reads) h, refl)
reads_on same client reader n (one ∷ handled) old new reads most room h =
    let first = read_one same client reader n one.log one.applied old reads.0 reads.2 reads.1 room h in
    let rest = reads_on same client reader n handled reads.0 new reads.4 most room (read_on client reader n old reads.0 reads.3 most h first.0) in
    (rest.0, none_of_both (is_closed client one.log) (list_any (is_closed client) (transport_events handled)) first.1 rest.1)

reads : Limits → (client reader : ℕ) (handled : List Handled) (old new : ServerState) → Reads reader handled old new → Within client 54247 old
    → Within client 65536 new × (list_any (is_closed client) (transport_events handled) ≡ false)
reads same client reader handled old new does h = elim does [
  | inl waits ↦ (
    subst (λ (s : ServerState). Within client 65536 s) (sym waits.2) (within_more client 54247 65536 old (omega arith) h),
    subst (λ (all : List Handled). list_any (is_closed client) (transport_events all) ≡ false) (sym waits.1) refl,
  )
  | inr (inl all) ↦
      let read = reads_on same client reader 54247 handled old new all.1 (omega arith) (omega arith) (as_sized client 54247 old h) in
      (within_more client 58381 65536 new (omega arith) (as_within client 54247 new read.0), read.1)
  | inr (inr ends) ↦
      let before = reads_on same client reader 54247 ends.1 old ends.3 ends.6 (omega arith) (omega arith) (as_sized client 54247 old h) in
      let last = read_one same client reader 54247 ends.2.log ends.2.applied ends.3 new ends.8 ends.7 (omega arith) before.0 in (
        within_more client 59170 65536 new (omega arith) last.0,
        subst (λ (all : List Handled). list_any (is_closed client) (transport_events all) ≡ false) (sym ends.4)
            (ap (list_any (is_closed client)) (log-append ends.1 (ends.2 ∷ [])) ∙ list_any-append (is_closed client) (transport_events ends.1) (ends.2.log ∷ [])
            ∙ none_of_both (list_any (is_closed client) (transport_events ends.1)) (list_any (is_closed client) (ends.2.log ∷ [])) before.1 (none_of_both (is_closed client ends.2.log) false last.1 refl)),
      )
]

-- All are written to, or pending clients accepted: nothing is read.

-- a client that has not overflowed is not closed
not_closed : (client other : ℕ) (state : ServerState) → has_overflowed state other ≡ true → has_overflowed state client ≡ false → (other == client) ≡ false
not_closed client other state overflowed unfull = elim (cases_eq other client) [
  | inl same ↦ no_both (has_overflowed state client) (subst (λ (i : ℕ). has_overflowed state i ≡ true) same overflowed) unfull
  | inr differs ↦ ne_eqb other client differs
]

written_within : (client other n : ℕ) (bytes : List ℕ) (applied : List LoggedEvent) (old new : ServerState) → Applies (Written other bytes) applied old new → Within client n old → Within client n new
written_within client other n bytes applied old new does h =
    let rest = does.1 in
    let set : new ≡ record old { queues = slice_set old.queues other (Some rest) } = does.3 in
    let changed : ServerState = record old { queues = slice_set old.queues other (Some rest) } in
    let one : Applies (Written other bytes) [] old changed = (refl, rest, does.2, refl) in
    let unfull = (put_keeps other bytes [] old changed refl one).on_time client h.2 in
    let there : client < length changed.queues = omega (arith, h.0, length-set_queue old.queues other (Some rest)) in
    let most : size client changed + owed old.unreported ≤ n = elim (cases_eq client other) [
      | inl same ↦
          let queue : slice_index_or changed.queues client None ≡ Some rest =
          subst (λ (i : ℕ). slice_index_or (slice_set old.queues other (Some rest)) i None ≡ Some rest) (sym same) (set_at old.queues other (bytes ++ rest) rest does.2) in
          let before : slice_index_or old.queues client None ≡ Some (bytes ++ rest) = subst (λ (i : ℕ). slice_index_or old.queues i None ≡ Some (bytes ++ rest)) (sym same) does.2 in
          let before_size : size client old ≡ length (bytes ++ rest) = ap (λ (q : Option (List ℕ)). length (queued q)) before in
          let left : size client changed ≡ length rest = ap (λ (q : Option (List ℕ)). length (queued q)) queue in
          omega (arith, h.1, before_size, left, length-append bytes rest)
      | inr differs ↦
          let left : size client changed ≡ size client old = ap (λ (q : Option (List ℕ)). length (queued q)) (get_or-set_other old.queues other client (Some rest) None differs) in
          omega (arith, h.1, left)
    ] in
    subst (λ (s : ServerState). Within client n s) (sym set) (there, most, unfull, h.3)

-- one event without reading: the text of a client grows at most to the version line, and it is not closed
abbrev Unclosed : (client n : ℕ) → TransportEvent → ServerState → Type 0
Unclosed client n log new = Within client n new × (is_closed client log ≡ false)

unread_one : (client n : ℕ) (log : TransportEvent) (applied : List LoggedEvent) (old new : ServerState) → Applies log applied old new → is_reading log ≡ false → 26 ≤ n → n ≤ 65536 → Within client n old → Unclosed client n log new
unread_one client n (Polled longest) applied old new does unread least room h = absurd does
unread_one client n (Accepted i) applied old new does unread least room h =
    let joins = only_joins i applied (with_backlog old) new does.1 in
    (joins_within client i n joins.0 (with_backlog old) new least room joins.1 h, refl)
unread_one client n (Received i byte) applied old new does unread least room h = cc
unread_one client n (PeerClosed i) applied old new does unread least room h =
    let leaves = only_leaves i applied old new does in
    (leaves_within client i n leaves.0 old new leaves.1 h, refl)
unread_one client n (Written i bytes) applied old new does unread least room h = (written_within client i n bytes applied old new does h, refl)
unread_one client n (ServerClosed i) applied old new does unread least room h =
    let leaves = only_leaves i applied old new does.1 in
    (leaves_within client i n leaves.0 old new leaves.1 h, not_closed client i old does.0 h.2)
unread_one client n (ReadBlocked i) applied old new does unread least room h = cc
unread_one client n (WriteBlocked i) applied old new does unread least room h = (subst (λ (s : ServerState). Within client n s) (sym does.1) h, refl)
unread_one client n NonePending applied old new does unread least room h = (subst (λ (s : ServerState). Within client n s) (sym does.1) h, refl)
unread_one client n Refused applied old new does unread least room h = (subst (λ (s : ServerState). Within client n s) (sym does.2) h, refl)

unread_all : (client n : ℕ) (handled : List Handled) (old new : ServerState) → AppliesAll handled old new → IsUnread (transport_events handled) → 26 ≤ n → n ≤ 65536 → Within client n old
    → Within client n new × (list_any (is_closed client) (transport_events handled) ≡ false)
unread_all client n [] old new same unread least room h = (subst (λ (s : ServerState). Within client n s) (sym same) h, refl)
unread_all client n (one ∷ handled) old new does unread least room h =
    let p = unread_parts (is_reading one.log) (list_any is_reading (transport_events handled)) unread in
    let first = unread_one client n one.log one.applied old does.0 does.1 p.0 least room h in
    let rest = unread_all client n handled does.0 new does.2 p.1 least room first.0 in
    (rest.0, none_of_both (is_closed client one.log) (list_any (is_closed client) (transport_events handled)) first.1 rest.1)

-- A client that is accepted has no more than the version line in its queue.

abbrev is_accepting : (client : ℕ) → TransportEvent → Bool
is_accepting i (Accepted client) = client == i
is_accepting i other = false

accepted_one : (client : ℕ) (log : TransportEvent) (applied : List LoggedEvent) (old new : ServerState) → Applies log applied old new → is_accepting client log ≡ true → Within client 65536 old → Within client 4923 new
accepted_one client (Accepted i) applied old new does is h =
    let joins = only_joins i applied (with_backlog old) new does.1 in
    within_more client 26 4923 new (omega arith) (joined_within client joins.0 (with_backlog old) new (subst (λ (k : ℕ). RunsEvent (Connects k) joins.0 (with_backlog old) new) (eqb-true i client is) joins.1) h.0 h.3.1)
accepted_one client (Polled longest) applied old new does is h = cc
accepted_one client (Received i byte) applied old new does is h = cc
accepted_one client (PeerClosed i) applied old new does is h = cc
accepted_one client (Written i bytes) applied old new does is h = cc
accepted_one client (ServerClosed i) applied old new does is h = cc
accepted_one client (ReadBlocked i) applied old new does is h = cc
accepted_one client (WriteBlocked i) applied old new does is h = cc
accepted_one client NonePending applied old new does is h = cc
accepted_one client Refused applied old new does is h = cc

accepted_small : (client : ℕ) (handled : List Handled) (old new : ServerState) → AppliesAll handled old new → IsUnread (transport_events handled) → list_any (is_accepting client) (transport_events handled) ≡ true
    → Within client 65536 old → Within client 4923 new
accepted_small client [] old new does unread some h = cc
accepted_small client (one ∷ handled) old new does unread some h =
    let p = unread_parts (is_reading one.log) (list_any is_reading (transport_events handled)) unread in
    elim (either (is_accepting client one.log) (list_any (is_accepting client) (transport_events handled)) some) [
      | inl now ↦
          let small = accepted_one client one.log one.applied old does.0 does.1 now h in
          (unread_all client 4923 handled does.0 new does.2 p.1 (omega arith) (omega arith) small).0
      | inr later ↦
          let first = unread_one client 65536 one.log one.applied old does.0 does.1 p.0 (omega arith) (omega arith) h in
          accepted_small client handled does.0 new does.2 p.1 later first.0
    ]

-- one that takes no more, or has just been accepted
blocked_one : (client : ℕ) (log : TransportEvent) → is_write_blocked client log ≡ true → is_blocked client log ≡ false → is_accepting client log ≡ true
blocked_one client (Accepted i) is unfull = is
blocked_one client (WriteBlocked i) is unfull = no_both (i == client) is unfull
blocked_one client (Polled longest) is unfull = cc
blocked_one client (Received i byte) is unfull = cc
blocked_one client (PeerClosed i) is unfull = cc
blocked_one client (Written i bytes) is unfull = cc
blocked_one client (ServerClosed i) is unfull = cc
blocked_one client (ReadBlocked i) is unfull = cc
blocked_one client NonePending is unfull = cc
blocked_one client Refused is unfull = cc

blocked_all : (client : ℕ) (log : List TransportEvent) → list_any (is_write_blocked client) log ≡ true → list_any (is_blocked client) log ≡ false → list_any (is_accepting client) log ≡ true
blocked_all client [] is unfull = cc
blocked_all client (one ∷ log) is unfull =
    let p = unread_parts (is_blocked client one) (list_any (is_blocked client) log) unfull in
    elim (either (is_write_blocked client one) (list_any (is_write_blocked client) log) is) [
      | inl now ↦ or_true_left (is_accepting client one) (list_any (is_accepting client) log) (blocked_one client one now p.0)
      | inr later ↦ or_true_right (is_accepting client one) (list_any (is_accepting client) log) (blocked_all client log later p.1)
    ]

-- A part of a log.

up_before : (client : ℕ) (log more : List TransportEvent) → KeepsUp client (log ++ more) → KeepsUp client log
up_before client log more h =
    ((unread_parts (list_any (is_blocked client) log) (list_any (is_blocked client) more) (sym (list_any-append (is_blocked client) log more) ∙ h.0)).0, λ row. h.1 (row_before client 4 log more row))

up_behind : (client : ℕ) (log more : List TransportEvent) → KeepsUp client (log ++ more) → KeepsUp client more
up_behind client log more h =
    ((unread_parts (list_any (is_blocked client) log) (list_any (is_blocked client) more) (sym (list_any-append (is_blocked client) log more) ∙ h.0)).1, λ row. h.1 (row_behind client 4 log more row))

-- What a part of a run does for a client that keeps up: at most this much text is left in its queue, and it is not closed.
abbrev StaysUp : (client n : ℕ) → List TransportEvent → ServerState → Type 0
StaysUp client n log new = Within client n new × (list_any (is_closed client) log ≡ false)

both_stay : (client n : ℕ) (first second : List TransportEvent) (new : ServerState) → list_any (is_closed client) first ≡ false → StaysUp client n second new → StaysUp client n (first ++ second) new
both_stay client n first second new none h =
    (h.0, list_any-append (is_closed client) first second ∙ none_of_both (list_any (is_closed client) first) (list_any (is_closed client) second) none h.1)

-- A client has at most 3,579 bytes in its queue after it was written to, with the reports that may be due.
serve_keeps : Limits → (client reader : ℕ) (handled : List Handled) (old new : ServerState) → client < 8 → ServesClient reader handled old new → KeepsUp client (transport_events handled) → Within client 54247 old
    → StaysUp client 4923 (transport_events handled) new
serve_keeps same client reader handled old new among serve up h =
    let heard = serve.0 in
    let written = serve.1 in
    let log : transport_events handled ≡ transport_events heard ++ transport_events written = ap transport_events serve.3 ∙ log-append heard written in
    let up_log : KeepsUp client (transport_events heard ++ transport_events written) = subst (KeepsUp client) log up in
    let up_written = up_behind client (transport_events heard) (transport_events written) up_log in
    let read = reads same client reader heard old serve.2 serve.4 h in
    let put = unread_all client 65536 written serve.2 new serve.5 serve.6 (omega arith) (omega arith) read.0 in
    let small : Within client 4923 new = elim (serve.7 client among).0 [
      | inl empty ↦ let none : size client new ≡ 0 = ap length empty in (put.0.0, omega (arith, none, put.0.3.0), put.0.2, put.0.3)
      | inr (inl blocked) ↦ accepted_small client written serve.2 new serve.5 serve.6 (blocked_all client (transport_events written) blocked up_written.0) read.0
      | inr (inr four) ↦ absurd (up_written.1 four)
    ] in
    subst (λ (all : List TransportEvent). StaysUp client 4923 all new) (sym log) (both_stay client 4923 (transport_events heard) (transport_events written) new read.1 (small, put.1))

-- the last of some
last_keeps : Limits → (client n : ℕ) (handled first last : List Handled) (old mid new : ServerState) → client < 8 → handled ≡ first ++ last → ServesClient n last mid new → KeepsUp client (transport_events handled)
    → (KeepsUp client (transport_events first) → StaysUp client 54247 (transport_events first) mid) → StaysUp client 4923 (transport_events handled) new
last_keeps same client n handled first last old mid new among both serve up before =
    let log : transport_events handled ≡ transport_events first ++ transport_events last = ap transport_events both ∙ log-append first last in
    let up_log : KeepsUp client (transport_events first ++ transport_events last) = subst (KeepsUp client) log up in
    let so_far = before (up_before client (transport_events first) (transport_events last) up_log) in
    let after = serve_keeps same client n last mid new among serve (up_behind client (transport_events first) (transport_events last) up_log) so_far.0 in
    subst (λ (all : List TransportEvent). StaysUp client 4923 all new) (sym log) (both_stay client 4923 (transport_events first) (transport_events last) new so_far.1 after)

serves_keep : Limits → (client first count : ℕ) (handled : List Handled) (old new : ServerState) → client < 8 → ServesClients first count handled old new → KeepsUp client (transport_events handled) → Within client 54247 old
    → StaysUp client 54247 (transport_events handled) new
serves_keep same client first zero handled old new among serves up h =
    subst (λ (all : List Handled). StaysUp client 54247 (transport_events all) new) (sym serves.0) (subst (λ (s : ServerState). Within client 54247 s) (sym serves.1) h, refl)
serves_keep same client first (suc n) handled old new among serves up h =
    let all = last_keeps same client (nth_client first n) handled serves.0 serves.1 old serves.2 new among serves.3 serves.5 up (λ before. serves_keep same client first n serves.0 old serves.2 among serves.4 before h) in
    (within_more client 4923 54247 new (omega arith) all.0, all.1)

-- all eight are served
all_served : Limits → (client first : ℕ) (handled : List Handled) (old new : ServerState) → client < 8 → ServesClients first 8 handled old new → KeepsUp client (transport_events handled) → Within client 54247 old
    → StaysUp client 4923 (transport_events handled) new
all_served same client first handled old new among all up h =
    let serves : ServesClients first (suc 7) handled old new = all in
    last_keeps same client (nth_client first 7) handled serves.0 serves.1 old serves.2 new among serves.3 serves.5 up (λ before. serves_keep same client first 7 serves.0 old serves.2 among serves.4 before h)

round_keeps : Limits → (client : ℕ) (handled : List Handled) (old new : ServerState) → client < 8 → IsRound handled old new → KeepsUp client (transport_events handled) → Within client 54247 old → StaysUp client 4923 (transport_events handled) new
round_keeps same client handled old new among round up h =
    let early = transport_events round.0 in
    let written = transport_events round.1 in
    let served = transport_events round.2 in
    let joined = transport_events round.3 in
    let log : transport_events handled ≡ early ++ (written ++ (served ++ joined)) =
    ap transport_events round.7 ∙ log-append round.0 (round.1 ++ (round.2 ++ round.3))
    ∙ ap (λ (rest : List TransportEvent). early ++ rest) (log-append round.1 (round.2 ++ round.3) ∙ ap (λ (rest : List TransportEvent). written ++ rest) (log-append round.2 round.3)) in
    let up_log : KeepsUp client (early ++ (written ++ (served ++ joined))) = subst (KeepsUp client) log up in
    let up_rest = up_behind client written (served ++ joined) (up_behind client early (written ++ (served ++ joined)) up_log) in
    let begun = unread_all client 54247 round.0 old round.4 (early_applies round.0 old round.4 round.8) (early_unread round.0 old round.4 round.8) (omega arith) (omega arith) h in
    let told = unread_all client 54247 round.1 round.4 round.5 round.9.0 round.9.1 (omega arith) (omega arith) begun.0 in
    let read = all_served same client round.5.first_client round.2 round.5 round.6 among round.10 (up_before client served joined up_rest) told.0 in
    let accepted = unread_all client 4923 round.3 round.6 new (accepts_apply round.3 round.6 new round.11) (accepts_unread round.3 round.6 new round.11) (omega arith) (omega arith) read.0 in
    subst (λ (all : List TransportEvent). StaysUp client 4923 all new) (sym log)
    (both_stay client 4923 early (written ++ (served ++ joined)) new begun.1
    (both_stay client 4923 written (served ++ joined) new told.1 (both_stay client 4923 served joined new read.1 accepted)))

-- A round starts: a line of an answer has at most 647 bytes, and that turns have passed is told in 10.

line_most : (line : List ℕ) → length (node_text (take 640 line)) ≤ 647
line_most line = omega (arith, length-append (take 640 line) line_end, length-take 640 line)

lines_most : (names : List (List ℕ)) (nodes : List Node) (count : ℕ) → length (slice_index_or (node_lines names nodes) count (states_ok_text Nodes)) ≤ 647
lines_most [] nodes count = omega arith
lines_most (name ∷ names) [] count = omega arith
lines_most (name ∷ names) (node ∷ nodes) zero = line_most (decoder_line name (spec_of node) (decoder_state_of node))
lines_most (name ∷ names) (node ∷ nodes) (suc count) = lines_most names nodes count

short_most : (line : List ℕ) → length (state_text (take 160 line)) ≤ 647
short_most line = omega (arith, length-append (take 160 line) line_end, length-take 160 line)

each_most : {A : Type 0} (line : A → List ℕ) (last : List ℕ) (items : List A) (i : ℕ) → ((a : A) → length (line a) ≤ 647) → length last ≤ 647 → length (slice_index_or (map line items) i last) ≤ 647
each_most line last [] i each most = most
each_most line last (a ∷ items) zero each most = each a
each_most line last (a ∷ items) (suc i) each most = each_most line last items i each most

trains_most : (names : List (List ℕ)) (railway : Option RailwayState) (i : ℕ) → length (slice_index_or (train_lines names railway) i (states_ok_text Trains)) ≤ 647
trains_most names None i = omega arith
trains_most names (Some railway) i =
    each_most (line_of_train names railway.network) (states_ok_text Trains) railway.trains i
    (λ train. short_most (train_line (slice_index_or names train.decoder []) railway.network.blocks (place_of railway.network.blocks train (shown_speed railway.network train)))) (omega arith)

change_most : (bench : BenchState) (found : Option ℕ) → length (line_of_change bench found) ≤ 647
change_most bench None = omega arith
change_most bench (Some position) = short_most (change_line (name_at bench position) (number_at position) (value_at bench position))

variable_most : (bench : Option BenchState) (from : ℕ) → length (variable_line bench from) ≤ 647
variable_most None from = omega arith
variable_most (Some bench) from = change_most bench (next_change bench from)

things_most : (names : List (List ℕ)) (nodes : List Node) (railway : Option RailwayState) (bench : Option BenchState) (things : Things) (i : ℕ)
    → length (line_at (lines_of names nodes railway) bench things i) ≤ 647
things_most names nodes railway bench Nodes i = lines_most names nodes i
things_most names nodes railway bench Trains i = trains_most names railway i
things_most names nodes railway bench Turnouts i =
    each_most line_of_turnout (states_ok_text Turnouts) (turnouts_of railway) i (λ state. short_most (turnout_line state)) (omega arith)
things_most names nodes railway bench Variables i = variable_most bench i

next_most : (names : List (List ℕ)) (nodes : List Node) (railway : Option RailwayState) (bench : Option BenchState) (answer : Option UnderWay)
    → length (next_line (lines_of names nodes railway) bench answer) ≤ 647
next_most names nodes railway bench None = omega arith
next_most names nodes railway bench (Some answer) = things_most names nodes railway bench answer.things answer.next

turns_answer_most : (is_over : Bool) → length (if is_over then turns_ok_text else []) ≤ 10
turns_answer_most true = omega arith
turns_answer_most false = omega arith

starts_within : (client : ℕ) (old : ServerState) → Within client 53590 old → Within client 54247 (round_start old)
starts_within client old h =
    let line = next_line (lines_of old.names old.nodes old.railway) old.programming (slice_index_or old.answers client None) in
    let owed = due_to old.turns_due client in
    let answer : length (answer_to old client) ≤ 657 =
    omega (arith, next_most old.names old.nodes old.railway old.programming (slice_index_or old.answers client None), turns_answer_most (have_passed owed), length-append line (turns_answer owed)) in
    texts_within client 53590 54247 (answer_to old) old (round_start old) refl refl h.3 (omega (arith, answer, h.1)) (omega arith) h

rounds_keep : Limits → (client most : ℕ) (rounds : List Round) (old new : ServerState) → client < 8 → RunsRounds most rounds old new → KeepsUp client (transport_log rounds) → Within client 53590 old
    → list_any (is_closed client) (transport_log rounds) ≡ false
rounds_keep same client most [] old new among h up within = refl
rounds_keep same client most (round ∷ rounds) old new among h up within =
    let went = h.2 in
    let first = Polled round.longest ∷ transport_events round.handled in
    let up_first = up_behind client (Polled round.longest ∷ []) (transport_events round.handled) (up_before client first (transport_log rounds) up) in
    let served = round_keeps same client round.handled (round_start old) went.1 among went.2 up_first (starts_within client old within) in
    let ran = track_within same client went.1.pace round.readings round.elapsing went.1 h.1 went.3 (within_more client 4923 20518 went.1 (omega arith) served.0) in
    let rest = rounds_keep same client most rounds h.1 new among h.3 (up_behind client first (transport_log rounds) up) ran in
    list_any-append (is_closed client) first (transport_log rounds) ∙ none_of_both (list_any (is_closed client) first) (list_any (is_closed client) (transport_log rounds)) served.1 rest

pub stays_connected : Limits → (client most : ℕ) (rounds : List Round) (old new : ServerState) → IsAtRest old → client < 8 → length old.queues ≡ 8 → IsUpToDate client old → RunsRounds most rounds old new
    → KeepsUp client (transport_log rounds) → list_any (is_closed client) (transport_log rounds) ≡ false
stays_connected same client most rounds old new rest among eight here runs up =
    let none : owed old.unreported ≡ 0 = ap owed rest.0 in
    let empty : size client old ≡ 0 = ap length here.0 in
    rounds_keep same client most rounds old new among runs up (omega (arith, among, eight), omega (arith, none, empty), here.1, (omega (arith, none), few_first same old.railway rest.1))
