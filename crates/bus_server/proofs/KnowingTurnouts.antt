-- What a client knows of a turnout with feedback by the reports on the bus.
use Rattle.std.proofs.Common.{◌≡◌, ℕ, ◌≤◌, Bool, true, false, if◌then◌else◌, List, [], ◌∷◌, ◌++◌, Option, None, Some, refl, ap, ap₂, sym, subst, ◌∙◌, append-nil, nat_le}
use Rattle.std.specs.Prelude.{◌==◌, ◌&&◌, Err, IsTrue, Ok, is_some, not}
use Rattle.std.specs.List.{find, slice_index_or}
use Rattle.std.specs.Option.{option_and_then, option_map, option_or, option_to_list}
use Rattle.std.proofs.lemmas.Bool.{and_from, and_parts, leb-true}
use Rattle.std.proofs.lemmas.List.Concat.{flat_map-append}
use Rattle.layout_core.specs.declared.node.Node.{Node}
use Rattle.refresh_ring.specs.declared.pick.Power.{Power}
use Rattle.ln_ops.specs.declared.sensor.SensorReport.{SensorReport}
use Rattle.ln_ops.specs.Reply.{reply_bytes}
use Rattle.ln_ops.specs.Sensor.{begins_interrogation}
use Rattle.ln_ops.specs.declared.reply.Reply.{Reply}
use Rattle.ln_ops.specs.declared.reply.Reply.TheVariants.{LongAck, SlotData}
use Rattle.station_core.specs.Station.{answer_to_message, packet_of_turn}
use Rattle.bus.specs.Outcome.{messages_in}
use Rattle.bus.specs.declared.outcome.Outcome.{Outcome}
use Rattle.bus.specs.declared.outcome.Outcome.TheVariants.{Nothing, Sent, TurnBegan}
use Rattle.loconet_tcp.specs.declared.request.Request.{Request}
use Rattle.loconet_tcp.specs.declared.request.Request.TheVariants.{Invalid, States, Place, Device, Send, Turns}
use Rattle.railway.specs.declared.joint.Turnout.{Turnout as TurnoutOfPlan}
use Rattle.railway.specs.declared.joint.TurnoutState.{TurnoutState}
use Rattle.railway.specs.declared.turnout_report.TurnoutReport.{TurnoutReport}
use Rattle.railway.specs.Course.{Happening, after, after_all, movements_of, movements_of_all}
use Rattle.railway.specs.Course.Happening.{Elapses as TimeElapses, FailuresEnd, SensorFails, TurnoutFails}
use Rattle.railway.specs.Feedback.{came_to_lie, full_turnouts, is_alone, is_with_feedback, movements, onto, report_at, turnout_report_bytes, requested_switch, side_after, state_bytes, state_answer, turnout_report_of}
use Rattle.railway.specs.Laws.{is_time}
use Rattle.railway.specs.Network.{lies, turnouts_of}
use Rattle.railway.specs.Railway.{RailwayState}
use Rattle.service_mode.specs.declared.packet.ServicePacket.{ServicePacket}
use Rattle.programmer.specs.declared.reply.TaskReply.{TaskReply}
use Rattle.programmer.specs.declared.reply.TaskReply.TheVariants.{Accepted as TaskAccepted, Busy, NotImplemented, Data}
use Rattle.programmer.specs.declared.task_result.TaskResult.{TaskResult}
use Rattle.programmer.specs.Machine.{reply_of}
use Rattle.programmer.specs.Requests.{request_in}
use Rattle.arrayvec.specs.ArrayString.{ArrayString}
use Rattle.programming_track.specs.declared.packet_end.NamedChange.{NamedChange}
use Rattle.programming_track.specs.declared.packet_end.PacketEnd.{PacketEnd}
use Rattle.programming_track.specs.Bench.{BenchState}
use Rattle.bus.specs.declared.event.Event.{Event}
use Rattle.bus.specs.declared.event.Event.TheVariants.{Connects, Receives, Disconnects, Reports, Programs, Elapses, Turn}
use Rattle.bus.specs.Bus.{BusState, client_of, for_station, outcome_of, outcome_of_request, request_at}
use Rattle.bus_server.specs.Observations.{Observation, Observed}
use Rattle.bus_server.specs.ServerState.{RunsEvent, ServerState, outcome_in}
use Rattle.bus_server.specs.Known.{messages_of, received_in}
use Rattle.bus_server.specs.KnownTurnouts.{ClaimNoTurnout, IsTurnoutKnown, are_of_switches, are_switches, is_no_turnout_claim, is_switch, movements_read, side_by}
use Rattle.bus_server.specs.Running.{Round, RunsRounds, logged_in}
use Rattle.bus_server.specs.declared.device_report.DeviceReport.{DeviceReport}
use Rattle.bus_server.specs.declared.device_report.DeviceReport.TheVariants.{Sensor, Turnout, Packet, Ended}
use Rattle.bus_server.specs.DeviceReports.{of_ends, of_result, of_sensors, of_turnouts, event_of, turnouts_in}
use Rattle.loconet_tcp.specs.declared.request.DeviceRequest.TheVariants.{Mount, Fail}
use Rattle.loconet_tcp.specs.declared.request.Failure.TheVariants as failure
use Rattle.bus_server.specs.Placement.{answered, places}
use Rattle.bus_server.specs.Programming.{decoder_on, device_reply, ends_elapsed, programmed, reply_by, reply_or}
use Rattle.bus_server.specs.Sensors.{asks_sensors, reports_of_time, full_report, full_reports, movements_elapsed, next_turn, power_of, railway_elapsed, railway_requested, reports_due, reports_elapsed, turnout_report}
use Rattle.bus_server.proofs.KnownRuns.{rounds_known}

-- what a railway promises of the reports of its turnouts
pub record TurnoutLaws : Type 0 where
  pub read : (report : TurnoutReport) → 1 ≤ report.switch → report.switch ≤ 2048 → turnout_report_of (turnout_report_bytes report) ≡ Some report
  pub kept : (railway : RailwayState) (happening : Happening) → turnouts_of (after railway happening).network.turnouts ≡ turnouts_of railway.network.turnouts
  pub time : (railway : RailwayState) (happening : Happening) → is_time happening ≡ false → movements_of railway happening ≡ []
  pub full : (railway : RailwayState) (turnout switch : ℕ) (before : Bool) (none : TurnoutState) → IsTrue (is_alone turnout switch (turnouts_of railway.network.turnouts))
      → IsTrue (lies (slice_index_or railway.network.turnouts turnout none)) → side_after (full_turnouts railway.network.turnouts) switch before ≡ (slice_index_or railway.network.turnouts turnout none).is_thrown
  pub after : (railway : RailwayState) (happenings : List Happening) (turnout switch : ℕ) (side : Bool) (none : TurnoutState) → IsTrue (is_alone turnout switch (turnouts_of railway.network.turnouts))
      → (IsTrue (lies (slice_index_or railway.network.turnouts turnout none)) → side ≡ (slice_index_or railway.network.turnouts turnout none).is_thrown)
      → IsTrue (lies (slice_index_or (after_all railway happenings).network.turnouts turnout none))
      → side_after (movements_of_all railway happenings) switch side ≡ (slice_index_or (after_all railway happenings).network.turnouts turnout none).is_thrown

-- The reports of more messages.

side-append : (first second : List TurnoutReport) (switch : ℕ) (side : Bool) → side_after (first ++ second) switch side ≡ side_after second switch (side_after first switch side)
side-append [] second switch side = refl
side-append (report ∷ first) second switch side = side-append first second switch (if report.switch == switch then report.is_thrown else side)

by-append : (switch : ℕ) (first second : List (List ℕ)) (side : Bool) → side_by (first ++ second) switch side ≡ side_by second switch (side_by first switch side)
by-append switch first second side =
    ap (λ (reports : List TurnoutReport). side_after reports switch side) (flat_map-append (λ (message : List ℕ). option_to_list (turnout_report_of message)) first second)
    ∙ side-append (movements_read first) (movements_read second) switch side

-- The reports of turnouts among what is due.

turnouts-append : (first second : List DeviceReport) → turnouts_in (first ++ second) ≡ turnouts_in first ++ turnouts_in second
turnouts-append [] second = refl
turnouts-append (Sensor report ∷ first) second = turnouts-append first second
turnouts-append (Turnout report ∷ first) second = ap (λ (all : List TurnoutReport). report ∷ all) (turnouts-append first second)
turnouts-append (Packet packet change ∷ first) second = turnouts-append first second
turnouts-append (Ended ended ∷ first) second = turnouts-append first second

turnouts-of : (reports : List TurnoutReport) → turnouts_in (of_turnouts reports) ≡ reports
turnouts-of [] = refl
turnouts-of (report ∷ reports) = ap (λ (all : List TurnoutReport). report ∷ all) (turnouts-of reports)

none-of_sensors : (reports : List SensorReport) → turnouts_in (of_sensors reports) ≡ []
none-of_sensors [] = refl
none-of_sensors (report ∷ reports) = none-of_sensors reports

none-of_result : (ended : Option TaskResult) → turnouts_in (of_result ended) ≡ []
none-of_result None = refl
none-of_result (Some ended) = refl

none-of_ends : (decoder : Option ArrayString) (ends : List PacketEnd) → turnouts_in (of_ends decoder ends) ≡ []
none-of_ends decoder [] = refl
none-of_ends decoder (one ∷ ends) =
    turnouts-append (of_result one.result) (of_ends decoder ends)
    ∙ ap₂ (λ (these those : List TurnoutReport). these ++ those) (none-of_result one.result) (none-of_ends decoder ends)

turnouts-elapsed : (railway : Option RailwayState) (programming : Option BenchState) (micros : ℕ) (power : Power) (nodes : List Node)
    → turnouts_in (reports_of_time railway programming micros power nodes) ≡ movements_elapsed railway micros power nodes
turnouts-elapsed railway programming micros power nodes =
    let reports : List TurnoutReport = movements_elapsed railway micros power nodes in
    let ends : List DeviceReport = of_ends (decoder_on programming) (ends_elapsed programming micros) in
    turnouts-append (of_sensors (reports_elapsed railway micros power nodes)) (of_turnouts reports ++ ends)
    ∙ ap₂ (λ (these those : List TurnoutReport). these ++ those) (none-of_sensors (reports_elapsed railway micros power nodes))
    (turnouts-append (of_turnouts reports) ends ∙ ap₂ (λ (these those : List TurnoutReport). these ++ those) (turnouts-of reports) (none-of_ends (decoder_on programming) (ends_elapsed programming micros)))
    ∙ append-nil reports

turnouts-full : (railway : Option RailwayState) → turnouts_in (full_reports railway) ≡ turnout_report railway
turnouts-full railway =
    turnouts-append (of_sensors (full_report railway)) (of_turnouts (turnout_report railway))
    ∙ ap₂ (λ (these those : List TurnoutReport). these ++ those) (none-of_sensors (full_report railway)) (turnouts-of (turnout_report railway))

-- They are of switches with an address.

onto-switches : (makes : Bool) (state : TurnoutState) (reports : List TurnoutReport) → is_switch state.turnout.switch ≡ true → are_of_switches reports ≡ true → are_of_switches (onto (if makes then Some (report_at state) else None) reports) ≡ true
onto-switches true state reports h rest = and_from (is_switch state.turnout.switch) (are_of_switches reports) h rest
onto-switches false state reports h rest = rest

movements-switches : (was is : List TurnoutState) → are_switches (turnouts_of is) ≡ true → are_of_switches (movements was is) ≡ true
movements-switches [] is h = refl
movements-switches (before ∷ was) [] h = refl
movements-switches (before ∷ was) (state ∷ is) h =
    let p = and_parts (is_switch state.turnout.switch) (are_switches (turnouts_of is)) h in
    onto-switches (state.turnout.has_feedback && came_to_lie before state) state (movements was is) p.0 (movements-switches was is p.1)

full-switches : (states : List TurnoutState) → are_switches (turnouts_of states) ≡ true → are_of_switches (full_turnouts states) ≡ true
full-switches [] h = refl
full-switches (state ∷ states) h =
    let p = and_parts (is_switch state.turnout.switch) (are_switches (turnouts_of states)) h in
    onto-switches (state.turnout.has_feedback && lies state) state (full_turnouts states) p.0 (full-switches states p.1)

-- The messages of an event are no reports, but for that of a turnout.

no_reply : (reply : Option Reply) → movements_read (option_to_list (option_map reply_bytes reply)) ≡ []
no_reply None = refl
no_reply (Some (SlotData f)) = refl
no_reply (Some (LongAck opc ack)) = refl

no_own_reply : (own : Option TaskReply) (reply : Option Reply) → movements_read (option_to_list (reply_or own (option_map reply_bytes reply))) ≡ []
no_own_reply None reply = no_reply reply
no_own_reply (Some TaskAccepted) reply = refl
no_own_reply (Some Busy) reply = refl
no_own_reply (Some NotImplemented) reply = refl
no_own_reply (Some (Data ended)) reply = refl

no_reply_by : (programming : Option BenchState) (message : List ℕ) (reply : Option Reply) → movements_read (option_to_list (reply_by programming message (option_map reply_bytes reply))) ≡ []
no_reply_by None message reply = no_reply reply
no_reply_by (Some bench) message reply = no_own_reply (reply_of bench.track.programmer (request_in message)) reply

no_device_reply : (railway : Option RailwayState) (programming : Option BenchState) (message : List ℕ) (reply : Option Reply)
    → movements_read (option_to_list (device_reply programming railway message (option_map reply_bytes reply))) ≡ []
no_device_reply None programming message reply = no_reply_by programming message reply
no_device_reply (Some railway) programming message reply = by_switch (requested_switch message) where
  by_state : (state : Option TurnoutState) → movements_read (option_to_list (option_or (option_map state_bytes state) (reply_by programming message (option_map reply_bytes reply)))) ≡ []
  by_state None = no_reply_by programming message reply
  by_state (Some state) = refl

  by_switch : (switch : Option ℕ) → movements_read (option_to_list (option_or (option_and_then (state_answer railway.network.turnouts) switch) (reply_by programming message (option_map reply_bytes reply)))) ≡ []
  by_switch None = no_reply_by programming message reply
  by_switch (Some switch) = by_state (find (is_with_feedback switch) railway.network.turnouts)

none_read : (report : Option TurnoutReport) → not (is_some report) ≡ true → option_to_list report ≡ []
none_read None h = refl
none_read (Some report) h = cc

-- what a client knows does not change by this outcome
abbrev TellsNothing : (switch : ℕ) → (side : Bool) → Outcome → Type 0
TellsNothing switch side outcome = side_by (messages_in outcome) switch side ≡ side

sent_tells : (programming : Option BenchState) (beside : Option RailwayState) (switch : ℕ) (side : Bool) (client : ℕ) (message : List ℕ) (reply : Option Reply) → not (is_some (turnout_report_of message)) ≡ true
    → TellsNothing switch side (Sent client message (device_reply programming beside message (option_map reply_bytes reply)))
sent_tells programming beside switch side client message reply h =
    ap₂ (λ (a b : List TurnoutReport). side_after (a ++ b) switch side) (none_read (turnout_report_of message) h) (no_device_reply beside programming message reply)

request_tells : (programming : Option BenchState) (names : List (List ℕ)) (beside : Option RailwayState) (bus : BusState) (switch : ℕ) (side : Bool) (client : ℕ) (request : Option Request) (nodes : List Node) (railway : Option RailwayState)
    → is_no_turnout_claim (Observed (programmed programming beside (answered names beside (outcome_of_request bus client request))) nodes railway) ≡ true
    → TellsNothing switch side (programmed programming beside (answered names beside (outcome_of_request bus client request)))
request_tells programming names beside bus switch side client None nodes railway h = refl
request_tells programming names beside bus switch side client (Some (Invalid reason)) nodes railway h = refl
request_tells programming names beside bus switch side client (Some (Turns count)) nodes railway h = refl
request_tells programming names beside bus switch side client (Some (States things)) nodes railway h = refl
request_tells programming names beside bus switch side client (Some (Place placement)) nodes railway h = refl
request_tells programming names beside bus switch side client (Some (Device request)) nodes railway h = refl
request_tells programming names beside bus switch side client (Some (Send message)) nodes railway h =
    sent_tells programming beside switch side client message (answer_to_message bus.station (for_station bus (Some (Send message)))) h

time_tells : (programming : Option BenchState) (names : List (List ℕ)) (beside : Option RailwayState) (ends : Bool) (packet : Option (List ℕ)) (switch : ℕ) (side : Bool)
    → TellsNothing switch side (programmed programming beside (answered names beside (if ends then TurnBegan packet else Nothing)))
time_tells programming names beside true packet switch side = refl
time_tells programming names beside false packet switch side = refl

message_in : Event → List ℕ
message_in (Reports message) = message
message_in other = []

rest_of_switches : (report : DeviceReport) (rest : List DeviceReport) → are_of_switches (turnouts_in (report ∷ rest)) ≡ true → are_of_switches (turnouts_in rest) ≡ true
rest_of_switches (Sensor report) rest h = h
rest_of_switches (Turnout report) rest h = (and_parts (is_switch report.switch) (are_of_switches (turnouts_in rest)) h).1
rest_of_switches (Packet packet change) rest h = h
rest_of_switches (Ended ended) rest h = h

-- a packet is no report of a turnout
no_turnout : (report : DeviceReport) (packet : ServicePacket) (change : Option NamedChange) (rest : List DeviceReport) → event_of report ≡ Programs packet change → turnouts_in (report ∷ rest) ≡ turnouts_in rest
no_turnout (Sensor report) packet change rest is = cc
no_turnout (Turnout report) packet change rest is = cc
no_turnout (Packet sent changed) packet change rest is = refl
no_turnout (Ended ended) packet change rest is = cc

-- What is known of one turnout.

module _ (laws : TurnoutLaws) (turnout switch : ℕ) (none : TurnoutState) where
  abbrev IsSo : Bool → ServerState → Type 0
  IsSo side state = IsTurnoutKnown turnout switch none side state

  abbrev IsAlone : RailwayState → Type 0
  IsAlone railway = IsTrue (is_alone turnout switch (turnouts_of railway.network.turnouts))

  abbrev AreSwitches : RailwayState → Type 0
  AreSwitches railway = IsTrue (are_switches (turnouts_of railway.network.turnouts))

  -- a client knows where it lies, if it lies
  abbrev Knows : Bool → RailwayState → Type 0
  Knows side railway = IsTrue (lies (slice_index_or railway.network.turnouts turnout none)) → side ≡ (slice_index_or railway.network.turnouts turnout none).is_thrown

  carried : (side : Bool) (old new : ServerState) → new.railway ≡ old.railway → new.unreported ≡ old.unreported → IsSo side old → IsSo side new
  carried side old new railway unreported h = record {
    railway = h.railway;
    beside = railway ∙ h.beside;
    alone = h.alone;
    switches = h.switches;
    addressed = subst (λ (d : List DeviceReport). are_of_switches (turnouts_in d) ≡ true) (sym unreported) h.addressed;
    known = λ lying. ap (λ (d : List DeviceReport). side_after (turnouts_in d) switch side) unreported ∙ h.known lying;
  }

  none_due : (side : Bool) (railway : RailwayState) (new : ServerState) → new.railway ≡ Some railway → new.unreported ≡ [] → IsAlone railway → AreSwitches railway → Knows side railway → IsSo side new
  none_due side railway new beside made alone switches known = record {
    railway = railway;
    beside = beside;
    alone = alone;
    switches = switches;
    addressed = ap (λ (d : List DeviceReport). are_of_switches (turnouts_in d)) made;
    known = λ lying. ap (λ (d : List DeviceReport). side_after (turnouts_in d) switch side) made ∙ known lying;
  }

  happened : (side : Bool) (happening : Happening) (railway : RailwayState) (new : ServerState) → new.railway ≡ Some (after railway happening) → turnouts_in new.unreported ≡ movements_of railway happening
      → IsAlone railway → AreSwitches railway → Knows side railway → IsSo side new
  happened side happening railway new beside made alone switches known =
      let kept : AreSwitches (after railway happening) = subst (λ (turnouts : List TurnoutOfPlan). are_switches turnouts ≡ true) (sym (laws.kept railway happening)) switches in
      record {
        railway = after railway happening;
        beside = beside;
        alone = subst (λ (turnouts : List TurnoutOfPlan). is_alone turnout switch turnouts ≡ true) (sym (laws.kept railway happening)) alone;
        switches = kept;
        addressed = ap are_of_switches made ∙ movements-switches railway.network.turnouts (after railway happening).network.turnouts kept;
        known = λ lying. ap (λ (reports : List TurnoutReport). side_after reports switch side) (made ∙ sym (append-nil (movements_of railway happening)))
            ∙ laws.after railway (happening ∷ []) turnout switch side none alone known lying;
      }

  -- no turnout moves by anything but time
  arranged : (side : Bool) (happening : Happening) (reports : List SensorReport) (railway : RailwayState) (new : ServerState) → is_time happening ≡ false → new.railway ≡ Some (after railway happening)
      → new.unreported ≡ of_sensors reports → IsAlone railway → AreSwitches railway → Knows side railway → IsSo side new
  arranged side happening reports railway new no_time beside made alone switches known =
      happened side happening railway new beside (ap turnouts_in made ∙ none-of_sensors reports ∙ sym (laws.time railway happening no_time)) alone switches known

  asked : (side : Bool) (railway : RailwayState) (new : ServerState) → new.railway ≡ Some railway → new.unreported ≡ full_reports (Some railway) → IsAlone railway → AreSwitches railway → IsSo side new
  asked side railway new beside made alone switches =
      let told : turnouts_in new.unreported ≡ full_turnouts railway.network.turnouts = ap turnouts_in made ∙ turnouts-full (Some railway) in
      record {
        railway = railway;
        beside = beside;
        alone = alone;
        switches = switches;
        addressed = ap are_of_switches told ∙ full-switches railway.network.turnouts switches;
        known = λ lying. ap (λ (reports : List TurnoutReport). side_after reports switch side) told ∙ laws.full railway turnout switch side none alone lying;
      }

  sent : (side asks : Bool) (railway : RailwayState) (new : ServerState) → new.railway ≡ Some railway → new.unreported ≡ (if asks then full_reports (Some railway) else []) → IsAlone railway → AreSwitches railway → Knows side railway → IsSo side new
  sent side true railway new beside made alone switches known = asked side railway new beside made alone switches
  sent side false railway new beside made alone switches known = none_due side railway new beside made alone switches known

  requested : (names : List (List ℕ)) (side : Bool) (bus : BusState) (client : ℕ) (request : Option Request) (railway : RailwayState) (new : ServerState)
      → new.railway ≡ railway_requested names (outcome_of_request bus client request) (Some railway) → new.unreported ≡ reports_due names (outcome_of_request bus client request) (Some railway) []
      → IsAlone railway → AreSwitches railway → Knows side railway → IsSo side new
  requested names side bus client None railway new beside made alone switches known = none_due side railway new beside made alone switches known
  requested names side bus client (Some (Invalid reason)) railway new beside made alone switches known = none_due side railway new beside made alone switches known
  requested names side bus client (Some (Turns count)) railway new beside made alone switches known = none_due side railway new beside made alone switches known
  requested names side bus client (Some (States things)) railway new beside made alone switches known = none_due side railway new beside made alone switches known
  requested names side bus client (Some (Place (Err error))) railway new beside made alone switches known = none_due side railway new beside made alone switches known
  requested names side bus client (Some (Place (Ok placement))) railway new beside made alone switches known = arranged side (places names railway placement) _ railway new refl beside made alone switches known
  requested names side bus client (Some (Device (Mount decoder))) railway new beside made alone switches known = none_due side railway new beside made alone switches known
  requested names side bus client (Some (Device (Fail (Err error)))) railway new beside made alone switches known = none_due side railway new beside made alone switches known
  requested names side bus client (Some (Device (Fail (Ok None)))) railway new beside made alone switches known = arranged side FailuresEnd _ railway new refl beside made alone switches known
  requested names side bus client (Some (Device (Fail (Ok (Some failure.Programming))))) railway new beside made alone switches known = none_due side railway new beside made alone switches known
  requested names side bus client (Some (Device (Fail (Ok (Some (failure.Sensor sensor occupied)))))) railway new beside made alone switches known =
      arranged side (SensorFails sensor occupied) _ railway new refl beside made alone switches known
  requested names side bus client (Some (Device (Fail (Ok (Some (failure.Turnout failing)))))) railway new beside made alone switches known =
      arranged side (TurnoutFails failing) _ railway new refl beside made alone switches known
  requested names side bus client (Some (Send message)) railway new beside made alone switches known = sent side (begins_interrogation message) railway new beside made alone switches known

  by_interrogation : (names : List (List ℕ)) (side : Bool) (bus : BusState) (client : ℕ) (request : Option Request) (railway : RailwayState) (new : ServerState)
      → new.railway ≡ railway_requested names (outcome_of_request bus client request) (Some railway) → new.unreported ≡ reports_due names (outcome_of_request bus client request) (Some railway) []
      → IsAlone railway → AreSwitches railway → asks_sensors (outcome_of_request bus client request) ≡ true → IsSo side new
  by_interrogation names side bus client None railway new beside made alone switches asks = cc
  by_interrogation names side bus client (Some (Invalid reason)) railway new beside made alone switches asks = cc
  by_interrogation names side bus client (Some (Turns count)) railway new beside made alone switches asks = cc
  by_interrogation names side bus client (Some (States things)) railway new beside made alone switches asks = cc
  by_interrogation names side bus client (Some (Place placement)) railway new beside made alone switches asks = cc
  by_interrogation names side bus client (Some (Device request)) railway new beside made alone switches asks = cc
  by_interrogation names side bus client (Some (Send message)) railway new beside made alone switches asks =
      asked side railway new beside (made ∙ ap (λ (a : Bool). if a then full_reports (Some railway) else []) asks) alone switches

  -- what a client knows after the messages of an event
  abbrev side_of_event : Observation → Bool → Bool
  side_of_event observed side = side_by (messages_of observed ++ []) switch side

  untold : (side : Bool) (observed : Observation) (outcome : Outcome) (nodes : List Node) (railway : Option RailwayState) → observed ≡ Observed outcome nodes railway → TellsNothing switch side outcome
      → side_of_event observed side ≡ side
  untold side observed outcome nodes railway saw tells =
      ap (λ (o : Observation). side_of_event o side) saw ∙ ap (λ (messages : List (List ℕ)). side_by messages switch side) (append-nil (messages_in outcome)) ∙ tells

  so_still : (side : Bool) (observed : Observation) (new : ServerState) → side_of_event observed side ≡ side → IsSo side new → IsSo (side_of_event observed side) new
  so_still side observed new same h = subst (λ (s : Bool). IsSo s new) (sym same) h

  elapses : (micros : ℕ) (side : Bool) (programming : Option BenchState) (power : Power) (nodes : List Node) (old new : ServerState) → old.unreported ≡ [] → new.railway ≡ railway_elapsed old.railway micros power nodes
      → new.unreported ≡ reports_of_time old.railway programming micros power nodes → IsSo side old → IsSo side new
  elapses micros side programming power nodes old new nothing trains unreported h =
      happened side (TimeElapses micros power nodes) h.railway new
      (trains ∙ ap (λ (r : Option RailwayState). railway_elapsed r micros power nodes) h.beside)
      (ap turnouts_in unreported ∙ turnouts-elapsed old.railway programming micros power nodes ∙ ap (λ (r : Option RailwayState). movements_elapsed r micros power nodes) h.beside)
      h.alone h.switches (λ lying. sym (ap (λ (d : List DeviceReport). side_after (turnouts_in d) switch side) nothing) ∙ h.known lying)

  report_tells : (report : DeviceReport) (rest : List DeviceReport) (side : Bool) → are_of_switches (turnouts_in (report ∷ rest)) ≡ true
      → side_after (turnouts_in rest) switch (side_by (message_in (event_of report) ∷ []) switch side) ≡ side_after (turnouts_in (report ∷ rest)) switch side
  unfolding message_in
  report_tells (Sensor report) rest side legal = refl
  report_tells (Turnout report) rest side legal =
      let p = and_parts (is_switch report.switch) (are_of_switches (turnouts_in rest)) legal in
      let q = and_parts (nat_le 1 report.switch) (nat_le report.switch 2048) p.0 in
      ap (λ (read : Option TurnoutReport). side_after (turnouts_in rest) switch (side_after (option_to_list read ++ []) switch side)) (laws.read report (leb-true 1 report.switch q.0) (leb-true report.switch 2048 q.1))
  report_tells (Packet packet change) rest side legal = refl
  report_tells (Ended ended) rest side legal = refl

  reported : (report : DeviceReport) (message : List ℕ) (rest : List DeviceReport) (side : Bool) → are_of_switches (turnouts_in (report ∷ rest)) ≡ true → event_of report ≡ Reports message
      → side_after (turnouts_in rest) switch (side_by (message ∷ []) switch side) ≡ side_after (turnouts_in (report ∷ rest)) switch side
  unfolding message_in
  reported report message rest side legal is =
      subst (λ (told : List ℕ). side_after (turnouts_in rest) switch (side_by (told ∷ []) switch side) ≡ side_after (turnouts_in (report ∷ rest)) switch side) (ap message_in is) (report_tells report rest side legal)

  event_known : (side : Bool) (event : Event) (observed : Observation) (old new : ServerState) → RunsEvent event observed old new → is_no_turnout_claim observed ≡ true → IsSo side old → IsSo (side_of_event observed side) new
  event_known side (Connects client) observed old new runs quiet h =
      so_still side observed new (untold side observed (outcome_in old (Connects client)) new.nodes new.railway runs.saw refl) (carried side old new runs.railway (runs.unreported.1 ∙ sym runs.unreported.0) h)
  event_known side (Disconnects client) observed old new runs quiet h =
      so_still side observed new (untold side observed (outcome_in old (Disconnects client)) new.nodes new.railway runs.saw refl) (carried side old new runs.railway (runs.unreported.1 ∙ sym runs.unreported.0) h)
  event_known side (Receives client byte) observed old new runs quiet h =
      let outcome : Outcome = outcome_of old.bus (Receives client byte) in
      let request : Option Request = request_at (client_of old.bus client) byte in
      so_still side observed new
      (untold side observed (outcome_in old (Receives client byte)) new.nodes new.railway runs.saw
      (request_tells old.programming old.names old.railway old.bus switch side client request new.nodes new.railway (subst (λ (o : Observation). is_no_turnout_claim o ≡ true) runs.saw quiet)))
      (requested old.names side old.bus client request h.railway new
      (runs.railway ∙ ap (λ (r : Option RailwayState). railway_requested old.names outcome r) h.beside)
      (runs.unreported.1 ∙ ap (λ (r : Option RailwayState). reports_due old.names outcome r []) h.beside)
      h.alone h.switches (λ lying. sym (ap (λ (d : List DeviceReport). side_after (turnouts_in d) switch side) runs.unreported.0) ∙ h.known lying))
  event_known side (Reports message) observed old new runs quiet h =
      let next = runs.unreported in
      let read : side_of_event observed side ≡ side_by (message ∷ []) switch side = ap (λ (o : Observation). side_of_event o side) runs.saw in
      let legal : are_of_switches (turnouts_in (next.0 ∷ new.unreported)) ≡ true = subst (λ (d : List DeviceReport). are_of_switches (turnouts_in d) ≡ true) next.1 h.addressed in
      record {
        railway = h.railway;
        beside = runs.railway ∙ h.beside;
        alone = h.alone;
        switches = h.switches;
        addressed = rest_of_switches next.0 new.unreported legal;
        known = λ lying. ap (λ (s : Bool). side_after (turnouts_in new.unreported) switch s) read
            ∙ reported next.0 message new.unreported side legal next.3
            ∙ sym (ap (λ (d : List DeviceReport). side_after (turnouts_in d) switch side) next.1) ∙ h.known lying;
      }
  event_known side (Programs packet change) observed old new runs quiet h =
      let next = runs.unreported in
      let same : turnouts_in old.unreported ≡ turnouts_in new.unreported = ap turnouts_in next.1 ∙ no_turnout next.0 packet change new.unreported next.3 in
      so_still side observed new (untold side observed (outcome_in old (Programs packet change)) new.nodes new.railway runs.saw refl)
      (record {
        railway = h.railway;
        beside = runs.railway ∙ h.beside;
        alone = h.alone;
        switches = h.switches;
        addressed = subst (λ (reports : List TurnoutReport). are_of_switches reports ≡ true) same h.addressed;
        known = λ lying. sym (ap (λ (reports : List TurnoutReport). side_after reports switch side) same) ∙ h.known lying;
      })
  event_known side (Elapses micros missed) observed old new runs quiet h =
      so_still side observed new
      (untold side observed (outcome_in old (Elapses micros missed)) new.nodes new.railway runs.saw (time_tells old.programming old.names old.railway (nat_le old.bus.remaining micros) (packet_of_turn old.bus.station) switch side))
      (elapses micros side old.programming (power_of old.bus) old.nodes old new runs.unreported.0 runs.railway runs.unreported.1 h)
  event_known side (Turn missed) observed old new runs quiet h =
      so_still side observed new (untold side observed (outcome_in old (Turn missed)) new.nodes new.railway runs.saw refl)
      (elapses (next_turn old.bus) side old.programming (power_of old.bus) new.nodes old new runs.unreported.0 runs.railway runs.unreported.1 h)

  pub becomes_known : (client byte : ℕ) (side : Bool) (railway : RailwayState) (observed : Observation) (old new : ServerState) → old.railway ≡ Some railway
      → IsAlone railway → AreSwitches railway → asks_sensors (outcome_of old.bus (Receives client byte)) ≡ true → RunsEvent (Receives client byte) observed old new → IsSo side new
  becomes_known client byte side railway observed old new beside alone switches asks runs =
      let outcome : Outcome = outcome_of old.bus (Receives client byte) in
      by_interrogation old.names side old.bus client (request_at (client_of old.bus client) byte) railway new
      (runs.railway ∙ ap (λ (r : Option RailwayState). railway_requested old.names outcome r) beside)
      (runs.unreported.1 ∙ ap (λ (r : Option RailwayState). reports_due old.names outcome r []) beside)
      alone switches asks

  pub stays_known : (most : ℕ) (side : Bool) (rounds : List Round) (old new : ServerState) → RunsRounds most rounds old new → ClaimNoTurnout (logged_in rounds) → IsSo side old → IsSo (side_by (received_in (logged_in rounds)) switch side) new
  stays_known most side rounds old new runs quiet h =
      rounds_known IsSo (λ messages s. side_by messages switch s) is_no_turnout_claim carried (λ level. refl) (by-append switch) event_known most rounds side old new runs quiet h
