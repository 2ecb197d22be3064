-- What a client knows of a sensor by the reports on the bus.
use Rattle.std.proofs.Common.{◌≡◌, ℕ, ◌<◌, Bool, true, false, if◌then◌else◌, List, [], ◌∷◌, ◌++◌, length, Option, None, Some, refl, ap, ap₂, sym, subst, ◌∙◌, append-nil, nat_le}
use Rattle.std.specs.Prelude.{◌==◌, Err, IsTrue, Ok, is_some, not}
use Rattle.std.specs.List.{find, slice_index_or}
use Rattle.std.specs.Option.{option_and_then, option_map, option_or, option_to_list}
use Rattle.std.proofs.lemmas.List.Concat.{flat_map-append}
use Rattle.layout_core.specs.declared.node.Node.{Node}
use Rattle.refresh_ring.specs.declared.pick.Power.{Power}
use Rattle.ln_ops.specs.declared.sensor.SensorReport.{SensorReport}
use Rattle.ln_ops.specs.Reply.{reply_bytes}
use Rattle.ln_ops.specs.Sensor.{begins_interrogation, is_sensor, report_bytes, report_of}
use Rattle.ln_ops.specs.declared.reply.Reply.{Reply}
use Rattle.ln_ops.specs.declared.reply.Reply.TheVariants.{LongAck, SlotData}
use Rattle.station_core.specs.Station.{answer_to_message, packet_of_turn}
use Rattle.bus.specs.Outcome.{messages_in}
use Rattle.bus.specs.declared.outcome.Outcome.{Outcome}
use Rattle.bus.specs.declared.outcome.Outcome.TheVariants.{Nothing, Sent, TurnBegan}
use Rattle.loconet_tcp.specs.declared.request.Request.{Request}
use Rattle.loconet_tcp.specs.declared.request.Request.TheVariants.{Invalid, States, Place, Device, Send, Turns}
use Rattle.railway.specs.declared.block.Block.{Block}
use Rattle.railway.specs.declared.joint.TurnoutState.{TurnoutState}
use Rattle.railway.specs.declared.turnout_report.TurnoutReport.{TurnoutReport}
use Rattle.railway.specs.Blocks.{default_block}
use Rattle.railway.specs.Course.{Happening, after, after_all, reports_of, reports_of_all}
use Rattle.railway.specs.Course.Happening.{Elapses as TimeElapses}
use Rattle.railway.specs.Feedback.{is_with_feedback, requested_switch, state_bytes, state_answer}
use Rattle.railway.specs.Railway.{RailwayState, is_railway, is_sensed}
use Rattle.railway.specs.Reports.{full, level_after}
use Rattle.service_mode.specs.declared.packet.ServicePacket.{ServicePacket}
use Rattle.programmer.specs.declared.reply.TaskReply.{TaskReply}
use Rattle.programmer.specs.declared.reply.TaskReply.TheVariants.{Accepted as TaskAccepted, Busy, NotImplemented, Data}
use Rattle.programmer.specs.declared.task_result.TaskResult.{TaskResult}
use Rattle.programmer.specs.Machine.{reply_of}
use Rattle.programmer.specs.Requests.{request_in}
use Rattle.arrayvec.specs.ArrayString.{ArrayString}
use Rattle.programming_track.specs.declared.packet_end.NamedChange.{NamedChange}
use Rattle.programming_track.specs.declared.packet_end.PacketEnd.{PacketEnd}
use Rattle.programming_track.specs.Bench.{BenchState}
use Rattle.bus.specs.declared.event.Event.{Event}
use Rattle.bus.specs.declared.event.Event.TheVariants.{Connects, Receives, Disconnects, Reports, Programs, Elapses, Turn}
use Rattle.bus.specs.Bus.{BusState, client_of, for_station, outcome_of, outcome_of_request, request_at}
use Rattle.bus_server.specs.Observations.{Observation, Observed}
use Rattle.bus_server.specs.ServerState.{RunsEvent, ServerState, outcome_in}
use Rattle.bus_server.specs.Known.{ClaimNothing, IsKnown, IsSensorOf, is_no_claim, level_by, messages_of, received_in, reports_read}
use Rattle.bus_server.specs.Running.{Round, RunsRounds, logged_in}
use Rattle.bus_server.specs.declared.device_report.DeviceReport.{DeviceReport}
use Rattle.bus_server.specs.declared.device_report.DeviceReport.TheVariants.{Sensor, Turnout, Packet, Ended}
use Rattle.bus_server.specs.DeviceReports.{of_ends, of_result, of_sensors, of_turnouts, event_of, is_legal_report, sensors_in}
use Rattle.bus_server.specs.Failures.{happened_to, happening_by}
use Rattle.bus_server.specs.Placement.{answered, places}
use Rattle.bus_server.specs.Programming.{decoder_on, device_reply, ends_elapsed, programmed, reply_by, reply_or}
use Rattle.bus_server.specs.Sensors.{due_of, asks_sensors, reports_of_time, full_report, full_reports, movements_elapsed, next_turn, power_of, railway_elapsed, railway_requested, reports_due, reports_elapsed, turnout_report}
use Rattle.bus_server.proofs.KnownRuns.{rounds_known}

-- what a railway promises of the reports of its sensors
pub record SensorLaws : Type 0 where
  pub read : (sensor : ℕ) (occupied : Bool) → IsTrue (is_sensor sensor) → report_of (report_bytes sensor occupied) ≡ Some (record { sensor = sensor; occupied = occupied })
  pub whole : (railway : RailwayState) (happening : Happening) → IsTrue (is_railway railway) → IsTrue (is_railway (after railway happening))
  pub blocks : (railway : RailwayState) (happening : Happening) → (after railway happening).network.blocks ≡ railway.network.blocks
  pub full : (railway : RailwayState) (block sensor : ℕ) (before : Bool) → IsTrue (is_railway railway) → block < length railway.network.blocks
      → (slice_index_or railway.network.blocks block default_block).sensor ≡ Some sensor
      → level_after (full railway.network.blocks (is_sensed railway)) sensor before ≡ is_sensed railway block
  pub after : (railway : RailwayState) (happenings : List Happening) (block sensor : ℕ) → IsTrue (is_railway railway) → block < length railway.network.blocks
      → (slice_index_or railway.network.blocks block default_block).sensor ≡ Some sensor
      → level_after (reports_of_all railway happenings) sensor (is_sensed railway block) ≡ is_sensed (after_all railway happenings) block

-- The reports of more messages.

level-append : (first second : List SensorReport) (sensor : ℕ) (level : Bool) → level_after (first ++ second) sensor level ≡ level_after second sensor (level_after first sensor level)
level-append [] second sensor level = refl
level-append (report ∷ first) second sensor level = level-append first second sensor (if report.sensor == sensor then report.occupied else level)

by-append : (sensor : ℕ) (first second : List (List ℕ)) (level : Bool) → level_by (first ++ second) sensor level ≡ level_by second sensor (level_by first sensor level)
by-append sensor first second level =
    ap (λ (reports : List SensorReport). level_after reports sensor level) (flat_map-append (λ (message : List ℕ). option_to_list (report_of message)) first second)
    ∙ level-append (reports_read first) (reports_read second) sensor level

-- The reports of sensors among what is due.

sensors-append : (first second : List DeviceReport) → sensors_in (first ++ second) ≡ sensors_in first ++ sensors_in second
sensors-append [] second = refl
sensors-append (Sensor report ∷ first) second = ap (λ (all : List SensorReport). report ∷ all) (sensors-append first second)
sensors-append (Turnout report ∷ first) second = sensors-append first second
sensors-append (Packet packet change ∷ first) second = sensors-append first second
sensors-append (Ended ended ∷ first) second = sensors-append first second

sensors-of : (reports : List SensorReport) → sensors_in (of_sensors reports) ≡ reports
sensors-of [] = refl
sensors-of (report ∷ reports) = ap (λ (all : List SensorReport). report ∷ all) (sensors-of reports)

none-of_turnouts : (reports : List TurnoutReport) → sensors_in (of_turnouts reports) ≡ []
none-of_turnouts [] = refl
none-of_turnouts (report ∷ reports) = none-of_turnouts reports

none-of_result : (ended : Option TaskResult) → sensors_in (of_result ended) ≡ []
none-of_result None = refl
none-of_result (Some ended) = refl

none-of_ends : (decoder : Option ArrayString) (ends : List PacketEnd) → sensors_in (of_ends decoder ends) ≡ []
none-of_ends decoder [] = refl
none-of_ends decoder (one ∷ ends) =
    sensors-append (of_result one.result) (of_ends decoder ends)
    ∙ ap₂ (λ (these those : List SensorReport). these ++ those) (none-of_result one.result) (none-of_ends decoder ends)

sensors-elapsed : (railway : Option RailwayState) (programming : Option BenchState) (micros : ℕ) (power : Power) (nodes : List Node)
    → sensors_in (reports_of_time railway programming micros power nodes) ≡ reports_elapsed railway micros power nodes
sensors-elapsed railway programming micros power nodes =
    let reports : List SensorReport = reports_elapsed railway micros power nodes in
    let movements : List TurnoutReport = movements_elapsed railway micros power nodes in
    let ends : List DeviceReport = of_ends (decoder_on programming) (ends_elapsed programming micros) in
    let others : sensors_in (of_turnouts movements ++ ends) ≡ [] = sensors-append (of_turnouts movements) ends
    ∙ ap₂ (λ (these those : List SensorReport). these ++ those) (none-of_turnouts movements) (none-of_ends (decoder_on programming) (ends_elapsed programming micros)) in
    sensors-append (of_sensors reports) (of_turnouts movements ++ ends)
    ∙ ap₂ (λ (these those : List SensorReport). these ++ those) (sensors-of reports) others
    ∙ append-nil reports

sensors-full : (railway : Option RailwayState) → sensors_in (full_reports railway) ≡ full_report railway
sensors-full railway =
    sensors-append (of_sensors (full_report railway)) (of_turnouts (turnout_report railway))
    ∙ ap₂ (λ (these those : List SensorReport). these ++ those) (sensors-of (full_report railway)) (none-of_turnouts (turnout_report railway))
    ∙ append-nil (full_report railway)

-- One event.

same_known : (block sensor : ℕ) (level : Bool) (old new : ServerState) → new.railway ≡ old.railway → new.unreported ≡ old.unreported → IsKnown block sensor level old → IsKnown block sensor level new
same_known block sensor level old new railway unreported h = (h.0, railway ∙ h.1, h.2, h.3, ap (λ (d : List DeviceReport). level_after (sensors_in d) sensor level) unreported ∙ h.4)

-- what a client knows after the reports of a happening
happens_known : SensorLaws → (block sensor : ℕ) (level : Bool) (happening : Happening) (railway : RailwayState) (new : ServerState) → new.railway ≡ Some (after railway happening)
    → sensors_in new.unreported ≡ reports_of railway happening → IsTrue (is_railway railway) → IsSensorOf block sensor railway → level ≡ is_sensed railway block → IsKnown block sensor level new
happens_known laws block sensor level happening railway new beside unreported whole is known = (
  after railway happening,
  beside,
  laws.whole railway happening whole,
  subst (λ (blocks : List Block). (block < length blocks) × ((slice_index_or blocks block default_block).sensor ≡ Some sensor)) (sym (laws.blocks railway happening)) is,
  ap (λ (d : List SensorReport). level_after d sensor level) unreported
      ∙ ap (λ (l : Bool). level_after (reports_of railway happening) sensor l) known
      ∙ ap (λ (all : List SensorReport). level_after all sensor (is_sensed railway block)) (sym (append-nil (reports_of railway happening)))
      ∙ laws.after railway (happening ∷ []) block sensor whole is.0 is.1,
)

elapsed_known : SensorLaws → (block sensor micros : ℕ) (level : Bool) (programming : Option BenchState) (power : Power) (nodes : List Node) (old new : ServerState) → old.unreported ≡ [] → new.railway ≡ railway_elapsed old.railway micros power nodes
    → new.unreported ≡ reports_of_time old.railway programming micros power nodes → IsKnown block sensor level old → IsKnown block sensor level new
elapsed_known laws block sensor micros level programming power nodes old new none trains unreported h =
    happens_known laws block sensor level (TimeElapses micros power nodes) h.0 new
    (trains ∙ ap (λ (r : Option RailwayState). railway_elapsed r micros power nodes) h.1)
    (ap sensors_in unreported ∙ sensors-elapsed old.railway programming micros power nodes ∙ ap (λ (r : Option RailwayState). reports_elapsed r micros power nodes) h.1)
    h.2 h.3 (sym (ap (λ (d : List DeviceReport). level_after (sensors_in d) sensor level) none) ∙ h.4)

asked_level : SensorLaws → (asks level : Bool) (block sensor : ℕ) (railway : RailwayState) → IsTrue (is_railway railway) → IsSensorOf block sensor railway → level ≡ is_sensed railway block
    → level_after (sensors_in (if asks then full_reports (Some railway) else [])) sensor level ≡ is_sensed railway block
asked_level laws true level block sensor railway whole is known = ap (λ (d : List SensorReport). level_after d sensor level) (sensors-full (Some railway)) ∙ laws.full railway block sensor level whole is.0 is.1
asked_level laws false level block sensor railway whole is known = known

-- after a client has arranged the devices
device_known : SensorLaws → (block sensor : ℕ) (level : Bool) (happening : Option Happening) (railway : RailwayState) (new : ServerState)
    → new.railway ≡ happened_to happening (Some railway) → new.unreported ≡ due_of happening (Some railway) []
    → IsTrue (is_railway railway) → IsSensorOf block sensor railway → level ≡ is_sensed railway block → IsKnown block sensor level new
device_known laws block sensor level None railway new beside made whole is known = (railway, beside, whole, is, ap (λ (d : List DeviceReport). level_after (sensors_in d) sensor level) made ∙ known)
device_known laws block sensor level (Some happening) railway new beside made whole is known =
    happens_known laws block sensor level happening railway new beside (ap sensors_in made ∙ sensors-of (reports_of railway happening)) whole is known

-- after a request of a client
request_known : SensorLaws → (names : List (List ℕ)) (block sensor : ℕ) (level : Bool) (bus : BusState) (client : ℕ) (request : Option Request) (railway : RailwayState) (new : ServerState)
    → new.railway ≡ railway_requested names (outcome_of_request bus client request) (Some railway) → new.unreported ≡ reports_due names (outcome_of_request bus client request) (Some railway) []
    → IsTrue (is_railway railway) → IsSensorOf block sensor railway → level ≡ is_sensed railway block → IsKnown block sensor level new
request_known laws names block sensor level bus client None railway new beside made whole is known = (railway, beside, whole, is, ap (λ (d : List DeviceReport). level_after (sensors_in d) sensor level) made ∙ known)
request_known laws names block sensor level bus client (Some (Invalid reason)) railway new beside made whole is known = (railway, beside, whole, is, ap (λ (d : List DeviceReport). level_after (sensors_in d) sensor level) made ∙ known)
request_known laws names block sensor level bus client (Some (Turns count)) railway new beside made whole is known = (railway, beside, whole, is, ap (λ (d : List DeviceReport). level_after (sensors_in d) sensor level) made ∙ known)
request_known laws names block sensor level bus client (Some (States things)) railway new beside made whole is known = (railway, beside, whole, is, ap (λ (d : List DeviceReport). level_after (sensors_in d) sensor level) made ∙ known)
request_known laws names block sensor level bus client (Some (Device request)) railway new beside made whole is known = device_known laws block sensor level (happening_by request) railway new beside made whole is known
request_known laws names block sensor level bus client (Some (Place (Err error))) railway new beside made whole is known = (railway, beside, whole, is, ap (λ (d : List DeviceReport). level_after (sensors_in d) sensor level) made ∙ known)
request_known laws names block sensor level bus client (Some (Send message)) railway new beside made whole is known =
    (railway, beside, whole, is, ap (λ (d : List DeviceReport). level_after (sensors_in d) sensor level) made ∙ asked_level laws (begins_interrogation message) level block sensor railway whole is known)
request_known laws names block sensor level bus client (Some (Place (Ok placement))) railway new beside made whole is known =
    happens_known laws block sensor level (places names railway placement) railway new beside (ap sensors_in made ∙ sensors-of (reports_of railway (places names railway placement))) whole is known

-- after one that asks all sensors to report, whatever the client knew
asked_known : SensorLaws → (names : List (List ℕ)) (block sensor : ℕ) (level : Bool) (bus : BusState) (client : ℕ) (request : Option Request) (railway : RailwayState) (new : ServerState)
    → new.railway ≡ railway_requested names (outcome_of_request bus client request) (Some railway) → new.unreported ≡ reports_due names (outcome_of_request bus client request) (Some railway) []
    → IsTrue (is_railway railway) → IsSensorOf block sensor railway → asks_sensors (outcome_of_request bus client request) ≡ true → IsKnown block sensor level new
asked_known laws names block sensor level bus client None railway new beside made whole is asks = cc
asked_known laws names block sensor level bus client (Some (Invalid reason)) railway new beside made whole is asks = cc
asked_known laws names block sensor level bus client (Some (Turns count)) railway new beside made whole is asks = cc
asked_known laws names block sensor level bus client (Some (States things)) railway new beside made whole is asks = cc
asked_known laws names block sensor level bus client (Some (Place placement)) railway new beside made whole is asks = cc
asked_known laws names block sensor level bus client (Some (Device request)) railway new beside made whole is asks = cc
asked_known laws names block sensor level bus client (Some (Send message)) railway new beside made whole is asks = (
  railway,
  beside,
  whole,
  is,
  ap (λ (d : List DeviceReport). level_after (sensors_in d) sensor level) (made ∙ ap (λ (a : Bool). if a then full_reports (Some railway) else []) asks)
      ∙ ap (λ (d : List SensorReport). level_after d sensor level) (sensors-full (Some railway)) ∙ laws.full railway block sensor level whole is.0 is.1,
)

-- The messages of an event are no reports, but for that of a sensor.

no_reply : (reply : Option Reply) → reports_read (option_to_list (option_map reply_bytes reply)) ≡ []
no_reply None = refl
no_reply (Some (SlotData f)) = refl
no_reply (Some (LongAck opc ack)) = refl

no_own_reply : (own : Option TaskReply) (reply : Option Reply) → reports_read (option_to_list (reply_or own (option_map reply_bytes reply))) ≡ []
no_own_reply None reply = no_reply reply
no_own_reply (Some TaskAccepted) reply = refl
no_own_reply (Some Busy) reply = refl
no_own_reply (Some NotImplemented) reply = refl
no_own_reply (Some (Data ended)) reply = refl

no_reply_by : (programming : Option BenchState) (message : List ℕ) (reply : Option Reply) → reports_read (option_to_list (reply_by programming message (option_map reply_bytes reply))) ≡ []
no_reply_by None message reply = no_reply reply
no_reply_by (Some bench) message reply = no_own_reply (reply_of bench.track.programmer (request_in message)) reply

no_device_reply : (state : Option RailwayState) (programming : Option BenchState) (message : List ℕ) (reply : Option Reply)
    → reports_read (option_to_list (device_reply programming state message (option_map reply_bytes reply))) ≡ []
no_device_reply None programming message reply = no_reply_by programming message reply
no_device_reply (Some railway) programming message reply = by_switch (requested_switch message) where
  by_state : (state : Option TurnoutState) → reports_read (option_to_list (option_or (option_map state_bytes state) (reply_by programming message (option_map reply_bytes reply)))) ≡ []
  by_state None = no_reply_by programming message reply
  by_state (Some state) = refl

  by_switch : (switch : Option ℕ) → reports_read (option_to_list (option_or (option_and_then (state_answer railway.network.turnouts) switch) (reply_by programming message (option_map reply_bytes reply)))) ≡ []
  by_switch None = no_reply_by programming message reply
  by_switch (Some switch) = by_state (find (is_with_feedback switch) railway.network.turnouts)

none_read : (report : Option SensorReport) → not (is_some report) ≡ true → option_to_list report ≡ []
none_read None h = refl
none_read (Some report) h = cc

-- what a client knows does not change by this outcome
abbrev TellsNothing : (sensor : ℕ) → (level : Bool) → Outcome → Type 0
TellsNothing sensor level outcome = level_by (messages_in outcome) sensor level ≡ level

sent_tells : (programming : Option BenchState) (beside : Option RailwayState) (sensor : ℕ) (level : Bool) (client : ℕ) (message : List ℕ) (reply : Option Reply) → not (is_some (report_of message)) ≡ true
    → TellsNothing sensor level (Sent client message (device_reply programming beside message (option_map reply_bytes reply)))
sent_tells programming beside sensor level client message reply h =
    ap₂ (λ (a b : List SensorReport). level_after (a ++ b) sensor level) (none_read (report_of message) h) (no_device_reply beside programming message reply)

request_tells : (programming : Option BenchState) (names : List (List ℕ)) (beside : Option RailwayState) (bus : BusState) (sensor : ℕ) (level : Bool) (client : ℕ) (request : Option Request) (nodes : List Node) (railway : Option RailwayState)
    → is_no_claim (Observed (programmed programming beside (answered names beside (outcome_of_request bus client request))) nodes railway) ≡ true
    → TellsNothing sensor level (programmed programming beside (answered names beside (outcome_of_request bus client request)))
request_tells programming names beside bus sensor level client None nodes railway h = refl
request_tells programming names beside bus sensor level client (Some (Invalid reason)) nodes railway h = refl
request_tells programming names beside bus sensor level client (Some (Turns count)) nodes railway h = refl
request_tells programming names beside bus sensor level client (Some (States things)) nodes railway h = refl
request_tells programming names beside bus sensor level client (Some (Place placement)) nodes railway h = refl
request_tells programming names beside bus sensor level client (Some (Device request)) nodes railway h = refl
request_tells programming names beside bus sensor level client (Some (Send message)) nodes railway h = sent_tells programming beside sensor level client message (answer_to_message bus.station (for_station bus (Some (Send message)))) h

-- time tells nothing
time_tells : (programming : Option BenchState) (names : List (List ℕ)) (beside : Option RailwayState) (ends : Bool) (packet : Option (List ℕ)) (sensor : ℕ) (level : Bool) → TellsNothing sensor level (programmed programming beside (answered names beside (if ends then TurnBegan packet else Nothing)))
time_tells programming names beside true packet sensor level = refl
time_tells programming names beside false packet sensor level = refl

-- what a client knows after the messages of an event
abbrev level_of_event : (sensor : ℕ) → Observation → Bool → Bool
level_of_event sensor observed level = level_by (messages_of observed ++ []) sensor level

-- an event whose outcome tells nothing
untold : (sensor : ℕ) (level : Bool) (observed : Observation) (outcome : Outcome) (nodes : List Node) (railway : Option RailwayState) → observed ≡ Observed outcome nodes railway → TellsNothing sensor level outcome
    → level_of_event sensor observed level ≡ level
untold sensor level observed outcome nodes railway saw tells =
    ap (λ (o : Observation). level_of_event sensor o level) saw ∙ ap (λ (messages : List (List ℕ)). level_by messages sensor level) (append-nil (messages_in outcome)) ∙ tells

known_still : (block sensor : ℕ) (level : Bool) (observed : Observation) (new : ServerState) → level_of_event sensor observed level ≡ level → IsKnown block sensor level new → IsKnown block sensor (level_of_event sensor observed level) new
known_still block sensor level observed new same h = subst (λ (l : Bool). IsKnown block sensor l new) (sym same) h

-- What is due tells what its sensor reports, and else nothing.

message_in : Event → List ℕ
message_in (Reports message) = message
message_in other = []

report_tells : SensorLaws → (report : DeviceReport) (rest : List DeviceReport) (sensor : ℕ) (level : Bool) → is_legal_report report ≡ true
    → level_after (sensors_in rest) sensor (level_by (message_in (event_of report) ∷ []) sensor level) ≡ level_after (sensors_in (report ∷ rest)) sensor level
unfolding message_in
report_tells laws (Sensor report) rest sensor level legal =
    ap (λ (read : Option SensorReport). level_after (sensors_in rest) sensor (level_after (option_to_list read ++ []) sensor level)) (laws.read report.sensor report.occupied legal)
report_tells laws (Turnout report) rest sensor level legal = refl
report_tells laws (Packet packet change) rest sensor level legal = refl
report_tells laws (Ended ended) rest sensor level legal = refl

-- a message that is reported tells it
reported : SensorLaws → (report : DeviceReport) (message : List ℕ) (rest : List DeviceReport) (sensor : ℕ) (level : Bool) → is_legal_report report ≡ true → event_of report ≡ Reports message
    → level_after (sensors_in rest) sensor (level_by (message ∷ []) sensor level) ≡ level_after (sensors_in (report ∷ rest)) sensor level
unfolding message_in
reported laws report message rest sensor level legal is =
    subst (λ (told : List ℕ). level_after (sensors_in rest) sensor (level_by (told ∷ []) sensor level) ≡ level_after (sensors_in (report ∷ rest)) sensor level) (ap message_in is) (report_tells laws report rest sensor level legal)

-- a packet is no report of a sensor
no_sensor : (report : DeviceReport) (packet : ServicePacket) (change : Option NamedChange) (rest : List DeviceReport) → event_of report ≡ Programs packet change → sensors_in (report ∷ rest) ≡ sensors_in rest
no_sensor (Sensor report) packet change rest is = cc
no_sensor (Turnout report) packet change rest is = cc
no_sensor (Packet sent changed) packet change rest is = refl
no_sensor (Ended ended) packet change rest is = cc

event_known : SensorLaws → (block sensor : ℕ) (level : Bool) (event : Event) (observed : Observation) (old new : ServerState) → RunsEvent event observed old new → is_no_claim observed ≡ true → IsKnown block sensor level old
    → IsKnown block sensor (level_of_event sensor observed level) new
event_known laws block sensor level (Connects client) observed old new runs quiet h =
    known_still block sensor level observed new (untold sensor level observed (outcome_in old (Connects client)) new.nodes new.railway runs.saw refl)
    (same_known block sensor level old new runs.railway (runs.unreported.1 ∙ sym runs.unreported.0) h)
event_known laws block sensor level (Disconnects client) observed old new runs quiet h =
    known_still block sensor level observed new (untold sensor level observed (outcome_in old (Disconnects client)) new.nodes new.railway runs.saw refl)
    (same_known block sensor level old new runs.railway (runs.unreported.1 ∙ sym runs.unreported.0) h)
event_known laws block sensor level (Receives client byte) observed old new runs quiet h =
    let outcome : Outcome = outcome_of old.bus (Receives client byte) in
    let request : Option Request = request_at (client_of old.bus client) byte in
    known_still block sensor level observed new
    (untold sensor level observed (outcome_in old (Receives client byte)) new.nodes new.railway runs.saw
    (request_tells old.programming old.names old.railway old.bus sensor level client request new.nodes new.railway (subst (λ (o : Observation). is_no_claim o ≡ true) runs.saw quiet)))
    (request_known laws old.names block sensor level old.bus client request h.0 new
    (runs.railway ∙ ap (λ (r : Option RailwayState). railway_requested old.names outcome r) h.1)
    (runs.unreported.1 ∙ ap (λ (r : Option RailwayState). reports_due old.names outcome r []) h.1)
    h.2 h.3 (sym (ap (λ (d : List DeviceReport). level_after (sensors_in d) sensor level) runs.unreported.0) ∙ h.4))
event_known laws block sensor level (Reports message) observed old new runs quiet h =
    let next = runs.unreported in
    let read : level_of_event sensor observed level ≡ level_by (message ∷ []) sensor level = ap (λ (o : Observation). level_of_event sensor o level) runs.saw in (
      h.0,
      runs.railway ∙ h.1,
      h.2,
      h.3,
      ap (λ (l : Bool). level_after (sensors_in new.unreported) sensor l) read
          ∙ reported laws next.0 message new.unreported sensor level next.2 next.3
          ∙ sym (ap (λ (d : List DeviceReport). level_after (sensors_in d) sensor level) next.1) ∙ h.4,
    )
event_known laws block sensor level (Programs packet change) observed old new runs quiet h =
    let next = runs.unreported in
    known_still block sensor level observed new (untold sensor level observed (outcome_in old (Programs packet change)) new.nodes new.railway runs.saw refl)
    (h.0, runs.railway ∙ h.1, h.2, h.3, sym (ap (λ (d : List SensorReport). level_after d sensor level) (ap sensors_in next.1 ∙ no_sensor next.0 packet change new.unreported next.3)) ∙ h.4)
event_known laws block sensor level (Elapses micros missed) observed old new runs quiet h =
    known_still block sensor level observed new
    (untold sensor level observed (outcome_in old (Elapses micros missed)) new.nodes new.railway runs.saw (time_tells old.programming old.names old.railway (nat_le old.bus.remaining micros) (packet_of_turn old.bus.station) sensor level))
    (elapsed_known laws block sensor micros level old.programming (power_of old.bus) old.nodes old new runs.unreported.0 runs.railway runs.unreported.1 h)
event_known laws block sensor level (Turn missed) observed old new runs quiet h =
    known_still block sensor level observed new (untold sensor level observed (outcome_in old (Turn missed)) new.nodes new.railway runs.saw refl)
    (elapsed_known laws block sensor (next_turn old.bus) level old.programming (power_of old.bus) new.nodes old new runs.unreported.0 runs.railway runs.unreported.1 h)

pub becomes_known : SensorLaws → (block sensor client byte : ℕ) (level : Bool) (railway : RailwayState) (observed : Observation) (old new : ServerState) → old.railway ≡ Some railway
    → IsTrue (is_railway railway) → IsSensorOf block sensor railway → asks_sensors (outcome_of old.bus (Receives client byte)) ≡ true → RunsEvent (Receives client byte) observed old new
    → IsKnown block sensor level new
becomes_known laws block sensor client byte level railway observed old new beside whole is asks runs =
    let outcome : Outcome = outcome_of old.bus (Receives client byte) in
    asked_known laws old.names block sensor level old.bus client (request_at (client_of old.bus client) byte) railway new
    (runs.railway ∙ ap (λ (r : Option RailwayState). railway_requested old.names outcome r) beside)
    (runs.unreported.1 ∙ ap (λ (r : Option RailwayState). reports_due old.names outcome r []) beside)
    whole is asks

-- A run.

pub stays_known : SensorLaws → (block sensor most : ℕ) (level : Bool) (rounds : List Round) (old new : ServerState) → RunsRounds most rounds old new → ClaimNothing (logged_in rounds) → IsKnown block sensor level old
    → IsKnown block sensor (level_by (received_in (logged_in rounds)) sensor level) new
stays_known laws block sensor most level rounds old new runs quiet h =
    rounds_known (IsKnown block sensor) (λ messages l. level_by messages sensor l) is_no_claim (same_known block sensor) (λ l. refl) (by-append sensor) (event_known laws block sensor) most rounds level old new runs quiet h
