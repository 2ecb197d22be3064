-- How long the text of a request is, and of what is due at once.
use Rattle.std.proofs.Common.{◌≡◌, ◌∙◌, ℕ, suc, ◌+◌, ◌*◌, ◌≤◌, Bool, true, false, if◌then◌else◌, List, [], ◌∷◌, ◌++◌, length, Option, Some, None, refl, ap, subst, sym, arith}
use Rattle.std.specs.Prelude.{◌==◌, Err, IfSome, IsTrue, Ok, Result}
use Rattle.std.specs.List.{find}
use Rattle.std.specs.Option.{option_and_then, option_map, option_or}
use Rattle.std.proofs.lemmas.Bool.{leb-true}
use Rattle.std.proofs.lemmas.List.{length-append}
use Rattle.ln_ops.specs.Reply.{reply_bytes}
use Rattle.ln_ops.specs.Sensor.{begins_interrogation, report_bytes}
use Rattle.ln_ops.specs.declared.reply.Reply.{Reply}
use Rattle.ln_ops.specs.declared.reply.Reply.TheVariants.{LongAck, SlotData}
use Rattle.ln_ops.specs.declared.sensor.SensorReport.{SensorReport}
use Rattle.layout_core.specs.declared.node.Node.{Node}
use Rattle.refresh_ring.specs.declared.pick.Power.{Power}
use Rattle.railway.specs.declared.block.Block.{Block}
use Rattle.railway.specs.Course.{Happening, after, reports_of}
use Rattle.railway.specs.Course.Happening.{Elapses as TimeElapses, FailuresEnd, Places, SensorFails, TurnoutFails}
use Rattle.railway.specs.declared.joint.TurnoutState.{TurnoutState}
use Rattle.railway.specs.declared.turnout_report.TurnoutReport.{TurnoutReport}
use Rattle.railway.specs.Feedback as turnout
use Rattle.railway.specs.Feedback.{full_turnouts, is_with_feedback, movement_of, movements, turnout_report_bytes, requested_switch, side_report, state_bytes, state_answer}
use Rattle.railway.specs.Network.{turnouts_of}
use Rattle.railway.specs.Railway.{RailwayState, elapsed, is_railway, is_sensed, is_sensed_in}
use Rattle.railway.specs.Reports.{change_of, changes, changes_from, changes_through, full_from, level_of, onto}
use Rattle.text.specs.Hex.{hex_words}
use Rattle.loconet_tcp.specs.ClientLines.{device_text, line_end, place_text, receive_text, sent_error_text, sent_ok_text, turns_text}
use Rattle.loconet_tcp.specs.Reading.{request_of_byte}
use Rattle.bus.specs.Outcome.{reply_text, text_for}
use Rattle.bus.specs.declared.outcome.Outcome.{Outcome}
use Rattle.bus.specs.declared.outcome.Outcome.TheVariants.{PlaceRequested}
use Rattle.loconet_tcp.specs.declared.request.Reason.{Reason}
use Rattle.loconet_tcp.specs.declared.request.Reason.TheVariants.{NoMessage, NotHex, TooLong, WrongCheck}
use Rattle.loconet_tcp.specs.declared.request.DeviceAnswer.{DeviceAnswer}
use Rattle.loconet_tcp.specs.declared.request.DeviceAnswer.TheVariants as device
use Rattle.loconet_tcp.specs.declared.request.FailError.TheVariants as fail_error
use Rattle.loconet_tcp.specs.declared.request.MountError.TheVariants as mount_error
use Rattle.loconet_tcp.specs.declared.request.PlaceError.{PlaceError}
use Rattle.loconet_tcp.specs.declared.request.PlaceError.TheVariants as place_error
use Rattle.loconet_tcp.specs.declared.request.Placement.{Placement}
use Rattle.loconet_tcp.specs.declared.request.TurnsError.{TurnsError}
use Rattle.loconet_tcp.specs.declared.request.TurnsError.TheVariants.{NoNumber, RealTime}
use Rattle.loconet_tcp.specs.declared.request.Request.{Request}
use Rattle.loconet_tcp.specs.declared.request.Request.TheVariants.{Invalid, States, Place, Device, Send, Turns}
use Rattle.bus.specs.declared.event.Event.{Event}
use Rattle.bus.specs.declared.event.Event.TheVariants.{Connects, Disconnects, Elapses, Receives, Reports, Programs, Turn}
use Rattle.bus.specs.Bus.{BusState, client_of, granted, is_event, outcome_of_request, reply_to, request_at}
use Rattle.bus_server.specs.Observations.{Observation}
use Rattle.bus_server.specs.ServerState.{RunsEvent, ServerState}
use Rattle.programmer.specs.declared.reply.TaskReply.{TaskReply}
use Rattle.programmer.specs.declared.reply.TaskReply.TheVariants.{Accepted as TaskAccepted, Busy, NotImplemented, Data}
use Rattle.programmer.specs.declared.task_result.TaskResult.{TaskResult}
use Rattle.programmer.specs.Machine.{reply_of}
use Rattle.programmer.specs.Replies.{reply_bytes as task_reply_bytes}
use Rattle.programmer.specs.Requests.{request_in, result_bytes}
use Rattle.arrayvec.specs.ArrayString.{ArrayString}
use Rattle.programming_track.specs.declared.packet_end.PacketEnd.{PacketEnd}
use Rattle.programming_track.specs.declared.programming_track.ProgrammingTrack.{ProgrammingTrack}
use Rattle.programming_track.specs.Bench.{BenchState}
use Rattle.programming_track.specs.Time.{ends_within}
use Rattle.bus.specs.Below.{TurnsAreBounded}
use Rattle.bus_server.specs.declared.device_report.DeviceReport.{DeviceReport}
use Rattle.bus_server.specs.declared.device_report.DeviceReport.TheVariants.{Sensor, Turnout, Packet, Ended}
use Rattle.bus_server.specs.DeviceReports.{of_ends, of_result, of_sensors, of_turnouts, event_of}
use Rattle.bus_server.specs.Failures.{happened_to, happening_by}
use Rattle.bus_server.specs.Placement.{answered, place_answer, places}
use Rattle.bus_server.specs.Programming.{decoder_on, device_answer, device_reply, ends_elapsed, programmed, reply_by, reply_or}
use Rattle.bus_server.specs.Sensors.{due_of, reports_of_time, full_report, full_reports, is_report, movements_elapsed, next_turn, railway_after, railway_elapsed, railway_requested, reports_after, reports_due, reports_elapsed, running_in, turnout_report, power_of}

-- The text of a request is at most 789 bytes.

length-words : (bytes : List ℕ) → length (hex_words bytes) ≡ 3 * length bytes
length-words [] = refl
length-words (b ∷ bytes) = let more = length-words bytes in omega arith

reply_most : (reply : Option Reply) → length (reply_text (option_map reply_bytes reply)) ≤ 390
reply_most None = omega arith
reply_most (Some (SlotData f)) =
    let size : length (reply_bytes (SlotData f)) ≡ 14 = refl in
    omega (arith, size, length-words (reply_bytes (SlotData f)), length-append (hex_words (reply_bytes (SlotData f))) line_end)
reply_most (Some (LongAck opc ack)) =
    let size : length (reply_bytes (LongAck opc ack)) ≡ 4 = refl in
    omega (arith, size, length-words (reply_bytes (LongAck opc ack)), length-append (hex_words (reply_bytes (LongAck opc ack))) line_end)

own_most : (own : Option TaskReply) (reply : Option Reply) → length (reply_text (reply_or own (option_map reply_bytes reply))) ≤ 390
own_most None reply = reply_most reply
own_most (Some TaskAccepted) reply =
    let size : length (task_reply_bytes TaskAccepted) ≡ 4 = refl in
    omega (arith, size, length-words (task_reply_bytes TaskAccepted), length-append (hex_words (task_reply_bytes TaskAccepted)) line_end)
own_most (Some Busy) reply =
    let size : length (task_reply_bytes Busy) ≡ 4 = refl in
    omega (arith, size, length-words (task_reply_bytes Busy), length-append (hex_words (task_reply_bytes Busy)) line_end)
own_most (Some NotImplemented) reply =
    let size : length (task_reply_bytes NotImplemented) ≡ 4 = refl in
    omega (arith, size, length-words (task_reply_bytes NotImplemented), length-append (hex_words (task_reply_bytes NotImplemented)) line_end)
own_most (Some (Data ended)) reply =
    let size : length (result_bytes ended) ≡ 14 = refl in
    omega (arith, size, length-words (result_bytes ended), length-append (hex_words (result_bytes ended)) line_end)

reply_by_most : (programming : Option BenchState) (message : List ℕ) (reply : Option Reply) → length (reply_text (reply_by programming message (option_map reply_bytes reply))) ≤ 390
reply_by_most None message reply = reply_most reply
reply_by_most (Some bench) message reply = own_most (reply_of bench.track.programmer (request_in message)) reply

device_reply_most : (railway : Option RailwayState) (programming : Option BenchState) (message : List ℕ) (reply : Option Reply)
    → length (reply_text (device_reply programming railway message (option_map reply_bytes reply))) ≤ 390
device_reply_most None programming message reply = reply_by_most programming message reply
device_reply_most (Some railway) programming message reply = by_switch (requested_switch message) where
  by_state : (state : Option TurnoutState) → length (reply_text (option_or (option_map state_bytes state) (reply_by programming message (option_map reply_bytes reply)))) ≤ 390
  by_state None = reply_by_most programming message reply
  by_state (Some state) =
      let size : length (state_bytes state) ≡ 4 = refl in
      omega (arith, size, length-words (state_bytes state), length-append (hex_words (state_bytes state)) line_end)

  by_switch : (switch : Option ℕ) → length (reply_text (option_or (option_and_then (state_answer railway.network.turnouts) switch) (reply_by programming message (option_map reply_bytes reply)))) ≤ 390
  by_switch None = reply_by_most programming message reply
  by_switch (Some switch) = by_state (find (is_with_feedback switch) railway.network.turnouts)

ok_most : (sender : Bool) → length (if sender then sent_ok_text else []) ≤ 9
ok_most true = omega arith
ok_most false = omega arith

error_most : (sender : Bool) (reason : Reason) → length (if sender then sent_error_text reason else []) ≤ 789
error_most false reason = omega arith
error_most true TooLong = omega arith
error_most true NotHex = omega arith
error_most true NoMessage = omega arith
error_most true WrongCheck = omega arith

turns_most : (asker : Bool) (turns : Result ℕ TurnsError) → length (if asker then turns_text turns else []) ≤ 789
turns_most false turns = omega arith
turns_most true (Ok count) = omega arith
turns_most true (Err RealTime) = omega arith
turns_most true (Err NoNumber) = omega arith

place_most : (asker : Bool) (answer : Result (Unit {0}) PlaceError) → length (if asker then place_text answer else []) ≤ 789
place_most false answer = omega arith
place_most true (Ok done) = omega arith
place_most true (Err place_error.NoPlan) = omega arith
place_most true (Err place_error.TooLong) = omega arith
place_most true (Err place_error.NoNumber) = omega arith
place_most true (Err place_error.NoEnd) = omega arith
place_most true (Err place_error.UnknownTrain) = omega arith
place_most true (Err place_error.UnknownBlock) = omega arith
place_most true (Err place_error.OffTrack) = omega arith

device_most : (asker : Bool) (answer : DeviceAnswer) → length (if asker then device_text answer else []) ≤ 789
device_most false answer = omega arith
device_most true (device.Mount (Ok done)) = omega arith
device_most true (device.Mount (Err mount_error.NoTrack)) = omega arith
device_most true (device.Mount (Err mount_error.NoName)) = omega arith
device_most true (device.Mount (Err mount_error.UnknownDecoder)) = omega arith
device_most true (device.Fail (Ok done)) = omega arith
device_most true (device.Fail (Err fail_error.NoTrack)) = omega arith
device_most true (device.Fail (Err fail_error.UnknownFailure)) = omega arith
device_most true (device.Fail (Err fail_error.NoPlan)) = omega arith
device_most true (device.Fail (Err fail_error.UnknownSensor)) = omega arith
device_most true (device.Fail (Err fail_error.UnknownTurnout)) = omega arith

three_most : (a b c : List ℕ) → length a ≤ 390 → length b ≤ 9 → length c ≤ 390 → length (a ++ b ++ c) ≤ 789
three_most a b c h k l = omega (arith, h, k, l, length-append (a ++ b) c, length-append a b)

-- the outcome of a request, with the answer where it puts a train on the track
abbrev pub answered_request : ServerState → (client : ℕ) → Option Request → Outcome
answered_request state client request = programmed state.programming state.railway (answered state.names state.railway (outcome_of_request state.bus client request))

-- the lines of a message that a client requests to send are short
abbrev pub AreShortLines : Type 0
AreShortLines = (kept : List ℕ) (byte : ℕ) (message : List ℕ) → request_of_byte kept byte ≡ Some (Send message) → length (receive_text message) ≤ 390

abbrev HasShortLine : Option Request → Type 0
HasShortLine request = (message : List ℕ) → request ≡ Some (Send message) → length (receive_text message) ≤ 390

short_line : AreShortLines → (kept : Option (List ℕ)) (byte : ℕ) → HasShortLine (request_at kept byte)
short_line lines None byte = λ message is. cc
short_line lines (Some kept) byte = lines kept byte

requested_text : (state : ServerState) (client i : ℕ) (request : Option Request) → HasShortLine request → length (text_for i (answered_request state client request)) ≤ 789
requested_text state client i None h = omega arith
requested_text state client i (Some (Invalid reason)) h = error_most (client == i) reason
requested_text state client i (Some (Turns count)) h = turns_most (client == i) (granted state.bus.options.is_stepped count)
requested_text state client i (Some (States things)) h = omega arith
requested_text state client i (Some (Place placement)) h = place_most (client == i) (place_answer state.names state.railway placement)
requested_text state client i (Some (Device request)) h = device_most (client == i) (device_answer state.programming state.railway request)
requested_text state client i (Some (Send message)) h =
    three_most (receive_text message) (if client == i then sent_ok_text else []) (reply_text (device_reply state.programming state.railway message (reply_to state.bus (Some (Send message))))) (h message refl) (ok_most (client == i)) (device_reply_most state.railway state.programming message _)

pub request_most : AreShortLines → (state : ServerState) (client i : ℕ) (kept : Option (List ℕ)) (byte : ℕ) → length (text_for i (answered_request state client (request_at kept byte))) ≤ 789
request_most lines state client i kept byte = requested_text state client i (request_at kept byte) (short_line lines kept byte)

-- A report of a sensor or a turnout is a line of 21 bytes, a result one of 51, and a packet none: the
-- bytes that what is due adds to the text of a client.

abbrev pub text_size : DeviceReport → ℕ
text_size (Sensor report) = 21
text_size (Turnout report) = 21
text_size (Packet packet change) = 0
text_size (Ended ended) = 51

abbrev pub owed : List DeviceReport → ℕ
owed [] = 0
owed (report ∷ items) = text_size report + owed items

report_size : (sensor : ℕ) (occupied : Bool) → length (receive_text (report_bytes sensor occupied)) ≤ 21
report_size sensor occupied =
    let size : length (report_bytes sensor occupied) ≡ 4 = refl in
    omega (arith, size, length-words (report_bytes sensor occupied), length-append (hex_words (report_bytes sensor occupied)) line_end)

turnout_size : (report : TurnoutReport) → length (receive_text (turnout_report_bytes report)) ≤ 21
turnout_size report =
    let size : length (turnout_report_bytes report) ≡ 4 = refl in
    omega (arith, size, length-words (turnout_report_bytes report), length-append (hex_words (turnout_report_bytes report)) line_end)

result_size : (ended : TaskResult) → length (receive_text (result_bytes ended)) ≤ 51
result_size ended =
    let size : length (result_bytes ended) ≡ 14 = refl in
    omega (arith, size, length-words (result_bytes ended), length-append (hex_words (result_bytes ended)) line_end)

message_in : Event → List ℕ
message_in (Reports message) = message
message_in other = []

pub message_size : (report : DeviceReport) (message : List ℕ) → event_of report ≡ Reports message → length (receive_text message) ≤ text_size report
unfolding message_in
message_size (Sensor report) message is = subst (λ (m : List ℕ). length (receive_text m) ≤ 21) (ap message_in is) (report_size report.sensor report.occupied)
message_size (Turnout report) message is = subst (λ (m : List ℕ). length (receive_text m) ≤ 21) (ap message_in is) (turnout_size report)
message_size (Packet packet change) message is = cc
message_size (Ended ended) message is = subst (λ (m : List ℕ). length (receive_text m) ≤ 51) (ap message_in is) (result_size ended)

owed-append : (first second : List DeviceReport) → owed (first ++ second) ≡ owed first + owed second
owed-append [] second = omega arith
owed-append (report ∷ first) second = omega (arith, owed-append first second)

owed_sensors : (reports : List SensorReport) → owed (of_sensors reports) ≡ 21 * length reports
owed_sensors [] = refl
owed_sensors (report ∷ reports) = omega (arith, owed_sensors reports)

owed_turnouts : (reports : List TurnoutReport) → owed (of_turnouts reports) ≡ 21 * length reports
owed_turnouts [] = refl
owed_turnouts (report ∷ reports) = omega (arith, owed_turnouts reports)

owed_result : (ended : Option TaskResult) → owed (of_result ended) ≤ 51
owed_result None = omega arith
owed_result (Some ended) = omega arith

owed_ends : (decoder : Option ArrayString) (ends : List PacketEnd) → owed (of_ends decoder ends) ≤ 51 * length ends
owed_ends decoder [] = omega arith
owed_ends decoder (one ∷ ends) = omega (arith, owed-append (of_result one.result) (of_ends decoder ends), owed_result one.result, owed_ends decoder ends)

onto_most : (report : Option SensorReport) (reports : List SensorReport) → length (onto report reports) ≤ length reports + 1
onto_most None reports = omega arith
onto_most (Some report) reports = omega arith

-- a block changes at most once
both_onto : (sensor : Option ℕ) (was is : Bool) (rises falls : List SensorReport)
    → length (onto (change_of true sensor was is) rises) + length (onto (change_of false sensor was is) falls) ≤ length rises + length falls + 1
both_onto None was is rises falls = omega arith
both_onto (Some sensor) true true rises falls = omega arith
both_onto (Some sensor) true false rises falls = omega arith
both_onto (Some sensor) false true rises falls = omega arith
both_onto (Some sensor) false false rises falls = omega arith

each_once : (was is : ℕ → Bool) (i : ℕ) (blocks : List Block) → length (changes_from true was is i blocks) + length (changes_from false was is i blocks) ≤ length blocks
each_once was is i [] = omega arith
each_once was is i (block ∷ blocks) =
    omega (arith, each_once was is (i + 1) blocks, both_onto block.sensor (was i) (is i) (changes_from true was is (i + 1) blocks) (changes_from false was is (i + 1) blocks))

full_from_most : (is : ℕ → Bool) (i : ℕ) (blocks : List Block) → length (full_from is i blocks) ≤ length blocks
full_from_most is i [] = omega arith
full_from_most is i (block ∷ blocks) =
    omega (arith, full_from_most is (i + 1) blocks, onto_most (level_of block.sensor (is i)) (full_from is (i + 1) blocks))

changes_most : (blocks : List Block) (was is : ℕ → Bool) → length blocks ≤ 64 → length (changes blocks was is) ≤ 64
changes_most blocks was is few = omega (arith, few, length-append (changes_from true was is 0 blocks) (changes_from false was is 0 blocks), each_once was is 0 blocks)

-- in a time it becomes occupied at most once, and then free
from_most : (level : Bool) (was is : ℕ → Bool) (i : ℕ) (blocks : List Block) → length (changes_from level was is i blocks) ≤ length blocks
from_most level was is i [] = omega arith
from_most level was is i (block ∷ blocks) =
    omega (arith, from_most level was is (i + 1) blocks, onto_most (change_of level block.sensor (was i) (is i)) (changes_from level was is (i + 1) blocks))

through_most : (blocks : List Block) (was sensed is : ℕ → Bool) → length blocks ≤ 64 → length (changes_through blocks was sensed is) ≤ 128
through_most blocks was sensed is few =
    omega (arith, few, length-append (changes_from true was sensed 0 blocks) (changes_from false sensed is 0 blocks), from_most true was sensed 0 blocks, from_most false sensed is 0 blocks)

-- and a turnout comes to lie at most once
turnout_onto : (report : Option TurnoutReport) (reports : List TurnoutReport) → length (turnout.onto report reports) ≤ length reports + 1
turnout_onto None reports = omega arith
turnout_onto (Some report) reports = omega arith

movements_most : (was is : List TurnoutState) → length (movements was is) ≤ length was
movements_most [] is = omega arith
movements_most (before ∷ was) [] = omega arith
movements_most (before ∷ was) (after ∷ is) = omega (arith, movements_most was is, turnout_onto (movement_of before after) (movements was is))

full_turnouts_most : (states : List TurnoutState) → length (full_turnouts states) ≤ length states
full_turnouts_most [] = omega arith
full_turnouts_most (state ∷ states) = omega (arith, full_turnouts_most states, turnout_onto (side_report state) (full_turnouts states))

-- a railway has at most 64 blocks and turnouts
pub record AreFewParts (railway : RailwayState) : Type 0 where
  pub blocks : length railway.network.blocks ≤ 64
  pub turnouts : length railway.network.turnouts ≤ 64

abbrev pub HasFewParts : Option RailwayState → Type 0
HasFewParts railway = IfSome railway AreFewParts

elapsed_most : (railway : Option RailwayState) (micros : ℕ) (power : Power) (nodes : List Node) → HasFewParts railway → length (reports_elapsed railway micros power nodes) ≤ 128
elapsed_most None micros power nodes few = omega arith
elapsed_most (Some railway) micros power nodes few =
    through_most railway.network.blocks (is_sensed railway) (is_sensed_in railway micros power nodes) (is_sensed (elapsed railway micros power nodes)) few.blocks

moved_most : (railway : Option RailwayState) (micros : ℕ) (power : Power) (nodes : List Node) → HasFewParts railway → length (movements_elapsed railway micros power nodes) ≤ 64
moved_most None micros power nodes few = omega arith
moved_most (Some railway) micros power nodes few =
    let most = few.turnouts in omega (arith, most, movements_most railway.network.turnouts (elapsed railway micros power nodes).network.turnouts)

full_most : (railway : Option RailwayState) → HasFewParts railway → length (full_report railway) ≤ 64
full_most None few = omega arith
full_most (Some railway) few = let most = few.blocks in omega (arith, most, full_from_most (is_sensed railway) 0 railway.network.blocks)

turnouts_full_most : (railway : Option RailwayState) → HasFewParts railway → length (turnout_report railway) ≤ 64
turnouts_full_most None few = omega arith
turnouts_full_most (Some railway) few = let most = few.turnouts in omega (arith, most, full_turnouts_most railway.network.turnouts)

sensors_most : (reports : List SensorReport) → length reports ≤ 128 → owed (of_sensors reports) ≤ 4134
sensors_most reports few = omega (arith, few, owed_sensors reports)

asked_most : (asks : Bool) (railway : Option RailwayState) → HasFewParts railway → owed (if asks then full_reports railway else []) ≤ 4134
asked_most true railway few =
    let sensors : List SensorReport = full_report railway in
    let turnouts : List TurnoutReport = turnout_report railway in
    omega (arith, owed-append (of_sensors sensors) (of_turnouts turnouts), owed_sensors sensors, owed_turnouts turnouts, full_most railway few, turnouts_full_most railway few)
asked_most false railway few = omega arith

happened_most : (happening : Happening) (railway : RailwayState) → AreFewParts railway → owed (of_sensors (reports_of railway happening)) ≤ 4134
happened_most happening railway few = sensors_most (reports_of railway happening) (by happening) where
  changed : (new : RailwayState) → length (changes railway.network.blocks (is_sensed railway) (is_sensed new)) ≤ 128
  changed new = let most = changes_most railway.network.blocks (is_sensed railway) (is_sensed new) few.blocks in omega (arith, most)

  by : (one : Happening) → length (reports_of railway one) ≤ 128
  by (TimeElapses micros power nodes) =
      through_most railway.network.blocks (is_sensed railway) (is_sensed_in railway micros power nodes) (is_sensed (elapsed railway micros power nodes)) few.blocks
  by (Places train position) = changed (after railway (Places train position))
  by (SensorFails sensor occupied) = changed (after railway (SensorFails sensor occupied))
  by (TurnoutFails switch) = changed (after railway (TurnoutFails switch))
  by FailuresEnd = changed (after railway FailuresEnd)

placed_most : (names : List (List ℕ)) (client : ℕ) (placement : Result Placement PlaceError) (railway : Option RailwayState) → HasFewParts railway → owed (reports_due names (PlaceRequested client placement) railway []) ≤ 4134
placed_most names client (Err error) None few = omega arith
placed_most names client (Err error) (Some railway) few = omega arith
placed_most names client (Ok placement) None few = omega arith
placed_most names client (Ok placement) (Some railway) few = happened_most (places names railway placement) railway few

device_due_most : (happening : Option Happening) (railway : Option RailwayState) → HasFewParts railway → owed (due_of happening railway []) ≤ 4134
device_due_most None railway few = omega arith
device_due_most (Some happening) None few = omega arith
device_due_most (Some happening) (Some railway) few = happened_most happening railway few

requested_most : (names : List (List ℕ)) (bus : BusState) (client : ℕ) (request : Option Request) (railway : Option RailwayState) → HasFewParts railway → owed (reports_due names (outcome_of_request bus client request) railway []) ≤ 4134
requested_most names bus client None railway few = omega arith
requested_most names bus client (Some (Invalid reason)) railway few = omega arith
requested_most names bus client (Some (Send message)) railway few = asked_most (begins_interrogation message) railway few
requested_most names bus client (Some (Turns count)) railway few = omega arith
requested_most names bus client (Some (States things)) railway few = omega arith
requested_most names bus client (Some (Place placement)) railway few = placed_most names client placement railway few
requested_most names bus client (Some (Device request)) railway few = device_due_most (happening_by request) railway few

-- what a railway promises, that it is small, and that its blocks and turnouts stay whatever happens; a station, how long its turns are; a
-- programming track, that few packets end in a time; and the text of clients, how long a line is
pub record Limits : Type 0 where
  pub lines : AreShortLines
  pub few : (railway : RailwayState) → IsTrue (is_railway railway) → AreFewParts railway
  pub blocks : (railway : RailwayState) (happening : Happening) → (after railway happening).network.blocks ≡ railway.network.blocks
  pub turnouts : (railway : RailwayState) (happening : Happening) → turnouts_of (after railway happening).network.turnouts ≡ turnouts_of railway.network.turnouts
  pub turns : TurnsAreBounded
  pub ends : (micros : ℕ) (track : ProgrammingTrack) → 5820 * length (ends_within micros track) ≤ micros + 5820

ends_most : Limits → (programming : Option BenchState) (micros : ℕ) → micros ≤ 10740 → length (ends_elapsed programming micros) ≤ 2
ends_most laws None micros short = omega arith
ends_most laws (Some bench) micros short = omega (arith, laws.ends micros bench.track, short)

time_most : Limits → (railway : Option RailwayState) (programming : Option BenchState) (micros : ℕ) (power : Power) (nodes : List Node) → HasFewParts railway → micros ≤ 10740
    → owed (reports_of_time railway programming micros power nodes) ≤ 4134
time_most laws railway programming micros power nodes few short =
    let reports : List SensorReport = reports_elapsed railway micros power nodes in
    let turnouts : List TurnoutReport = movements_elapsed railway micros power nodes in
    let ends : List PacketEnd = ends_elapsed programming micros in
    let decoder : Option ArrayString = decoder_on programming in
    let of_rest : owed (of_turnouts turnouts ++ of_ends decoder ends) ≤ 1446 =
    omega (arith, owed-append (of_turnouts turnouts) (of_ends decoder ends), owed_turnouts turnouts, owed_ends decoder ends, moved_most railway micros power nodes few, ends_most laws programming micros short) in
    omega (arith, of_rest, owed-append (of_sensors reports) (of_turnouts turnouts ++ of_ends decoder ends), owed_sensors reports, elapsed_most railway micros power nodes few)

next_most : Limits → (bus : BusState) → next_turn bus ≤ 10740
next_most laws bus = let longest = laws.turns.longest bus.station in omega (arith, longest)

made_most : Limits → (names : List (List ℕ)) (bus : BusState) (nodes : List Node) (event : Event) (railway : Option RailwayState) (programming : Option BenchState) → is_event event ≡ true → HasFewParts railway
    → owed (reports_after names bus nodes event railway programming) ≤ 4134
made_most laws names bus nodes (Connects client) railway programming legal few = omega arith
made_most laws names bus nodes (Receives client byte) railway programming legal few = requested_most names bus client (request_at (client_of bus client) byte) railway few
made_most laws names bus nodes (Disconnects client) railway programming legal few = omega arith
made_most laws names bus nodes (Reports message) railway programming legal few = omega arith
made_most laws names bus nodes (Programs packet change) railway programming legal few = omega arith
made_most laws names bus nodes (Elapses micros missed) railway programming legal few =
    time_most laws railway programming micros (power_of bus) nodes few (let short = leb-true micros 5796 legal in omega (arith, short))
made_most laws names bus nodes (Turn missed) railway programming legal few = time_most laws railway programming (next_turn bus) (power_of bus) nodes few (next_most laws bus)

as_many : (one two : List TurnoutState) → turnouts_of one ≡ turnouts_of two → length one ≡ length two
as_many one two h = sym (count one) ∙ ap length h ∙ count two where
  count : (states : List TurnoutState) → length (turnouts_of states) ≡ length states
  count [] = refl
  count (state ∷ states) = ap suc (count states)

few_after : Limits → (railway : RailwayState) (happening : Happening) → AreFewParts railway → AreFewParts (after railway happening)
few_after same railway happening few =
    let many : length (after railway happening).network.turnouts ≡ length railway.network.turnouts = as_many (after railway happening).network.turnouts railway.network.turnouts (same.turnouts railway happening) in
    let most = few.turnouts in record {
      blocks = subst (λ (blocks : List Block). length blocks ≤ 64) (sym (same.blocks railway happening)) few.blocks;
      turnouts = omega (arith, many, most);
    }

-- as every railway does
pub few_first : Limits → (railway : Option RailwayState) → IfSome railway (λ one. IsTrue (is_railway one)) → HasFewParts railway
few_first laws None h = h
few_first laws (Some railway) h = laws.few railway h

few_elapsed : Limits → (railway : Option RailwayState) (micros : ℕ) (power : Power) (nodes : List Node) → HasFewParts railway → HasFewParts (railway_elapsed railway micros power nodes)
few_elapsed same None micros power nodes few = few
few_elapsed same (Some railway) micros power nodes few = few_after same railway (TimeElapses micros power nodes) few

few_happened : Limits → (happening : Option Happening) (railway : Option RailwayState) → HasFewParts railway → HasFewParts (happened_to happening railway)
few_happened same None railway few = few
few_happened same (Some happening) None few = few
few_happened same (Some happening) (Some railway) few = few_after same railway happening few

few_placed : Limits → (names : List (List ℕ)) (bus : BusState) (client : ℕ) (request : Option Request) (railway : Option RailwayState) → HasFewParts railway → HasFewParts (railway_requested names (outcome_of_request bus client request) railway)
few_placed same names bus client None railway few = few
few_placed same names bus client (Some (Invalid reason)) railway few = few
few_placed same names bus client (Some (Send message)) railway few = few
few_placed same names bus client (Some (Turns count)) railway few = few
few_placed same names bus client (Some (States things)) railway few = few
few_placed same names bus client (Some (Device request)) railway few = few_happened same (happening_by request) railway few
few_placed same names bus client (Some (Place (Err error))) None few = few
few_placed same names bus client (Some (Place (Err error))) (Some railway) few = few
few_placed same names bus client (Some (Place (Ok placement))) None few = few
few_placed same names bus client (Some (Place (Ok placement))) (Some railway) few = few_after same railway (places names railway placement) few

still_few : Limits → (names : List (List ℕ)) (bus : BusState) (nodes : List Node) (event : Event) (railway : Option RailwayState) → HasFewParts railway → HasFewParts (railway_after names bus nodes event railway)
still_few same names bus nodes (Connects client) railway few = few
still_few same names bus nodes (Receives client byte) railway few = few_placed same names bus client (request_at (client_of bus client) byte) railway few
still_few same names bus nodes (Disconnects client) railway few = few
still_few same names bus nodes (Reports message) railway few = few
still_few same names bus nodes (Programs packet change) railway few = few
still_few same names bus nodes (Elapses micros missed) railway few = few_elapsed same railway micros (power_of bus) nodes few
still_few same names bus nodes (Turn missed) railway few = few_elapsed same railway (next_turn bus) (power_of bus) nodes few

-- What is due before an event that is no report, and after it.

pub none_due : (event : Event) (observed : Observation) (old new : ServerState) → is_report event ≡ false → RunsEvent event observed old new → old.unreported ≡ []
none_due (Connects client) observed old new none runs = runs.unreported.0
none_due (Receives client byte) observed old new none runs = runs.unreported.0
none_due (Disconnects client) observed old new none runs = runs.unreported.0
none_due (Reports message) observed old new none runs = cc
none_due (Programs packet change) observed old new none runs = cc
none_due (Elapses micros missed) observed old new none runs = runs.unreported.0
none_due (Turn missed) observed old new none runs = runs.unreported.0

made_due : (event : Event) (observed : Observation) (old new : ServerState) → is_report event ≡ false → RunsEvent event observed old new → new.unreported ≡ reports_after old.names old.bus (running_in event old.nodes new.nodes) event old.railway old.programming
made_due (Connects client) observed old new none runs = runs.unreported.1
made_due (Receives client byte) observed old new none runs = runs.unreported.1
made_due (Disconnects client) observed old new none runs = runs.unreported.1
made_due (Reports message) observed old new none runs = cc
made_due (Programs packet change) observed old new none runs = cc
made_due (Elapses micros missed) observed old new none runs = runs.unreported.1
made_due (Turn missed) observed old new none runs = runs.unreported.1

-- what is due is at most 4,134 bytes, and the railway has at most 64 blocks and turnouts
abbrev pub HasFew : ServerState → Type 0
HasFew state = (owed state.unreported ≤ 4134) × HasFewParts state.railway

pub event_few : Limits → (event : Event) (observed : Observation) (old new : ServerState) → is_report event ≡ false → RunsEvent event observed old new → HasFewParts old.railway → HasFew new
event_few same event observed old new none runs few = (
  subst (λ (items : List DeviceReport). owed items ≤ 4134) (sym (made_due event observed old new none runs)) (made_most same old.names old.bus (running_in event old.nodes new.nodes) event old.railway old.programming runs.legal few),
  subst HasFewParts (sym runs.railway) (still_few same old.names old.bus (running_in event old.nodes new.nodes) event old.railway few),
)
