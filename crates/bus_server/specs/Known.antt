-- What a client knows of a sensor by the reports on the bus.
use Rattle.std.specs.Prelude.{ℕ, ◌≡◌, ◌<◌, Bool, true, List, [], is_some, length, not, Some, IsTrue}
use Rattle.std.specs.List.{flat_map, list_all, slice_index_or}
use Rattle.std.specs.Option.{option_to_list}
use Rattle.ln_ops.specs.Sensor.{report_of}
use Rattle.ln_ops.specs.declared.sensor.SensorReport.{SensorReport}
use Rattle.railway.specs.Blocks.{default_block}
use Rattle.railway.specs.Railway.{RailwayState, is_railway, is_sensed}
use Rattle.railway.specs.Reports.{level_after}
use Rattle.bus.specs.Outcome.{messages_in}
use Rattle.bus.specs.declared.outcome.Outcome.TheVariants.{Sent}
use Rattle.bus.specs.declared.event.Event.TheVariants.{Receives}
use Rattle.bus.specs.Bus.{outcome_of}
use Rattle.bus_server.specs.Observations.{Observation, Observed}
use Rattle.bus_server.specs.ServerState.{LoggedEvent, RunsEvent, ServerState}
use Rattle.bus_server.specs.Running.{Round, RunsRounds, logged_in}
use Rattle.bus_server.specs.DeviceReports.{sensors_in}
use Rattle.bus_server.specs.Sensors.{asks_sensors}

-- the messages that clients receive of an observation: each sent, its reply, and each report
abbrev pub messages_of : Observation → List (List ℕ)
messages_of (Observed outcome nodes railway) = messages_in outcome
messages_of other = []

-- all of a run, in order
abbrev pub received_in : List LoggedEvent → List (List ℕ)
received_in applied = flat_map (λ one. messages_of one.observed) applied

-- the reports among messages, as layout software reads them
abbrev pub reports_read : List (List ℕ) → List SensorReport
reports_read messages = flat_map (λ message. option_to_list (report_of message)) messages

-- the level of a sensor that a client knows by messages: that of its last report
abbrev pub level_by : List (List ℕ) → (sensor : ℕ) → Bool → Bool
level_by messages sensor level = level_after (reports_read messages) sensor level

-- It is not a message of a client that reads as a report (OPC_INPUT_REP).
abbrev pub is_no_claim : Observation → Bool
is_no_claim (Observed (Sent client message reply) nodes railway) = not (is_some (report_of message))
is_no_claim other = true

-- no client sends such a message
abbrev pub ClaimNothing : List LoggedEvent → Type 0
ClaimNothing applied = list_all (λ one. is_no_claim one.observed) applied ≡ true

-- the sensor is that of a block of the railway
abbrev pub IsSensorOf : (block sensor : ℕ) → RailwayState → Type 0
IsSensorOf block sensor railway =
    (block < length railway.network.blocks)
    × ((slice_index_or railway.network.blocks block default_block).sensor ≡ Some sensor)

-- With what is still due, the level that a client knows of a sensor is what it finds.
abbrev pub IsKnown : (block sensor : ℕ) → (level : Bool) → ServerState → Type 0
IsKnown block sensor level state =
    (railway : RailwayState) × (state.railway ≡ Some railway) × IsTrue (is_railway railway)
    × IsSensorOf block sensor railway
    × (level_after (sensors_in state.unreported) sensor level ≡ is_sensed railway block)

-- It stays so in every run in which no client sends a report, by the messages that clients receive.
abbrev pub StaysKnown : Type 0
StaysKnown = (block sensor most : ℕ) (level : Bool) (rounds : List Round) (old new : ServerState)
    → RunsRounds most rounds old new → ClaimNothing (logged_in rounds) → IsKnown block sensor level old
    → IsKnown block sensor (level_by (received_in (logged_in rounds)) sensor level) new

-- After a message that asks all sensors to report it is so, whatever the client knew.
abbrev pub BecomesKnown : Type 0
BecomesKnown = (block sensor client byte : ℕ) (level : Bool) (railway : RailwayState)
    (observed : Observation) (old new : ServerState)
    → old.railway ≡ Some railway → IsTrue (is_railway railway) → IsSensorOf block sensor railway
    → asks_sensors (outcome_of old.bus (Receives client byte)) ≡ true
    → RunsEvent (Receives client byte) observed old new → IsKnown block sensor level new
