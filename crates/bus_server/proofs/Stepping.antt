-- An event of the bus in parts: time passes beside the station, the bus runs the event, and devices
-- report.
use Rattle.std.proofs.Common.{◌≡◌, ℕ, ◌≤◌, Bool, true, false, if◌then◌else◌, nat_le, List, [], ◌∷◌, length, Option, refl, ap, ap₂, sym, subst, ◌∙◌}
use Rattle.refresh_ring.specs.declared.pick.Power.{Power}
use Rattle.station_core.specs.Station.{packet_of_turn}
use Rattle.railway.specs.Railway.{RailwayState}
use Rattle.programming_track.specs.Bench.{BenchState}
use Rattle.bus_server.specs.declared.device_report.DeviceReport.{DeviceReport}
use Rattle.bus_server.specs.declared.device_report.DeviceReport.TheVariants.{Sensor, Turnout, Packet, Ended}
use Rattle.bus_server.specs.DeviceReports.{event_of, is_legal_report}
use Rattle.bus_server.specs.Programming.{programmed, programming_elapsed, programming_requested}
use Rattle.bus.specs.declared.outcome.Outcome.{Outcome}
use Rattle.bus.specs.declared.outcome.Outcome.TheVariants.{Nothing, TurnBegan}
use Rattle.bus.specs.declared.event.Event.{Event}
use Rattle.bus.specs.declared.event.Event.TheVariants.{Connects, Receives, Disconnects, Reports, Programs, Elapses, Turn}
use Rattle.bus.specs.Bus.{BusState, outcome_of}
use Rattle.bus.specs.Course.{is_time}
use Rattle.bus_server.specs.Observations.{Observation, Observed}
use Rattle.bus_server.specs.declared.losses.Losses.{Losses}
use Rattle.bus_server.specs.ServerState.{IsDrawn, RunsEvent, ServerState, outcome_in}
use Rattle.bus_server.specs.SendQueues.{queues_after}
use Rattle.bus_server.specs.Placement.{answered}
use Rattle.bus_server.specs.Sensors.{IsDue, IsWithinTurn, reports_of_time, is_report, next_turn, power_of, programming_after, railway_after, railway_elapsed, railway_requested, reports_after, reports_due, running_in}
use Rattle.bus_server.specs.Hub.{RunsOnBus, with_trains_run}

-- the bus runs an event once what decoders miss is drawn and trains have run
runs : (event : Event) (observed : Observation) (losses : Losses) (railway : Option RailwayState) (programming : Option BenchState) (unreported : List DeviceReport) (old new : ServerState)
    → RunsOnBus event observed (record old { losses = losses; railway = railway; programming = programming; unreported = unreported }) new
    → IsWithinTurn event old.bus → IsDrawn event old.bus (length old.nodes) old.losses losses
    → programmed programming railway (answered old.names railway (outcome_of old.bus event)) ≡ outcome_in old event
    → railway_requested old.names (outcome_of old.bus event) railway ≡ railway_after old.names old.bus (running_in event old.nodes new.nodes) event old.railway
    → programming_requested (outcome_of old.bus event) programming ≡ programming_after old.bus event old.programming
    → IsDue event (reports_after old.names old.bus (running_in event old.nodes new.nodes) event old.railway old.programming) old.unreported new.unreported
    → RunsEvent event observed old new
runs event observed losses railway programming unreported old new h piece drawn told trains track reports = record {
  legal = h.legal;
  bus = h.bus;
  nodes = h.nodes;
  piece = piece;
  railway = h.railway ∙ trains;
  programming = h.programming ∙ track;
  unreported = reports;
  queues = h.queues ∙ ap (λ (outcome : Outcome). queues_after outcome old.queues) told;
  names = h.names;
  answers = h.answers;
  turns_due = h.turns_due;
  time_due = h.time_due;
  losses = subst (λ (l : Losses). IsDrawn event old.bus (length old.nodes) old.losses l) (sym h.losses) drawn;
  pace = h.pace;
  first_client = h.first_client;
  has_backlog = h.has_backlog;
  disconnected = h.disconnected;
  saw = h.saw ∙ ap (λ (outcome : Outcome). Observed outcome new.nodes new.railway) told;
}

-- an event of a client takes no time
pub client_runs : (event : Event) (observed : Observation) (old new : ServerState) → is_time event ≡ false → old.unreported ≡ []
    → RunsOnBus event observed old new → RunsEvent event observed old new
client_runs (Connects client) observed old new time none h = runs (Connects client) observed old.losses old.railway old.programming old.unreported old new h tt refl refl refl refl (none, h.unreported ∙ none)
client_runs (Disconnects client) observed old new time none h = runs (Disconnects client) observed old.losses old.railway old.programming old.unreported old new h tt refl refl refl refl (none, h.unreported ∙ none)
client_runs (Receives client byte) observed old new time none h =
    runs (Receives client byte) observed old.losses old.railway old.programming old.unreported old new h tt refl refl refl refl (
      none,
      h.unreported ∙ ap (λ (unreported : List DeviceReport). reports_due old.names (outcome_of old.bus (Receives client byte)) old.railway unreported) none,
    )
client_runs (Reports message) observed old new time none h = cc
client_runs (Programs packet change) observed old new time none h = cc
client_runs (Elapses micros missed) observed old new time none h = cc
client_runs (Turn missed) observed old new time none h = cc

-- time asks nothing of the devices

abbrev time_outcome : (ends : Bool) (packet : Option (List ℕ)) → Outcome
time_outcome ends packet = if ends then TurnBegan packet else Nothing

time_due : (names : List (List ℕ)) (ends : Bool) (packet : Option (List ℕ)) (railway : Option RailwayState) (unreported : List DeviceReport)
    → reports_due names (time_outcome ends packet) railway unreported ≡ unreported
time_due names true packet railway unreported = refl
time_due names false packet railway unreported = refl

time_placed : (names : List (List ℕ)) (ends : Bool) (packet : Option (List ℕ)) (railway : Option RailwayState) → railway_requested names (time_outcome ends packet) railway ≡ railway
time_placed names true packet railway = refl
time_placed names false packet railway = refl

time_requested : (ends : Bool) (packet : Option (List ℕ)) (programming : Option BenchState) → programming_requested (time_outcome ends packet) programming ≡ programming
time_requested true packet programming = refl
time_requested false packet programming = refl

time_told : (names : List (List ℕ)) (ends : Bool) (packet : Option (List ℕ)) (old new : Option RailwayState) (before after : Option BenchState)
    → programmed after new (answered names new (time_outcome ends packet)) ≡ programmed before old (answered names old (time_outcome ends packet))
time_told names true packet old new before after = refl
time_told names false packet old new before after = refl

pub elapse_runs : (micros missed : ℕ) (observed : Observation) (losses : Losses) (old drawn ready new : ServerState)
    → micros ≤ old.bus.remaining → old.unreported ≡ [] → IsDrawn (Elapses micros missed) old.bus (length old.nodes) old.losses losses
    → drawn ≡ record old { losses = losses } → ready ≡ with_trains_run micros drawn
    → RunsOnBus (Elapses micros missed) observed ready new → RunsEvent (Elapses micros missed) observed old new
elapse_runs micros missed observed losses old drawn ready new piece none draws is_drawn is_run h =
    let trains : Option RailwayState = railway_elapsed old.railway micros (power_of old.bus) old.nodes in
    let track : Option BenchState = programming_elapsed old.programming micros in
    let reports : List DeviceReport = reports_of_time old.railway old.programming micros (power_of old.bus) old.nodes in
    let on_bus : RunsOnBus (Elapses micros missed) observed (record old { losses = losses; railway = trains; programming = track; unreported = reports }) new =
    subst (λ (s : ServerState). RunsOnBus (Elapses micros missed) observed s new) (is_run ∙ ap (with_trains_run micros) is_drawn) h in
    let ends : Bool = nat_le old.bus.remaining micros in
    let packet : Option (List ℕ) = packet_of_turn old.bus.station in
    runs (Elapses micros missed) observed losses trains track reports old new on_bus piece draws (time_told old.names ends packet old.railway trains old.programming track) (time_placed old.names ends packet trains)
    (time_requested ends packet track)
    (none, on_bus.unreported ∙ time_due old.names ends packet trains reports)

-- a turn is begun, and then trains run
pub turn_runs : (micros missed : ℕ) (outcome : Outcome) (losses : Losses) (old drawn begun new : ServerState)
    → micros ≡ begun.bus.remaining → old.unreported ≡ [] → IsDrawn (Turn missed) old.bus (length old.nodes) old.losses losses
    → drawn ≡ record old { losses = losses } → RunsOnBus (Turn missed) (Observed outcome begun.nodes begun.railway) drawn begun → outcome ≡ outcome_in drawn (Turn missed)
    → new ≡ with_trains_run micros begun → RunsEvent (Turn missed) (Observed outcome new.nodes new.railway) old new
turn_runs micros missed outcome losses old drawn begun new lasts none draws is_drawn h told is_run =
    let start : ServerState = record old { losses = losses } in
    let on_bus : RunsOnBus (Turn missed) (Observed outcome begun.nodes begun.railway) start begun =
    subst (λ (s : ServerState). RunsOnBus (Turn missed) (Observed outcome begun.nodes begun.railway) s begun) is_drawn h in
    let same : outcome ≡ outcome_in old (Turn missed) = told ∙ ap (λ (s : ServerState). outcome_in s (Turn missed)) is_drawn in
    let length_is : micros ≡ next_turn old.bus = lasts ∙ ap (λ (bus : BusState). bus.remaining) on_bus.bus in
    let power : power_of begun.bus ≡ power_of old.bus = ap power_of on_bus.bus in
    let ran : begun.railway ≡ old.railway = on_bus.railway in
    let track : begun.programming ≡ old.programming = on_bus.programming in
    subst (λ (s : ServerState). RunsEvent (Turn missed) (Observed outcome s.nodes s.railway) old s) (sym is_run) (record {
      legal = on_bus.legal;
      bus = on_bus.bus;
      nodes = on_bus.nodes;
      piece = tt;
      railway = ap₂ (λ (railway : Option RailwayState) (power : Power). railway_elapsed railway micros power begun.nodes) ran power
          ∙ ap (λ (n : ℕ). railway_elapsed old.railway n (power_of old.bus) begun.nodes) length_is;
      programming = ap₂ programming_elapsed track length_is;
      unreported = (
        none,
        ap₂ (λ (railway : Option RailwayState) (power : Power). reports_of_time railway begun.programming micros power begun.nodes) ran power
            ∙ ap₂ (λ (programming : Option BenchState) (n : ℕ). reports_of_time old.railway programming n (power_of old.bus) begun.nodes) track length_is,
      );
      queues = on_bus.queues;
      names = on_bus.names;
      answers = on_bus.answers;
      turns_due = on_bus.turns_due;
      time_due = on_bus.time_due;
      losses = subst (λ (l : Losses). IsDrawn (Turn missed) old.bus (length old.nodes) old.losses l) (sym on_bus.losses) draws;
      pace = on_bus.pace;
      first_client = on_bus.first_client;
      has_backlog = on_bus.has_backlog;
      disconnected = on_bus.disconnected;
      saw = ap (λ (o : Outcome). Observed o begun.nodes (railway_elapsed begun.railway micros (power_of begun.bus) begun.nodes)) same;
    })

-- a device reports what is due next

pub is_device_report : (report : DeviceReport) → is_report (event_of report) ≡ true
is_device_report (Sensor report) = refl
is_device_report (Turnout report) = refl
is_device_report (Packet packet change) = refl
is_device_report (Ended ended) = refl

-- the server once it is taken
abbrev pub without_first : (rest : List DeviceReport) → ServerState → ServerState
without_first rest old = record old { unreported = rest }

pub report_runs : (report : DeviceReport) (rest : List DeviceReport) (observed : Observation) (old ready new : ServerState) → old.unreported ≡ report ∷ rest → is_legal_report report ≡ true → ready ≡ without_first rest old
    → RunsOnBus (event_of report) observed ready new → RunsEvent (event_of report) observed old new
report_runs (Sensor report) rest observed old ready new is legal is_run h =
    let on_bus : RunsOnBus (event_of (Sensor report)) observed (without_first rest old) new = subst (λ (s : ServerState). RunsOnBus (event_of (Sensor report)) observed s new) is_run h in
    runs (event_of (Sensor report)) observed old.losses old.railway old.programming rest old new on_bus tt refl refl refl refl
    (Sensor report, is ∙ ap (λ (unreported : List DeviceReport). Sensor report ∷ unreported) (sym on_bus.unreported), legal, refl)
report_runs (Turnout report) rest observed old ready new is legal is_run h =
    let on_bus : RunsOnBus (event_of (Turnout report)) observed (without_first rest old) new = subst (λ (s : ServerState). RunsOnBus (event_of (Turnout report)) observed s new) is_run h in
    runs (event_of (Turnout report)) observed old.losses old.railway old.programming rest old new on_bus tt refl refl refl refl
    (Turnout report, is ∙ ap (λ (unreported : List DeviceReport). Turnout report ∷ unreported) (sym on_bus.unreported), legal, refl)
report_runs (Packet packet change) rest observed old ready new is legal is_run h =
    let on_bus : RunsOnBus (event_of (Packet packet change)) observed (without_first rest old) new = subst (λ (s : ServerState). RunsOnBus (event_of (Packet packet change)) observed s new) is_run h in
    runs (event_of (Packet packet change)) observed old.losses old.railway old.programming rest old new on_bus tt refl refl refl refl
    (Packet packet change, is ∙ ap (λ (unreported : List DeviceReport). Packet packet change ∷ unreported) (sym on_bus.unreported), legal, refl)
report_runs (Ended ended) rest observed old ready new is legal is_run h =
    let on_bus : RunsOnBus (event_of (Ended ended)) observed (without_first rest old) new = subst (λ (s : ServerState). RunsOnBus (event_of (Ended ended)) observed s new) is_run h in
    runs (event_of (Ended ended)) observed old.losses old.railway old.programming rest old new on_bus tt refl refl refl refl
    (Ended ended, is ∙ ap (λ (unreported : List DeviceReport). Ended ended ∷ unreported) (sym on_bus.unreported), legal, refl)
