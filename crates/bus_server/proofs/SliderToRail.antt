-- From slider to rail.
use Rattle.std.proofs.Common.{◌≡◌, ◌≢◌, ℕ, ◌+◌, ◌<◌, List, [], ◌∷◌, ◌++◌, length, Option, Some, None, Ok, Err, refl, ap, sym, subst, ◌∙◌, arith, append_assoc}
use Rattle.std.proofs.lemmas.List.{append-nil}
use Rattle.std.proofs.lemmas.Option.{slice_get-get_or}
use Rattle.std.specs.List.{slice_index_or}
use Rattle.std.specs.Option.{option_and_then}
use Rattle.std.proofs.lemmas.Bool.{and_from}
use Rattle.std.specs.Prelude.{IsTrue, true}
use Rattle.refresh_ring.specs.declared.pick.Power.{Power}
use Rattle.refresh_ring.specs.declared.pick.Power.TheVariants.{Off, Running as PowerRuns}
use Rattle.station_core.specs.Moments.{IsLive}
use Rattle.station_core.specs.Powered.{HasDesk}
use Rattle.decoder_node.specs.declared.running.Running.{Running}
use Rattle.layout_core.specs.declared.event.Event.{Event as LayoutEvent}
use Rattle.layout_core.specs.declared.node.Node.{Node}
use Rattle.layout_core.specs.declared.node.Node.TheVariants.{Loco}
use Rattle.layout_core.specs.Nodes.{running_of}
use Rattle.layout_core.specs.World.{HaveHeard}
use Rattle.railway.specs.declared.train.TrainState.{TrainState}
use Rattle.railway.specs.Course.{Happening, after, after_all}
use Rattle.railway.specs.Course.Happening.{Elapses as TimeElapses}
use Rattle.railway.specs.Driven.{AllLeaveAlone, AreDrivenBy, HasRun, IsDrivenBy, LeavesAlone, time_in, time_of}
use Rattle.railway.specs.Railway.{RailwayState, is_railway}
use Rattle.railway.specs.Trains.{running_in as runs_in}
use Rattle.loconet_tcp.specs.declared.request.DeviceRequest.{DeviceRequest}
use Rattle.loconet_tcp.specs.declared.request.DeviceRequest.TheVariants.{Mount, Fail}
use Rattle.loconet_tcp.specs.declared.request.Failure.TheVariants.{Programming, Sensor, Turnout}
use Rattle.bus.specs.declared.event.Event.{Event}
use Rattle.bus.specs.declared.event.Event.TheVariants.{Connects, Receives, Disconnects, Reports, Programs, Elapses, Turn}
use Rattle.bus.specs.declared.outcome.Outcome.{Outcome}
use Rattle.bus.specs.declared.outcome.Outcome.TheVariants.{Nothing, Connected, Disconnected, Rejected, Sent, Reported, Programmed, TurnsRequested, StatesRequested, PlaceRequested, Placed, DeviceRequested, DeviceAnswered, TurnBegan}
use Rattle.bus.specs.Bus.{AreEvents, BusState, after_event, after_events, is_event, outcome_of}
use Rattle.bus.specs.Cycle.{Assignment, IsHeard, RunsOnInTime, wanted_of}
use Rattle.bus.specs.Invariant.{IsInvariant}
use Rattle.bus.specs.Layout.{layout_event, layout_events}
use Rattle.bus_server.specs.Failures.{happened_to, happening_by}
use Rattle.bus_server.specs.Observations.{Observation}
use Rattle.bus_server.specs.Sensors.{power_of, railway_after, railway_elapsed, railway_requested, running_in}
use Rattle.bus_server.specs.ServerState.{LoggedEvent, RunsEvent, ServerState, events_of}
use Rattle.bus_server.specs.SliderToRail.{HasSameLayout, IsLeftAlone, RoundsReachRail, RunsLeavingAlone, SliderReachesRail, happening_in, requested_of, run_time, run_time_in}
use Rattle.bus_server.proofs.Courses.{Laws, after-append, legal-append}
use Rattle.bus_server.proofs.OnLayout.{rounds_leave_alone}

-- What an event does to the railway is what happens to it.

requested-is : (names : List (List ℕ)) (outcome : Outcome) (o : Option RailwayState) → railway_requested names outcome o ≡ happened_to (requested_of names outcome o) o
requested-is names (PlaceRequested client (Ok placement)) (Some r) = refl
requested-is names (PlaceRequested client (Ok placement)) None = refl
requested-is names (PlaceRequested client (Err error)) o = refl
requested-is names (DeviceRequested client request) o = refl
requested-is names Nothing o = refl
requested-is names (Connected client) o = refl
requested-is names (Disconnected client) o = refl
requested-is names (Rejected client reason) o = refl
requested-is names (Sent client message reply) o = refl
requested-is names (Reported message) o = refl
requested-is names (Programmed packet change) o = refl
requested-is names (TurnsRequested client turns) o = refl
requested-is names (StatesRequested client things) o = refl
requested-is names (Placed client answer) o = refl
requested-is names (DeviceAnswered client answer) o = refl
requested-is names (TurnBegan packet) o = refl

elapsed-is : (o : Option RailwayState) (micros : ℕ) (power : Power) (nodes : List Node) → railway_elapsed o micros power nodes ≡ happened_to (Some (TimeElapses micros power nodes)) o
elapsed-is None micros power nodes = refl
elapsed-is (Some r) micros power nodes = refl

after-is : (s : ServerState) (nodes : List Node) (event : Event) → railway_after s.names s.bus nodes event s.railway ≡ happened_to (happening_in s nodes event) s.railway
after-is s nodes (Elapses micros missed) = elapsed-is s.railway _ _ nodes
after-is s nodes (Turn missed) = elapsed-is s.railway _ _ nodes
after-is s nodes (Receives client byte) = requested-is s.names (outcome_of s.bus (Receives client byte)) s.railway
after-is s nodes (Connects client) = refl
after-is s nodes (Disconnects client) = refl
after-is s nodes (Reports message) = refl
after-is s nodes (Programs packet change) = refl

-- In it the decoder runs so, and it takes the time of the event.

abbrev DrivenIf : (decoder : ℕ) → Running → Option Happening → Type 0
DrivenIf decoder running None = Unit {0}
DrivenIf decoder running (Some happening) = IsDrivenBy decoder running happening

abbrev time_if : Option Happening → ℕ
time_if None = 0
time_if (Some happening) = time_of happening

record Takes (decoder : ℕ) (running : Running) (micros : ℕ) (o : Option Happening) : Type 0 where
  driven : DrivenIf decoder running o
  time : time_if o ≡ micros

failure-takes : (decoder : ℕ) (running : Running) (request : DeviceRequest) → Takes decoder running 0 (happening_by request)
failure-takes decoder running (Mount name) = record { driven = tt; time = refl }
failure-takes decoder running (Fail (Err error)) = record { driven = tt; time = refl }
failure-takes decoder running (Fail (Ok None)) = record { driven = tt; time = refl }
failure-takes decoder running (Fail (Ok (Some Programming))) = record { driven = tt; time = refl }
failure-takes decoder running (Fail (Ok (Some (Sensor sensor occupied)))) = record { driven = tt; time = refl }
failure-takes decoder running (Fail (Ok (Some (Turnout switch)))) = record { driven = tt; time = refl }

request-takes : (decoder : ℕ) (running : Running) (names : List (List ℕ)) (outcome : Outcome) (o : Option RailwayState) → Takes decoder running 0 (requested_of names outcome o)
request-takes decoder running names (PlaceRequested client (Ok placement)) (Some r) = record { driven = tt; time = refl }
request-takes decoder running names (PlaceRequested client (Ok placement)) None = record { driven = tt; time = refl }
request-takes decoder running names (PlaceRequested client (Err error)) o = record { driven = tt; time = refl }
request-takes decoder running names (DeviceRequested client request) o = failure-takes decoder running request
request-takes decoder running names Nothing o = record { driven = tt; time = refl }
request-takes decoder running names (Connected client) o = record { driven = tt; time = refl }
request-takes decoder running names (Disconnected client) o = record { driven = tt; time = refl }
request-takes decoder running names (Rejected client reason) o = record { driven = tt; time = refl }
request-takes decoder running names (Sent client message reply) o = record { driven = tt; time = refl }
request-takes decoder running names (Reported message) o = record { driven = tt; time = refl }
request-takes decoder running names (Programmed packet change) o = record { driven = tt; time = refl }
request-takes decoder running names (TurnsRequested client turns) o = record { driven = tt; time = refl }
request-takes decoder running names (StatesRequested client things) o = record { driven = tt; time = refl }
request-takes decoder running names (Placed client answer) o = record { driven = tt; time = refl }
request-takes decoder running names (DeviceAnswered client answer) o = record { driven = tt; time = refl }
request-takes decoder running names (TurnBegan packet) o = record { driven = tt; time = refl }

-- the decoder runs so, and there is power
record Drives (decoder : ℕ) (running : Running) (s : ServerState) : Type 0 where
  runs : runs_in s.nodes decoder ≡ Some running
  power : power_of s.bus ≢ Off

takes : (decoder : ℕ) (running : Running) (s mid : ServerState) (event : Event) → Drives decoder running s → Drives decoder running mid
    → Takes decoder running (run_time s.bus event) (happening_in s (running_in event s.nodes mid.nodes) event)
takes decoder running s mid (Elapses micros missed) before behind = record { driven = (before.power, before.runs); time = refl }
takes decoder running s mid (Turn missed) before behind = record { driven = (before.power, behind.runs); time = refl }
takes decoder running s mid (Receives client byte) before behind = request-takes decoder running s.names (outcome_of s.bus (Receives client byte)) s.railway
takes decoder running s mid (Connects client) before behind = record { driven = tt; time = refl }
takes decoder running s mid (Disconnects client) before behind = record { driven = tt; time = refl }
takes decoder running s mid (Reports message) before behind = record { driven = tt; time = refl }
takes decoder running s mid (Programs packet change) before behind = record { driven = tt; time = refl }

-- The laws of the bus.

abbrev pub RunsOn : Type 0
RunsOn = (start : BusState) (events : List Event) (old new : List Node) → IsInvariant start → AreEvents events → HasDesk start.station.powered
    → HaveHeard start.station (layout_events start events) old new → RunsOnInTime start events old new

abbrev pub SoFar : Type 0
SoFar = (asked : Assignment) (start : BusState) (before cycle later more : List Event) → IsHeard asked start before cycle (later ++ more) → IsHeard asked start before cycle later

abbrev pub RunsAsDriven : Type 0
RunsAsDriven = (railway : RailwayState) (happenings : List Happening) (i : ℕ) (none : TrainState) (running : Running) → IsTrue (is_railway railway) → i < length railway.trains
    → AllLeaveAlone i running railway happenings → AreDrivenBy (slice_index_or railway.trains i none).decoder running happenings
    → HasRun railway.network running (time_in happenings) (slice_index_or railway.trains i none) (slice_index_or (after_all railway happenings).trains i none)

-- what happened to a railway
record Ran (train decoder : ℕ) (running : Running) (r : RailwayState) (micros : ℕ) (new : ServerState) : Type 0 where
  happenings : List Happening
  there : new.railway ≡ Some (after_all r happenings)
  alone : AllLeaveAlone train running r happenings
  driven : AreDrivenBy decoder running happenings
  time : time_in happenings ≡ micros

-- one thing more, if anything
joined : (train decoder : ℕ) (running : Running) (r : RailwayState) (here more : ℕ) (mid new : ServerState) (o : Option Happening) → mid.railway ≡ happened_to o (Some r) → IsLeftAlone train running (here + more) o (Some r) → Takes decoder running here o
    → ((s : RailwayState) → mid.railway ≡ Some s → Ran train decoder running s more new) → Ran train decoder running r (here + more) new
joined train decoder running r here more mid new None same alone takes rest =
    let ran = rest r same in
    record { happenings = ran.happenings; there = ran.there; alone = ran.alone; driven = ran.driven; time = omega (arith, ran.time, takes.time) }
joined train decoder running r here more mid new (Some happening) same alone takes rest =
    let ran = rest (after r happening) same in
    let all : here + more ≡ time_of happening + time_in ran.happenings = omega (arith, ran.time, takes.time) in
    record {
      happenings = happening ∷ ran.happenings;
      there = ran.there;
      alone = (subst (λ (micros : ℕ). LeavesAlone train running micros r happening) all alone, ran.alone);
      driven = (takes.driven, ran.driven);
      time = omega (arith, ran.time, takes.time);
    }

not-off : PowerRuns ≡ Off → ⊥
not-off h = cc

-- The bus and the decoders after events, whatever else the server has done.

record HasHeard (events : List Event) (old new : ServerState) : Type 0 where
  legal : AreEvents events
  bus : new.bus ≡ after_events old.bus events
  nodes : HaveHeard old.bus.station (layout_events old.bus events) old.nodes new.nodes

heard_still : (events : List Event) (old mid new : ServerState) → HasHeard events old mid → HasSameLayout mid new → HasHeard events old new
heard_still events old mid new h same = record {
  legal = h.legal;
  bus = same.bus ∙ h.bus;
  nodes = subst (λ (nodes : List Node). HaveHeard old.bus.station (layout_events old.bus events) old.nodes nodes) (sym same.nodes) h.nodes;
}

heard_one : Laws → (events : List Event) (event : Event) (observed : Observation) (old mid new : ServerState) → IsInvariant old.bus → HasHeard events old mid → RunsEvent event observed mid new
    → HasHeard (events ++ event ∷ []) old new
heard_one laws events event observed old mid new kept h step =
    let one : HaveHeard mid.bus.station (layout_events mid.bus (event ∷ [])) mid.nodes new.nodes =
    subst (λ (heard : List LayoutEvent). HaveHeard mid.bus.station heard mid.nodes new.nodes) (sym (append-nil (layout_event mid.bus event))) step.nodes in
    record {
      legal = legal-append events (event ∷ []) h.legal (and_from (is_event event) true step.legal refl);
      bus = step.bus ∙ ap (λ (bus : BusState). after_event bus event) h.bus ∙ sym (after-append events (event ∷ []) old.bus);
      nodes = laws.more old.bus events (event ∷ []) old.nodes mid.nodes new.nodes kept h.legal h.nodes
          (subst (λ (bus : BusState). HaveHeard bus.station (layout_events bus (event ∷ [])) mid.nodes new.nodes) h.bus one);
    }

module _ (laws : Laws) (goes_on : RunsOn) (so_far : SoFar) (asked : Assignment) (before cycle : List Event) (start : ServerState) (none : Node) (kept : IsInvariant start.bus) (desk : HasDesk start.bus.station.powered)
    (below : asked.node < length start.nodes) (stands : slice_index_or start.nodes asked.node none ≡ Loco asked.loco) where
  drives : (later : List Event) (s : ServerState) → IsHeard asked start.bus before cycle later → HasHeard (before ++ (cycle ++ later)) start s → Drives asked.node (wanted_of asked) s
  drives later s heard run =
      let events : List Event = before ++ (cycle ++ later) in
      let runs = goes_on start.bus events start.nodes s.nodes kept run.legal desk run.nodes asked before cycle later none refl below stands heard in
      let within : asked.node < length s.nodes = omega (arith, below, run.nodes.count) in
      let live : IsLive asked.slot s.bus.station.powered = subst (λ (bus : BusState). IsLive asked.slot bus.station.powered) (sym run.bus) runs.1 in
      record {
        runs = ap (λ (o : Option Node). option_and_then running_of o) (slice_get-get_or s.nodes asked.node none within) ∙ runs.0;
        power = λ off. not-off (sym live.running ∙ off);
      }

  goes : (train : ℕ) (later : List LoggedEvent) (so : List Event) (s new : ServerState) (r : RailwayState) → IsHeard asked start.bus before cycle (so ++ events_of later) → HasHeard (before ++ (cycle ++ so)) start s
      → s.railway ≡ Some r → RunsLeavingAlone train (wanted_of asked) later s new → Ran train asked.node (wanted_of asked) r (run_time_in s.bus (events_of later)) new
  goes train [] so s new r heard run has runs = record { happenings = []; there = runs.railway ∙ has; alone = tt; driven = tt; time = refl }
  goes train (one ∷ more) so s new r heard run has runs =
      let begun : ServerState = runs.0 in
      let mid : ServerState = runs.1 in
      let layout = runs.2 in
      let step = runs.3 in
      let on : List Event = so ++ one.event ∷ [] in
      let parts : so ++ (one.event ∷ events_of more) ≡ on ++ events_of more = sym (append_assoc so (one.event ∷ []) (events_of more)) in
      let heard_then : IsHeard asked start.bus before cycle (on ++ events_of more) = subst (λ (later : List Event). IsHeard asked start.bus before cycle later) parts heard in
      let whole : (before ++ (cycle ++ so)) ++ one.event ∷ [] ≡ before ++ (cycle ++ on) = append_assoc before (cycle ++ so) (one.event ∷ []) ∙ ap (λ (events : List Event). before ++ events) (append_assoc cycle so (one.event ∷ [])) in
      let run_begun : HasHeard (before ++ (cycle ++ so)) start begun = heard_still (before ++ (cycle ++ so)) start s begun run layout in
      let has_begun : begun.railway ≡ Some r = layout.railway ∙ has in
      let run_then : HasHeard (before ++ (cycle ++ on)) start mid =
      subst (λ (events : List Event). HasHeard events start mid) whole (heard_one laws (before ++ (cycle ++ so)) one.event one.observed start begun mid kept run_begun step) in
      let nodes : List Node = running_in one.event begun.nodes mid.nodes in
      let here = drives so begun (so_far asked start.bus before cycle so (one.event ∷ events_of more) heard) run_begun in
      let behind = drives on mid (so_far asked start.bus before cycle on (events_of more) heard_then) run_then in
      let same : mid.railway ≡ happened_to (happening_in begun nodes one.event) (Some r) =
      step.railway ∙ after-is begun nodes one.event ∙ ap (λ (o : Option RailwayState). happened_to (happening_in begun nodes one.event) o) has_begun in
      let ran : Ran train asked.node (wanted_of asked) r (run_time_in begun.bus (events_of (one ∷ more))) new =
      joined train asked.node (wanted_of asked) r (run_time begun.bus one.event) (run_time_in (after_event begun.bus one.event) (events_of more)) mid new (happening_in begun nodes one.event) same
      (subst (λ (o : Option RailwayState). IsLeftAlone train (wanted_of asked) (run_time_in begun.bus (events_of (one ∷ more))) (happening_in begun nodes one.event) o) has_begun runs.4)
      (takes asked.node (wanted_of asked) begun mid one.event here behind)
      (λ now is. subst (λ (bus : BusState). Ran train asked.node (wanted_of asked) now (run_time_in bus (events_of more)) new) step.bus (goes train more on mid new now heard_then run_then is runs.5)) in
      subst (λ (bus : BusState). Ran train asked.node (wanted_of asked) r (run_time_in bus (events_of (one ∷ more))) new) layout.bus ran

pub slider_reaches_rail : Laws → RunsOn → SoFar → RunsAsDriven → SliderReachesRail
slider_reaches_rail laws goes_on so_far as_driven asked before cycle later start settled new none kept desk below stands heard run train no_train r has railway within own runs =
    let so_far_heard : HasHeard (before ++ cycle) start settled = record { legal = run.legal; bus = run.bus; nodes = run.nodes } in
    let none_yet : cycle ++ [] ≡ cycle = append-nil cycle in
    let ran = goes laws goes_on so_far asked before cycle start none kept desk below stands train later [] settled new r heard (subst (λ (events : List Event). HasHeard (before ++ events) start settled) (sym none_yet) so_far_heard) has runs in
    let t : TrainState = slice_index_or r.trains train no_train in
    let now : RailwayState = after_all r ran.happenings in (
      now,
      ran.there,
      subst (λ (micros : ℕ). HasRun r.network (wanted_of asked) micros t (slice_index_or now.trains train no_train)) ran.time
          (as_driven r ran.happenings train no_train (wanted_of asked) railway within ran.alone
          (subst (λ (decoder : ℕ). AreDrivenBy decoder (wanted_of asked) ran.happenings) (sym own) ran.driven)),
    )

pub rounds_reach_rail : SliderReachesRail → RoundsReachRail
rounds_reach_rail reaches asked before cycle later start settled new none kept desk below stands heard run train no_train r has railway within own runs =
    reaches asked before cycle later start settled new none kept desk below stands heard run train no_train r has railway within own (rounds_leave_alone train (wanted_of asked) later settled new runs)
