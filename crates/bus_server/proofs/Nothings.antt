-- A byte that completes no request changes no queue, and makes no turns due.
use Rattle.std.proofs.Common.{◌≡◌, ℕ, List, [], Option, None, Some, refl, ap, ◌∙◌}
use Rattle.bus.specs.declared.outcome.Outcome.{Outcome}
use Rattle.bus.specs.declared.outcome.Outcome.TheVariants.{Nothing}
use Rattle.loconet_tcp.specs.declared.request.Request.{Request}
use Rattle.loconet_tcp.specs.declared.request.Request.TheVariants.{Invalid, States, Place, Device, Send, Turns}
use Rattle.railway.specs.Railway.{RailwayState}
use Rattle.bus.specs.declared.event.Event.TheVariants.{Receives}
use Rattle.bus.specs.Bus.{BusState, client_of, outcome_of, outcome_of_request, request_at}
use Rattle.bus_server.specs.ServerState.{LoggedEvent, RunsEventWithReports, ServerState, outcome_in}
use Rattle.bus_server.specs.SendQueues.{queues_after}
use Rattle.bus_server.specs.TrackDue.{due_after}
use Rattle.programming_track.specs.Bench.{BenchState}
use Rattle.bus_server.specs.Placement.{answered}
use Rattle.bus_server.specs.Programming.{programmed}
use Rattle.bus_server.specs.Sensors.{reports_due}
use Rattle.bus_server.proofs.Keeping.{alone}

nothing_of : (programming : Option BenchState) (names : List (List ℕ)) (railway : Option RailwayState) (bus : BusState) (client : ℕ) (request : Option Request) → programmed programming railway (answered names railway (outcome_of_request bus client request)) ≡ Nothing
    → outcome_of_request bus client request ≡ Nothing
nothing_of programming names railway bus client None h = refl
nothing_of programming names railway bus client (Some (Invalid reason)) h = cc
nothing_of programming names railway bus client (Some (Send message)) h = cc
nothing_of programming names railway bus client (Some (Turns count)) h = cc
nothing_of programming names railway bus client (Some (States things)) h = cc
nothing_of programming names railway bus client (Some (Place placement)) h = cc
nothing_of programming names railway bus client (Some (Device request)) h = cc

pub nothing_received : (client byte : ℕ) (applied : List LoggedEvent) (old new : ServerState) → outcome_in old (Receives client byte) ≡ Nothing → RunsEventWithReports (Receives client byte) applied old new
    → (new.queues ≡ old.queues) × (new.turns_due ≡ old.turns_due)
nothing_received client byte applied old new none h =
    let nothing : outcome_of old.bus (Receives client byte) ≡ Nothing = nothing_of old.programming old.names old.railway old.bus client (request_at (client_of old.bus client) byte) none in
    let event = alone (Receives client byte) applied old new
    (λ observed after runs. runs.unreported.1 ∙ ap (λ (outcome : Outcome). reports_due old.names outcome old.railway []) nothing) h.1 h.2 in
    (event.1.queues ∙ ap (λ (outcome : Outcome). queues_after outcome old.queues) none, event.1.turns_due ∙ ap (λ (outcome : Outcome). due_after outcome old.pace old.turns_due) nothing)
