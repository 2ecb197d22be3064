use Rattle.std.proofs.Common.{◌≡◌, ◌∙◌, ap, length, refl, sym}
use Rattle.std.specs.List.{list_all}
use Rattle.bus.specs.declared.outcome.Outcome.{Outcome}
use Rattle.bus.specs.State.{bus_state}
use Rattle.bus_server.specs.Observations.{Observed}
use Rattle.bus_server.specs.SendQueue.{is_within_capacity}
use Rattle.bus_server.specs.Answers.{answers_after}
use Rattle.bus_server.specs.ServerState.{disconnected_after, first_after, outcome_in}
use Rattle.bus_server.specs.TrackDue.{due_after}
use Rattle.bus_server.specs.SendQueues.{names_client, queues_after}
use Rattle.arrayvec.specs.ArrayVec.{ArrayVec}
use Rattle.bus_server.specs.declared.named_node.NamedNode.{NamedNode}
use Rattle.bus_server.specs.NamedNodes.{names_of, specs_of}
use Rattle.bus_server.specs.DeviceReports.{queue_of}
use Rattle.bus_server.specs.Placement.{answered}
use Rattle.bus_server.specs.Programming.{programmed, programming_requested}
use Rattle.bus_server.specs.Snapshots.{state_of}
use Rattle.bus_server.specs.Sensors.{railway_requested, reports_due}
use Rattle.bus_server.proofs.Placing.{length-after, names-answered, names-programmed, placed_by, within_capacity-after}
use Rattle.bus_server.proofs.hub.Hub.step.Goals as goal

pub update-requires : goal.update-requires
update-requires c = ap names_client c.step-outcome.ensures.outcome ∙ placed_by (bus_state c.args.self.now.bus) c.args.event.now c.requires

pub update-requires-2 : goal.update-requires-2
update-requires-2 c = ap names_client c.step-outcome.ensures.outcome ∙ placed_by (bus_state c.args.self.now.bus) c.args.event.now c.requires

pub first_after-self-requires-clause-client : goal.first_after-self-requires-clause-client
first_after-self-requires-clause-client c = ap names_client c.step-outcome.ensures.outcome ∙ placed_by (bus_state c.args.self.now.bus) c.args.event.now c.requires

pub enqueue-requires : goal.enqueue-requires
enqueue-requires c =
    ap names_client c.answer-outcome.ensures.answered
    ∙ names-programmed c.args.self.now.sensors.programming c.args.self.now.sensors.railway (answered (names_of c.update.new.self.nodes.items) c.args.self.now.sensors.railway c.step-outcome.result)
    ∙ names-answered (names_of c.update.new.self.nodes.items) c.args.self.now.sensors.railway c.step-outcome.result
    ∙ ap names_client c.step-outcome.ensures.outcome ∙ placed_by (bus_state c.args.self.now.bus) c.args.event.now c.requires

pub invariant_of-self-2 : goal.invariant_of-self-2
invariant_of-self-2 c = record {
  eight = ap length c.enqueue.ensures ∙ length-after c.answer-outcome.result c.args.self.now.queues ∙ c.args.self.now.eight;
  first = c.first_after-self.ensures.client;
  within_capacity = ap (list_all is_within_capacity) c.enqueue.ensures ∙ within_capacity-after c.answer-outcome.result c.args.self.now.queues c.args.self.now.within_capacity;
  paced = c.args.self.now.paced;
  named = ap (λ (nodes : ArrayVec NamedNode). specs_of nodes.items) c.update.ensures.nodes ∙ c.args.self.now.named ∙ sym c.step-outcome.ensures.same.specs;
}

-- the outcome, with the answer
told : (c : goal.After-self-2-1) → c.answer-outcome.result ≡ outcome_in (state_of c.args.self.now) c.args.event.now
told c =
    let old = c.args.self.now in
    c.answer-outcome.ensures.answered
    ∙ ap (λ (nodes : ArrayVec NamedNode). programmed old.sensors.programming old.sensors.railway (answered (names_of nodes.items) old.sensors.railway c.step-outcome.result)) c.update.ensures.nodes
    ∙ ap (λ (outcome : Outcome). programmed old.sensors.programming old.sensors.railway (answered (names_of old.answers.nodes.items) old.sensors.railway outcome)) c.step-outcome.ensures.outcome

pub returns-clause-outcome : goal.returns-clause-outcome
returns-clause-outcome c = told c

pub returns-clause-runs : goal.returns-clause-runs
returns-clause-runs c =
    let old = c.args.self.now in
    let outcome = c.step-outcome.ensures.outcome in
    record {
      legal = c.requires;
      bus = c.step-outcome.ensures.bus;
      nodes = c.step-outcome.ensures.nodes;
      railway = c.answer-outcome.ensures.railway
          ∙ ap (λ (nodes : ArrayVec NamedNode). railway_requested (names_of nodes.items) c.step-outcome.result old.sensors.railway) c.update.ensures.nodes
          ∙ ap (λ (outcome : Outcome). railway_requested (names_of old.answers.nodes.items) outcome old.sensors.railway) outcome;
      programming = c.answer-outcome.ensures.programming ∙ ap (λ (outcome : Outcome). programming_requested outcome old.sensors.programming) outcome;
      unreported = c.answer-outcome.ensures.unreported
          ∙ ap (λ (nodes : ArrayVec NamedNode). reports_due (names_of nodes.items) c.step-outcome.result old.sensors.railway (queue_of old.sensors.unreported)) c.update.ensures.nodes
          ∙ ap (λ (outcome : Outcome). reports_due (names_of old.answers.nodes.items) outcome old.sensors.railway (queue_of old.sensors.unreported)) outcome;
      queues = c.enqueue.ensures ∙ ap (λ (outcome : Outcome). queues_after outcome old.queues) (told c);
      names = ap (λ (nodes : ArrayVec NamedNode). names_of nodes.items) c.update.ensures.nodes;
      answers = c.update.ensures.under_way ∙ ap (λ (outcome : Outcome). answers_after outcome old.answers.under_way) outcome;
      turns_due = c.update-2.ensures.turns ∙ ap (λ (outcome : Outcome). due_after outcome old.pace old.track_due.turns) outcome;
      time_due = c.update-2.ensures.micros;
      losses = refl;
      pace = refl;
      first_client = c.first_after-self.ensures.first ∙ ap (λ (outcome : Outcome). first_after outcome old.first_client) outcome;
      has_backlog = refl;
      disconnected = c.disconnected_after-self.ensures ∙ ap (λ (outcome : Outcome). disconnected_after outcome old.disconnected) outcome;
      saw = ap (λ (outcome : Outcome). Observed outcome c.step-outcome.new.self.world.nodes c.answer-outcome.new.self.railway) (told c);
    }
