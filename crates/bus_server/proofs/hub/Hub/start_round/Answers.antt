use Rattle.std.proofs.Common.{ℕ, List, None, ap, length, ◌∙◌, ◌++◌}
use Rattle.std.specs.List.{list_all, slice_index_or}
use Rattle.arrayvec.specs.ArrayVec.{ArrayVec}
use Rattle.bus_server.specs.declared.named_node.NamedNode.{NamedNode}
use Rattle.bus_server.specs.Answers.{lines_of, next_line}
use Rattle.bus_server.specs.NamedNodes.{names_of, specs_of}
use Rattle.bus_server.specs.TrackDue.{due_to, turns_answer}
use Rattle.bus_server.specs.SendQueue.{is_within_capacity}
use Rattle.bus_server.proofs.Placing.{length-enqueued, within_capacity-all}
use Rattle.bus_server.proofs.hub.Hub.start_round.Goals as goal

pub invariant_of-self : goal.invariant_of-self
invariant_of-self c =
    let old = c.args.self.now in
    let text : ℕ → List ℕ = λ client. next_line (lines_of (names_of old.answers.nodes.items) c.world.result.now.nodes old.sensors.railway) old.sensors.programming (slice_index_or old.answers.under_way client None) ++ turns_answer (due_to old.track_due.turns client) in
    record {
      eight = ap length c.enqueue_lines.ensures ∙ length-enqueued 0 text old.queues ∙ old.eight;
      within_capacity = ap (list_all is_within_capacity) c.enqueue_lines.ensures ∙ within_capacity-all 0 text old.queues;
      first = old.first;
      paced = old.paced;
      named = ap (λ (nodes : ArrayVec NamedNode). specs_of nodes.items) c.advance.ensures.nodes ∙ old.named;
    }
