use Rattle.std.proofs.Common.{◌≡◌, ℕ, List, None, ◌++◌, take, drop, length}
use Rattle.std.specs.List.{slice_index_or}
use Rattle.bus_server.specs.Answers.{lines_of, next_line}
use Rattle.bus_server.specs.SendQueues.{enqueued_from}
use Rattle.bus_server.specs.TrackDue.{due_to, turns_answer}
use Rattle.bus_server.specs.NamedNodes.{names_of}
use Rattle.bus_server.proofs.hub.enqueue_lines.Given as goal

-- the clients before this index have their line queued, and the others not yet
abbrev pub invariant-loop-client : goal.invariant-loop-client
invariant-loop-client l =
    let line : ℕ → List ℕ = λ client. next_line (lines_of (names_of l.answers.nodes.items) l.world.nodes l.sensors.railway) l.sensors.programming (slice_index_or l.answers.under_way client None) ++ turns_answer (due_to l.track_due.turns client) in
    record {
      lines : take l.client l.queues ++ enqueued_from l.client line (drop l.client l.queues) ≡ enqueued_from 0 line l.initial.queues;
      eight : length l.queues ≡ 8;
    }
