use Rattle.std.proofs.Common.{◌≡◌, ◌++◌, take, drop, length}
use Rattle.bus.specs.Outcome.{text_for}
use Rattle.bus_server.specs.SendQueues.{enqueued_all, enqueued_from}
use Rattle.bus_server.proofs.hub.enqueue_all.Given as goal

-- the clients before this index have their text queued, and the others not yet
abbrev pub invariant-loop-place : goal.invariant-loop-place
invariant-loop-place l = record {
  outcome : take l.place l.queues ++ enqueued_from l.place (λ client. text_for client l.outcome) (drop l.place l.queues) ≡ enqueued_all l.outcome l.initial.queues;
  eight : length l.queues ≡ 8;
}
