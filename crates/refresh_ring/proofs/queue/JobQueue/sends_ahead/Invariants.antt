use Rattle.std.proofs.Common.{◌≡◌, ◌+◌}
use Rattle.std.specs.Option.{option_map}
use Rattle.refresh_ring.specs.Jobs.{sends_ahead, sends_in}
use Rattle.refresh_ring.proofs.queue.JobQueue.sends_ahead.Given as goal

abbrev pub invariant-loop-job : goal.invariant-loop-job
invariant-loop-job l = record {
  sends : option_map (λ n. l.ahead + n) (sends_ahead l.slot l.kind l.job-iterator) ≡ sends_ahead l.slot l.kind l.initial.job-iterator;
  bound : l.ahead + sends_in l.job-iterator ≡ sends_in l.initial.job-iterator;
}
