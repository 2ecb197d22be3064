use Rattle.std.proofs.Common.{◌≡◌, ◌<◌, ℕ, List, length}
use Rattle.std.specs.Prelude.{All}
use Rattle.std.specs.Io.KnownBytes.{Appends}
use Rattle.bus_log.specs.LogQueues.{WritesQueued}
use Rattle.bus_log.proofs.log_output.write_queued.Given as goal

-- so far it was written, each write took bytes, and none has failed
abbrev pub invariant-loop-write : goal.invariant-loop-write
invariant-loop-write g l = record {
  written : WritesQueued l.fn.log l.log (g.T.LogOutput.written l.fn.output) (g.T.LogOutput.written l.output);
  taken : (counts : List ℕ) × All (λ count. 0 < count) counts × Appends (g.T.LogOutput.counts l.fn.output) (g.T.LogOutput.counts l.output) counts × (length counts ≡ l._write);
  failed : g.T.LogOutput.failed l.output ≡ g.T.LogOutput.failed l.fn.output;
}
