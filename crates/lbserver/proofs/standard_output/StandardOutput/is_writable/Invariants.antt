use Rattle.std.proofs.Common.{◌≡◌}
use Rattle.lbserver.proofs.standard_output.StandardOutput.is_writable.Given as goal

abbrev pub invariant-loop-part : goal.invariant-loop-part
invariant-loop-part g l = record {
  writer : l.self.writer ≡ l.fn.self.writer;
  failed : l.self.failed ≡ l.fn.self.failed;
}
