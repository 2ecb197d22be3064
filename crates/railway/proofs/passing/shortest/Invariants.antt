use Rattle.std.proofs.Common.{◌≡◌, drop, None}
use Rattle.railway.specs.Passing.{shortest}
use Rattle.railway.proofs.passing.shortest.Given as goal

abbrev pub invariant-loop-block : goal.invariant-loop-block
invariant-loop-block l = shortest l.least (drop l.block-index l.blocks) ≡ shortest None l.blocks
