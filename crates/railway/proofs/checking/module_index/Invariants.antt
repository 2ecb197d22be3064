use Rattle.std.proofs.Common.{◌≡◌, drop}
use Rattle.railway.specs.Decoders.{module_index}
use Rattle.railway.proofs.checking.module_index.Given as goal

abbrev pub invariant-loop-i : goal.invariant-loop-i
invariant-loop-i l = module_index l.number l.i (drop l.i l.decoders) ≡ module_index l.number 0 l.decoders
