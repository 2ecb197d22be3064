use Rattle.std.proofs.Common.{◌≡◌, length}
use Rattle.std.specs.List.{list_any}
use Rattle.explain.specs.Parts.{begins_whole, parts_of}
use Rattle.explain.proofs.parts.has_whole.Given as goal

abbrev pub invariant-loop-rest : goal.invariant-loop-rest
invariant-loop-rest l = list_any begins_whole (parts_of l.rest) ≡ list_any begins_whole (parts_of l.bytes)

abbrev pub decreases-loop-rest : goal.decreases-loop-rest
decreases-loop-rest l = length l.rest
