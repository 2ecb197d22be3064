use Rattle.layout_core.specs.World.{IsSameLayout}
use Rattle.throttle.proofs.say.Given as goal

abbrev pub invariant-loop-byte : goal.invariant-loop-byte
invariant-loop-byte l = IsSameLayout l.fn.world l.world
