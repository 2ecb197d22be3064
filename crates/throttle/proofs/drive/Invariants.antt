use Rattle.layout_core.specs.World.{IsSameLayout}
use Rattle.throttle.proofs.drive.Given as goal

abbrev pub invariant-loop-turn : goal.invariant-loop-turn
invariant-loop-turn l = IsSameLayout l.fn.world l.world
