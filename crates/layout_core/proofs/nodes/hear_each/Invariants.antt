use Rattle.layout_core.proofs.Each.{IsThrough}
use Rattle.layout_core.proofs.nodes.hear_each.Given as goal

abbrev pub invariant-loop-i : goal.invariant-loop-i
invariant-loop-i l = IsThrough l.missed l.packet l.fn.nodes l.nodes l.i
