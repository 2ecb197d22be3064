use Rattle.std.proofs.Common.{List, ◌+◌, subst, sym, arith, ◌∙◌}
use Rattle.std.proofs.lemmas.List.{set-get_or}
use Rattle.layout_core.specs.declared.node.Node.{Node}
use Rattle.layout_core.specs.Hearing.{HearsPacket}
use Rattle.layout_core.proofs.Each.{IsThrough, none_through, through_missed, through_heard}
use Rattle.layout_core.proofs.nodes.hear_each.Goals as goal
use Rattle.layout_core.proofs.nodes.hear_each.Goals.{then-not-is_missed, else-not-is_missed}

pub loop-i-init : goal.loop-i-init
loop-i-init c = none_through c.args.missed c.args.packet.now c.args.nodes.now

pub loop-i-preserved : goal.loop-i-preserved
loop-i-preserved c = elim c.if-not-is_missed.branch [
  | then-not-is_missed w ↦
      subst (λ (ns : List Node). IsThrough c.args.missed c.args.packet.now c.args.nodes.now ns (c.loop-i.i + 1)) (sym w.nodes-is)
      (through_heard c.args.missed c.args.packet.now c.args.nodes.now c.loop-i.nodes c.loop-i.i c.loop-i-test.true c.loop-i.invariant
      c.index-nodes-i.result w.hear.new.self c.index-nodes-i.is (subst (λ (n : Node). HearsPacket c.args.packet.now n w.hear.new.self) (sym c.index-nodes-i.is) w.hear.ensures.hears)
      (sym c.is_missed.ensures ∙ w.if-not-is_missed.true))
  | else-not-is_missed w ↦
      subst (λ (ns : List Node). IsThrough c.args.missed c.args.packet.now c.args.nodes.now ns (c.loop-i.i + 1)) (sym (w.nodes-is ∙ set-get_or c.loop-i.nodes c.loop-i.i c.index-nodes-i.result))
      (through_missed c.args.missed c.args.packet.now c.args.nodes.now c.loop-i.nodes c.loop-i.i c.loop-i-test.true c.loop-i.invariant (sym c.is_missed.ensures ∙ w.if-not-is_missed.false))
]

pub returns-clause-each : goal.returns-clause-each
returns-clause-each c i none h = c.loop-i.invariant.done i none (omega (arith, h)) h
