use Rattle.layout_core.proofs.Each.{each_count, each_heard, each_specs}
use Rattle.layout_core.proofs.nodes.Nodes.hear.Goals as goal

pub returns-clause-count : goal.returns-clause-count
returns-clause-count c =
    rw (← c.self.view_is) (each_count c.self.inside.nodes.items c.as_mut_slice.result.now c.hear_each.new.nodes c.as_mut_slice.ensures.value c.hear_each.auto.nodes)

pub returns-clause-specs : goal.returns-clause-specs
returns-clause-specs c =
    rw (← c.self.view_is) (each_specs c.self.inside.nodes.items c.as_mut_slice.result.now c.hear_each.new.nodes c.as_mut_slice.ensures.value c.hear_each.auto.nodes c.hear_each.ensures.specs)

pub returns-clause-each : goal.returns-clause-each
returns-clause-each c =
    rw (← c.self.view_is)
    (each_heard c.self.inside.nodes.items c.as_mut_slice.result.now c.hear_each.new.nodes c.as_mut_slice.ensures.value c.hear_each.auto.nodes c.args.missed c.args.packet.now c.hear_each.ensures.each)
