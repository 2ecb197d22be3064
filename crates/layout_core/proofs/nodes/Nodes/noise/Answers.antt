use Rattle.std.proofs.Common.{◌<◌, List, length, sym, subst}
use Rattle.layout_core.specs.declared.node.Node.{Node}
use Rattle.layout_core.proofs.Each.{half_specs}
use Rattle.layout_core.proofs.nodes.Nodes.noise.Goals as goal

pub returns-clause-specs : goal.returns-clause-specs
returns-clause-specs c =
    rw (← c.self.view_is)
    (half_specs c.self.inside.nodes.items c.as_mut_slice.result.now c.args.i c.args.half c.index-as_mut_slice-i.result c.hear_half.new.self c.as_mut_slice.ensures.value
    (subst (λ (nodes : List Node). c.args.i < length nodes) (sym c.self.view_is) c.requires) c.hear_half.ensures)
