use Rattle.std.proofs.Common.{[], ◌∷◌, sym, subst}
use Rattle.layout_core.specs.declared.node.Node.{Node}
use Rattle.layout_core.specs.declared.node.Node.TheVariants.{Accessory, Loco}
use Rattle.layout_core.specs.Hearing.{HeardHalves}
use Rattle.layout_core.proofs.node.Node.hear_half.Goals as goal

pub returns-in-Loco : goal.returns-in-Loco
returns-in-Loco c = subst (λ (n : Node). HeardHalves (c.args.half ∷ []) n (Loco c.hear.new.self)) (sym c.in-Loco.is) c.hear.ensures.heard

pub returns-in-Accessory : goal.returns-in-Accessory
returns-in-Accessory c = subst (λ (n : Node). HeardHalves (c.args.half ∷ []) n (Accessory c.hear-in-Accessory.new.self)) (sym c.in-Accessory.is) c.hear-in-Accessory.ensures.heard
