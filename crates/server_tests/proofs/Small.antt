-- Small things.
use Rattle.std.proofs.Common.{◌≡◌, List, [], ◌∷◌, map, refl}
use Rattle.layout_core.specs.declared.node.Node.{Node}
use Rattle.layout_core.specs.Nodes.{spec_of}

pub none_there : (nodes : List Node) → map spec_of nodes ≡ [] → nodes ≡ []
none_there [] h = refl
none_there (node ∷ nodes) h = cc
