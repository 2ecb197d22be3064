-- The decoders of a layout under their names.
use Rattle.std.specs.Prelude.{ℕ, List, map}
use Rattle.decoder_node.specs.declared.node.NodeSpec.{NodeSpec}
use Rattle.bus_server.specs.declared.named_node.NamedNode.{NamedNode}

abbrev pub names_of : List NamedNode → List (List ℕ)
names_of nodes = map (λ node. node.name.bytes) nodes

abbrev pub specs_of : List NamedNode → List NodeSpec
specs_of nodes = map (λ node. node.spec) nodes
