-- The state of a decoder is complete, as its line requires.
use Rattle.std.proofs.Common.{◌≡◌, ◌<◌, ℕ, List, length, Option, map, refl}
use Rattle.std.proofs.lemmas.List.{get_or-map}
use Rattle.std.specs.List.{slice_index_or}
use Rattle.decoder_node.specs.declared.node.NodeSpec.{NodeSpec}
use Rattle.decoder_node.specs.declared.running.Running.{Running}
use Rattle.layout_core.specs.declared.node.Node.{Node}
use Rattle.layout_core.specs.declared.node.Node.TheVariants.{Loco, Accessory}
use Rattle.layout_core.specs.Nodes.{node_of, outputs_of, running_of, spec_of}
use Rattle.show_text.specs.Nodes.{IsStateOf}

state_of_node : (node : Node) → IsStateOf (spec_of node) (running_of node) (outputs_of node)
state_of_node (Loco loco) = refl
state_of_node (Accessory accessory) = refl

pub told_at : (nodes : List Node) (i : ℕ) (none : NodeSpec) (running : Option Running) (outputs : Option ℕ) → i < length nodes
    → ((other : Node) → running ≡ running_of (slice_index_or nodes i other)) → ((other : Node) → outputs ≡ outputs_of (slice_index_or nodes i other))
    → IsStateOf (slice_index_or (map spec_of nodes) i none) running outputs
told_at nodes i none running outputs inside runs switches =
    let other : Node = node_of none in
    rw (get_or-map spec_of nodes i other none inside, runs other, switches other) (state_of_node (slice_index_or nodes i other))
