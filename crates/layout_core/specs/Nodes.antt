-- The decoders of a layout.
use Rattle.std.specs.Prelude.{ℕ, ◌==◌, Bool, Option, Some, None}
use Rattle.std.specs.Int.{bit_at}
use Rattle.decoder_node.specs.declared.node.NodeSpec.{NodeSpec}
use Rattle.decoder_node.specs.declared.node.NodeSpec.TheVariants.{Loco as LocoSpec, Accessory as AccessorySpec}
use Rattle.decoder_node.specs.declared.running.Running.{Running}
use Rattle.decoder_node.specs.Decoder.{fresh, IsBetween as IsBetweenPackets}
use Rattle.decoder_node.specs.Running.{first_running}
use Rattle.layout_core.specs.declared.node.Node.{Node}
use Rattle.layout_core.specs.declared.node.Node.TheVariants.{Loco, Accessory}

-- a new node: it has heard nothing, a locomotive is stopped, and all outputs are off
abbrev pub node_of : NodeSpec → Node
node_of (LocoSpec cv) = Loco (fresh cv first_running)
node_of (AccessorySpec number) = Accessory (fresh number 0)

-- what it was made from, which nothing changes
abbrev pub spec_of : Node → NodeSpec
spec_of (Loco loco) = LocoSpec loco.settings
spec_of (Accessory accessory) = AccessorySpec accessory.settings

-- how it runs, if it is a locomotive
abbrev pub running_of : Node → Option Running
running_of (Loco loco) = Some loco.state
running_of (Accessory accessory) = None

-- its outputs, if it is an accessory decoder
abbrev pub outputs_of : Node → Option ℕ
outputs_of (Loco loco) = None
outputs_of (Accessory accessory) = Some accessory.state

-- no packet is under way
abbrev pub IsBetween : Node → Type 0
IsBetween (Loco loco) = IsBetweenPackets loco
IsBetween (Accessory accessory) = IsBetweenPackets accessory

-- bit i of `missed` is set where node i misses the packet
abbrev pub is_missed : ℕ → ℕ → Bool
is_missed missed i = bit_at missed i == 1
