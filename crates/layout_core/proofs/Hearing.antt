-- How a node is made, and what it makes of a packet.
use Rattle.std.proofs.Common.{◌≡◌, ℕ, List, [], ◌∷◌, map, ap, ap₂, refl}
use Rattle.half_bits.specs.Halves.{halves_of}
use Rattle.decoder_node.specs.declared.node.NodeSpec.{NodeSpec}
use Rattle.decoder_node.specs.declared.node.NodeSpec.TheVariants.{Loco as LocoSpec, Accessory as AccessorySpec}
use Rattle.decoder_node.specs.Decoder.{AccessoryDecoder, LocoDecoder, IsBetween as IsBetweenPackets}
use Rattle.decoder_node.specs.Hearing.{Receives}
use Rattle.decoder_node.specs.Heard.{obeying}
use Rattle.decoder_node.specs.Obey.{obey, obeyed}
use Rattle.decoder_node.specs.Switched.{switch, switched}
use Rattle.layout_core.specs.declared.node.Node.TheVariants.{Loco, Accessory}
use Rattle.layout_core.specs.Nodes.{node_of, spec_of}
use Rattle.layout_core.specs.Hearing.{HearsPacket}

pub loco_hears : (packet : List ℕ) (old new : LocoDecoder) → Receives obeyed old (halves_of packet) new → IsBetweenPackets new → (IsBetweenPackets old → new.state ≡ obeying (obeyed old.settings) old.state packet)
    → HearsPacket packet (Loco old) (Loco new)
unfolding obey
loco_hears packet old new hears settles obeys = record { in_halves = hears.in_turn; kept = ap LocoSpec hears.kept; settles = settles; obeys = obeys }

pub accessory_hears : (packet : List ℕ) (old new : AccessoryDecoder) → Receives switched old (halves_of packet) new → IsBetweenPackets new → (IsBetweenPackets old → new.state ≡ obeying (switched old.settings) old.state packet)
    → HearsPacket packet (Accessory old) (Accessory new)
unfolding switch
accessory_hears packet old new hears settles obeys = record { in_halves = hears.in_turn; kept = ap AccessorySpec hears.kept; settles = settles; obeys = obeys }

made_from : (spec : NodeSpec) → spec_of (node_of spec) ≡ spec
made_from (LocoSpec cv) = refl
made_from (AccessorySpec number) = refl

pub all_made_from : (specs : List NodeSpec) → map spec_of (map node_of specs) ≡ specs
all_made_from [] = refl
all_made_from (spec ∷ specs) = ap₂ (λ (s : NodeSpec) (ss : List NodeSpec). s ∷ ss) (made_from spec) (all_made_from specs)
