-- The effect on the decoders of a layout of the packets that they hear.
use Rattle.std.specs.Prelude.{ℕ, ◌≡◌, Bool, true, false, List, [], ◌∷◌}
use Rattle.half_bits.specs.Halves.{halves_of}
use Rattle.decoder_node.specs.Hearing.{heard_all}
use Rattle.decoder_node.specs.Obey.{obeyed, runs}
use Rattle.decoder_node.specs.Switched.{switched, switches}
use Rattle.layout_core.specs.declared.node.Node.{Node}
use Rattle.layout_core.specs.declared.node.Node.TheVariants.{Loco, Accessory}
use Rattle.layout_core.specs.Nodes.{spec_of, IsBetween}

-- it obeyed these packets, one after another, and nothing else
abbrev pub Obeyed : List (List ℕ) → Node → Node → Type 0
Obeyed packets (Loco old) (Loco new) = new.state ≡ runs old.settings old.state packets
Obeyed packets (Accessory old) (Accessory new) = new.state ≡ switches old.settings old.state packets
Obeyed packets (Loco old) (Accessory new) = ⊥
Obeyed packets (Accessory old) (Loco new) = ⊥

-- its receiver heard these half-bits, one after another
abbrev pub HeardHalves : List ℕ → Node → Node → Type 0
HeardHalves halves (Loco old) (Loco new) = new ≡ heard_all obeyed old halves
HeardHalves halves (Accessory old) (Accessory new) = new ≡ heard_all switched old halves
HeardHalves halves (Loco old) (Accessory new) = ⊥
HeardHalves halves (Accessory old) (Loco new) = ⊥

-- The effect of a packet heard whole: that of all half-bits of it, one after another; no packet is
-- under way afterwards, whatever was heard before, and if none was under way before, the node
-- obeyed this packet.
pub record HearsPacket (packet : List ℕ) (old new : Node) : Type 0 where
  pub in_halves : HeardHalves (halves_of packet) old new
  pub kept : spec_of new ≡ spec_of old
  pub settles : IsBetween new
  pub obeys : IsBetween old → Obeyed (packet ∷ []) old new

-- a packet that the node misses leaves it as it is
abbrev pub AfterPacket : (is_missed : Bool) (packet : List ℕ) (old new : Node) → Type 0
AfterPacket true packet old new = new ≡ old
AfterPacket false packet old new = HearsPacket packet old new
