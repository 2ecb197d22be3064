-- The decoders of a plan.
use Rattle.std.specs.Prelude.{ℕ, ◌+◌, ◌-◌, ◌==◌, Bool, false, true, if◌then◌else◌, List, [], ◌∷◌, Option, Some, None}
use Rattle.dcc_packet.specs.Sent.{module_of}
use Rattle.decoder_node.specs.declared.node.NodeSpec.{NodeSpec}
use Rattle.decoder_node.specs.declared.node.NodeSpec.TheVariants.{Loco, Accessory}

-- the decoder is one of a locomotive
abbrev pub is_loco : Option NodeSpec → Bool
is_loco None = false
is_loco (Some (Loco cv)) = true
is_loco (Some (Accessory number)) = false

-- the decoder is that of a module
abbrev pub is_module : (number : ℕ) → NodeSpec → Bool
is_module number (Loco cv) = false
is_module number (Accessory own) = own == number

-- the index of the first decoder of a module, from i on
abbrev pub module_index : (number i : ℕ) → List NodeSpec → Option ℕ
module_index number i [] = None
module_index number i (spec ∷ specs) =
    if is_module number spec then Some i else module_index number (i + 1) specs

-- The decoder that moves a turnout. Switch 1 is the first of module 1, which the packets call 0.
abbrev pub decoder_of : List NodeSpec → (switch : ℕ) → Option ℕ
decoder_of specs switch =
    if switch == 0 then None else module_index (module_of (switch - 1)) 0 specs
