-- The decoder of a description.
use Rattle.std.specs.Prelude.{nat_lt, List, [], ◌∷◌, length, Option, Some, None, Result, Ok, Err, if◌then◌else◌, option_map}
use Rattle.std.specs.Option.{option_and_then}
use Rattle.dcc_packet.specs.Module.{is_module}
use Rattle.decoder_cv.specs.Settings.{Settings, settings_of}
use Rattle.decoder_cv.specs.declared.cv_fault.CvFault.{CvFault}
use Rattle.decoder_node.specs.declared.node.NodeSpec.{NodeSpec}
use Rattle.decoder_node.specs.declared.node.NodeSpec.TheVariants.{Loco, Accessory}
use Rattle.station_c.specs.declared.decoder.Decoder.{Decoder}

abbrev pub loco_of : Result Settings CvFault → Option NodeSpec
loco_of (Ok cv) = Some (Loco cv)
loco_of (Err fault) = None

-- the module of an accessory decoder, or the four variables of a locomotive decoder; the other
-- fields are ignored
abbrev pub spec_of : Decoder → Option NodeSpec
spec_of decoder =
    if decoder.accessory then (if is_module decoder.module then Some (Accessory decoder.module) else None)
    else loco_of (settings_of decoder.cv1 decoder.cv17 decoder.cv18 decoder.cv29)

-- all of them, if each is valid
unfoldable pub specs_of : List Decoder → Option (List NodeSpec)
specs_of [] = Some []
specs_of (decoder ∷ decoders) = option_and_then (λ spec. option_map (λ specs. spec ∷ specs) (specs_of decoders)) (spec_of decoder)

-- and they are at most 64, the number of bits for decoders that miss a packet
abbrev pub nodes_of : List Decoder → Option (List NodeSpec)
nodes_of decoders = if nat_lt 64 (length decoders) then None else specs_of decoders
