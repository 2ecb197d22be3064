-- Decoders that are read one after another.
use Rattle.std.proofs.Common.{◌≡◌, ◌≤◌, Bool, if◌then◌else◌, le-ltb, length, List, [], ◌∷◌, ◌++◌, Option, Some, None, option_map, refl, ap, sym, ◌∙◌, append_assoc}
use Rattle.decoder_node.specs.declared.node.NodeSpec.{NodeSpec}
use Rattle.station_c.specs.declared.decoder.Decoder.{Decoder}
use Rattle.station_c.specs.Decoder.{nodes_of, spec_of, specs_of}
use Rattle.std.specs.Option.{option_and_then}

abbrev pub behind : List NodeSpec → Option (List NodeSpec) → Option (List NodeSpec)
behind done rest = option_map (λ (specs : List NodeSpec). done ++ specs) rest

behind_more : (done : List NodeSpec) (spec : NodeSpec) (rest : Option (List NodeSpec)) → behind (done ++ spec ∷ []) rest ≡ behind done (option_map (λ specs. spec ∷ specs) rest)
behind_more done spec None = refl
behind_more done spec (Some specs) = ap Some (append_assoc done (spec ∷ []) specs)

-- one that is invalid
pub refused : (done : List NodeSpec) (decoder : Decoder) (later : List Decoder) → spec_of decoder ≡ None → behind done (specs_of (decoder ∷ later)) ≡ None
unfolding specs_of
refused done decoder later none = ap (λ found. behind done (option_and_then (λ spec. option_map (λ specs. spec ∷ specs) (specs_of later)) found)) none

-- one that is valid
pub one_more : (done : List NodeSpec) (decoder : Decoder) (spec : NodeSpec) (later : List Decoder) → spec_of decoder ≡ Some spec → behind (done ++ spec ∷ []) (specs_of later) ≡ behind done (specs_of (decoder ∷ later))
unfolding specs_of
one_more done decoder spec later some =
    behind_more done spec (specs_of later)
    ∙ ap (λ found. behind done (option_and_then (λ (spec : NodeSpec). option_map (λ specs. spec ∷ specs) (specs_of later)) found)) (sym some)

-- and none remain
pub all_read : (done : List NodeSpec) → behind done (specs_of []) ≡ Some (done ++ [])
unfolding specs_of
all_read done = refl

pub few_enough : (decoders : List Decoder) → length decoders ≤ 64 → nodes_of decoders ≡ specs_of decoders
few_enough decoders few = ap (λ (b : Bool). if b then None else specs_of decoders) (le-ltb 64 (length decoders) few)
