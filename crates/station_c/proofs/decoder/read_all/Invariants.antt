use Rattle.std.proofs.Common.{◌≡◌, ◌≤◌, List, ◌++◌, option_map, length, drop}
use Rattle.decoder_node.specs.declared.node.NodeSpec.{NodeSpec}
use Rattle.station_c.specs.Decoder.{specs_of}
use Rattle.station_c.proofs.decoder.read_all.Given as goal

-- the decoders so far and those of the other descriptions are those of all descriptions
abbrev pub invariant-loop-decoder : goal.invariant-loop-decoder
invariant-loop-decoder l = record {
  count : length l.nodes.items ≡ l.decoder-index;
  few : length l.decoders ≤ 64;
  rest : option_map (λ (specs : List NodeSpec). l.nodes.items ++ specs) (specs_of (drop l.decoder-index l.decoders)) ≡ specs_of l.decoders;
}
