use Rattle.std.proofs.Common.{◌≡◌, ◌<◌, ◌∙◌, ℕ, List, [], ◌∷◌, length, map, get_or, ap, sym, arith}
use Rattle.std.proofs.lemmas.List.{get_or-map, length-map, map-append}
use Rattle.decoder_node.specs.declared.node.NodeSpec.{NodeSpec}
use Rattle.roster.specs.Entry.{Entry, name_of, spec_of as entry_spec}
use Rattle.bus_server.specs.declared.named_node.NamedNode.{NamedNode}
use Rattle.bus_server.specs.NamedNodes.{names_of as named_names, specs_of as named_specs}
use Rattle.bus_log.proofs.Changed.{taken_more}
use Rattle.bus_log.proofs.printer.named.Goals as goal

pub loop-i-preserved : goal.loop-i-preserved
loop-i-preserved c =
    let i = c.loop-i.i in
    let entries : List Entry = c.args.roster.now in
    let specs : List NodeSpec = c.as_slice-spec-items.result.now in
    let so_far : List NamedNode = c.loop-i.decoders.items in
    let decoder : NamedNode = c.new.result in
    let spec : NodeSpec = c.spec-item.result in
    let none : Entry = record { name = []; spec = spec } in
    let are : specs ≡ map entry_spec entries = c.as_slice-spec-items.ensures.value ∙ c.nodes.ensures.nodes in
    let below : i < length specs = c.loop-i-test.true in
    let inside : i < length entries = omega (arith, below, ap length are, length-map entries entry_spec) in
    let of_spec : decoder.spec ≡ get_or (map entry_spec entries) i decoder.spec =
    c.new.ensures.spec ∙ c.spec-item.is ∙ ap (λ (all : List NodeSpec). get_or all i spec) are ∙ ap (λ (s : NodeSpec). get_or (map entry_spec entries) i s) (sym c.new.ensures.spec) in
    let name : List ℕ = decoder.name.bytes in
    let of_name : name ≡ get_or (map name_of entries) i name = c.new.ensures.name ∙ c.name.ensures.value none ∙ sym (get_or-map name_of entries i none name inside) in
    record {
      specs = ap named_specs c.push.ensures.items ∙ map-append (λ (node : NamedNode). node.spec) so_far (decoder ∷ [])
          ∙ taken_more (map entry_spec entries) i (named_specs so_far) decoder.spec (omega (arith, inside, length-map entries entry_spec)) c.loop-i.invariant.specs of_spec;
      names = ap named_names c.push.ensures.items ∙ map-append (λ (node : NamedNode). node.name.bytes) so_far (decoder ∷ [])
          ∙ taken_more (map name_of entries) i (named_names so_far) name (omega (arith, inside, length-map entries name_of)) c.loop-i.invariant.names of_name;
    }
