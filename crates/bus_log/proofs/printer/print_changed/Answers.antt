use Rattle.std.proofs.Common.{◌≡◌, ◌<◌, ◌∙◌, ℕ, List, [], None, length, map, get_or, ap, ap₂, sym, arith}
use Rattle.std.proofs.lemmas.List.{get_or-map, length-map}
use Rattle.decoder_node.specs.declared.node.NodeSpec.{NodeSpec}
use Rattle.layout_core.specs.declared.decoder_state.DecoderState.{DecoderState}
use Rattle.layout_core.specs.declared.node.Node.{Node}
use Rattle.layout_core.specs.Nodes.{node_of, spec_of}
use Rattle.layout_core.specs.DecoderStates.{decoder_line, decoder_state_of}
use Rattle.roster.specs.Entry.{Entry, spec_of as entry_spec}
use Rattle.bus_log.specs.LogQueues.{after_lines}
use Rattle.bus_log.proofs.Changed.{changed, line_if, rest_more, unchanged}
use Rattle.bus_log.proofs.printer.print_changed.Goals.{then-not-is_same, else-not-is_same}
use Rattle.bus_log.proofs.printer.print_changed.Goals as goal

pub loop-i-preserved : goal.loop-i-preserved
loop-i-preserved c =
    let i = c.loop-i.i in
    let entries : List Entry = c.args.roster.now in
    let before : List DecoderState = c.args.before.now in
    let nodes : List Node = c.args.world.now.nodes in
    let specs : List NodeSpec = c.as_slice-spec-items.result.now in
    let spec : NodeSpec = c.spec-item.result in
    let none : Entry = record { name = []; spec = spec } in
    let unknown : DecoderState = record { running = None; outputs = None } in
    let last : DecoderState = get_or before i unknown in
    let now : DecoderState = c.decoder_state-now.result in
    let are : specs ≡ map entry_spec entries = c.as_slice-spec-items.ensures.value ∙ c.nodes.ensures.nodes in
    let below : i < length specs = c.loop-i-test.true in
    let inside : i < length entries = omega (arith, below, ap length are, length-map entries entry_spec) in
    let count : length nodes ≡ length entries = sym (length-map nodes spec_of) ∙ ap length c.requires.decoders ∙ length-map entries entry_spec in
    let all : length (map decoder_state_of nodes) ≡ length entries = length-map nodes decoder_state_of ∙ count in
    let listens : i < length nodes = omega (arith, inside, count) in
    let stands : get_or (map decoder_state_of nodes) i now ≡ now = get_or-map decoder_state_of nodes i (node_of spec) now listens ∙ sym (c.decoder_state-now.ensures.decoder_state (node_of spec)) in
    let entry : Entry = get_or entries i none in
    let one : c.if-not-is_same.log ≡ after_lines c.loop-i.log (line_if entry last now) = elim c.if-not-is_same.branch [
      | then-not-is_same w ↦
          let of_entry : spec ≡ entry.spec = c.spec-item.is ∙ ap (λ (ss : List NodeSpec). get_or ss i spec) are ∙ get_or-map entry_spec entries i none spec inside in
          let line : w.line.result.bytes ≡ decoder_line entry.name entry.spec now =
          w.line.ensures ∙ ap₂ (λ (name : List ℕ) (s : NodeSpec). decoder_line name s now) (w.name.ensures.value none) of_entry in
          w.log-is ∙ w.print_line.ensures ∙ changed entry last now w.line.result.bytes c.loop-i.log (sym c.is_same.ensures ∙ w.if-not-is_same.true) line
      | else-not-is_same w ↦ w.log-is ∙ unchanged entry last now c.loop-i.log (sym c.is_same.ensures ∙ w.if-not-is_same.false)
    ] in
    rest_more c.loop-i.log c.if-not-is_same.log entries before (map decoder_state_of nodes) i none unknown now inside c.requires.as_many all
    (one ∙ ap (λ (s : DecoderState). after_lines c.loop-i.log (line_if entry last s)) (sym stands))
    ∙ c.loop-i.invariant
