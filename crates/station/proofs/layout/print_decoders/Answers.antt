use Rattle.std.proofs.Common.{arith, ◌≡◌, ◌≤◌, ◌+◌, ◌++◌, ◌∙◌, drop, length, take, List, ℕ, map, ap, sym, subst}
use Rattle.std.proofs.lemmas.List.{length-map, take_all}
use Rattle.std.specs.Io.KnownBytes.{Appends}
use Rattle.decoder_node.specs.declared.node.NodeSpec.{NodeSpec}
use Rattle.layout_core.specs.Nodes.{spec_of}
use Rattle.roster.specs.Entry.{spec_of as spec_of_entry}
use Rattle.input_text.specs.Write.{AppendsFront}
use Rattle.console.specs.Printed.{ended, lines_text}
use Rattle.layout_core.specs.DecoderStates.{decoder_state_of}
use Rattle.show_text.specs.Nodes.{IsStateOf}
use Rattle.std.specs.List.{slice_index_or}
use Rattle.station.specs.Printed.{decoder_lines}
use Rattle.station.proofs.Printing.{lines_around, on_err, one_line_more}
use Rattle.station.proofs.DecoderLines.{length-decoder_lines, told_there}
use Rattle.station.proofs.layout.print_decoders.Goals as goal

pub line-line-requires-clause-kind : goal.line-line-requires-clause-kind
line-line-requires-clause-kind g c =
    let same : map spec_of c.args.world.now.nodes ≡ c.as_slice-spec-items.result.now = c.requires ∙ sym c.nodes.ensures.nodes ∙ sym c.as_slice-spec-items.ensures.value in
    subst (λ (s : NodeSpec). IsStateOf s c.decoder_state.result.running c.decoder_state.result.outputs) (ap (λ (ss : List NodeSpec). slice_index_or ss c.loop-i.i c.spec-item.result) same ∙ sym c.spec-item.is) (c.decoder_state.ensures.kind c.spec-item.result)

pub loop-i-preserved : goal.loop-i-preserved
loop-i-preserved g c =
    let lines = decoder_lines c.args.roster.now (map decoder_state_of c.args.world.now.nodes) in
    let reported = told_there c.args.roster.now c.args.world.now.nodes c.as_slice-spec-items.result.now c.loop-i.i c.name.result.now c.spec-item.result c.decoder_state.result c.line-line.result.bytes
    (c.as_slice-spec-items.ensures.value ∙ c.nodes.ensures.nodes) c.requires c.loop-i-test.true c.spec-item.is c.name.ensures.value c.decoder_state.ensures.decoder_state c.line-line.ensures in
    record {
      printed =
          one_line_more lines c.loop-i.i c.line-line.result.bytes (g.O.Sink.held c.args.output.now) (g.O.Sink.held c.loop-i.output) (g.O.Sink.held c.print.new.output)
          reported.0 reported.1 c.loop-i.invariant.printed c.in_ok-print.ensures.printed;
      failed = ◌∙◌ {b = g.O.Sink.failed c.loop-i.output} c.in_ok-print.ensures.failed c.loop-i.invariant.failed;
      loan = ◌∙◌ {b = g.O.Sink.loan c.loop-i.output} c.print.ensures.same c.loop-i.invariant.loan;
    }

pub returns-in_err-print-clause-front : goal.returns-in_err-print-clause-front
returns-in_err-print-clause-front g c =
    let lines = decoder_lines c.args.roster.now (map decoder_state_of c.args.world.now.nodes) in
    let reported = told_there c.args.roster.now c.args.world.now.nodes c.as_slice-spec-items.result.now c.loop-i.i c.name.result.now c.spec-item.result c.decoder_state.result c.line-line.result.bytes
    (c.as_slice-spec-items.ensures.value ∙ c.nodes.ensures.nodes) c.requires c.loop-i-test.true c.spec-item.is c.name.ensures.value c.decoder_state.ensures.decoder_state c.line-line.ensures in
    let held = g.O.Sink.held in
    let before = c.loop-i.output in
    let behind = lines_text (drop (c.loop-i.i + 1) lines) in
    on_err c.from_residual.result _
    (subst (λ (text : List ℕ). AppendsFront (held c.args.output.now) (held c.print.new.output) text) (sym (lines_around lines c.loop-i.i c.line-line.result.bytes reported.0 reported.1))
    (c.fronts.ensures.behind (held c.args.output.now) (held before) (held c.print.new.output) (lines_text (take c.loop-i.i lines)) (ended c.line-line.result.bytes ++ behind) c.loop-i.invariant.printed
    (c.fronts.ensures.before (held before) (held c.print.new.output) (ended c.line-line.result.bytes) behind c.in_err-print.ensures.front)))

pub returns : goal.returns
returns g c =
    let nodes = c.args.world.now.nodes in
    let entries = c.args.roster.now in
    let specs : List NodeSpec = c.as_slice-spec-items.result.now in
    let are : specs ≡ map spec_of_entry entries = c.as_slice-spec-items.ensures.value ∙ c.nodes.ensures.nodes in
    let over : length specs ≤ c.loop-i.i = c.loop-i-test.false in
    let as_many : length (map decoder_state_of nodes) ≡ length entries = length-map nodes decoder_state_of ∙ sym (length-map nodes spec_of) ∙ ap length c.requires ∙ length-map entries spec_of_entry in
    let so_many : length (decoder_lines entries (map decoder_state_of nodes)) ≡ length entries = length-decoder_lines entries (map decoder_state_of nodes) as_many in
    let all : length (decoder_lines entries (map decoder_state_of nodes)) ≤ c.loop-i.i = omega (arith, over, so_many, ap length are, length-map entries spec_of_entry) in
    record {
      printed = subst (λ (lines : List (List ℕ)). Appends (g.O.Sink.held c.args.output.now) (g.O.Sink.held c.loop-i.output) (lines_text lines)) (take_all c.loop-i.i (decoder_lines entries (map decoder_state_of nodes)) all) c.loop-i.invariant.printed;
      front = tt;
      failed = c.loop-i.invariant.failed;
      loan = c.loop-i.invariant.loan;
    }
