use Rattle.std.proofs.Common.{◌≡◌, ◌∷◌, ◌+◌, ◌∙◌, ℕ, List, Option, drop, ap, subst}
use Rattle.std.proofs.lemmas.List.{drop_more}
use Rattle.std.specs.List.{slice_index_or}
use Rattle.console.proofs.Printing.{HasPrinted, printed_more, printed_nothing, printed_one}
use Rattle.console.proofs.monitoring.print_messages.Goals as goal
use Rattle.console.proofs.monitoring.print_messages.Goals.{in-Some+in_ok-print, in_default}

pub loop-byte-preserved : goal.loop-byte-preserved
loop-byte-preserved g c =
    let byte : ℕ = slice_index_or c.args.bytes.now c.loop-byte.byte-index 0 in
    let rest : List ℕ = drop (c.loop-byte.byte-index + 1) c.args.bytes.now in
    let more : drop c.loop-byte.byte-index c.args.bytes.now ≡ byte ∷ rest = drop_more c.args.bytes.now c.loop-byte.byte-index 0 c.loop-byte-test.true in
    let old : Option (List ℕ) = g.O.Sink.held c.args.output.now in
    let now : Option (List ℕ) = g.O.Sink.held c.loop-byte.output in
    let has : HasPrinted c.args.bytes.now c.loop-byte.framer (byte ∷ rest) old now = subst (λ (bs : List ℕ). HasPrinted c.args.bytes.now c.loop-byte.framer bs old now) more c.loop-byte.invariant.printed in
    record {
      printed =
          printed_more c.args.bytes.now c.loop-byte.framer byte rest old now (g.O.Sink.held c.match-push.output) _ c.push.new.self has c.push.ensures.given c.push.ensures.unfinished
          (elim c.match-push.branch [
            | in-Some+in_ok-print w ↦ printed_one now (g.O.Sink.held c.match-push.output) (g.O.Sink.held w.print.new.output) _ w.in-Some.message w.message_line.result.bytes w.in-Some.is w.message_line.ensures (ap g.O.Sink.held w.output-is) w.in_ok-print.ensures.printed
            | in_default w ↦ printed_nothing now (g.O.Sink.held c.match-push.output) _ w.in_default.is (ap g.O.Sink.held w.output-is)
          ]);
      failed = elim c.match-push.branch [
        | in-Some+in_ok-print w ↦ ◌∙◌ {b = g.O.Sink.failed w.print.new.output} (ap g.O.Sink.failed w.output-is) (◌∙◌ {b = g.O.Sink.failed c.loop-byte.output} w.in_ok-print.ensures.failed c.loop-byte.invariant.failed)
        | in_default w ↦ ap g.O.Sink.failed w.output-is ∙ c.loop-byte.invariant.failed
      ];
      same = elim c.match-push.branch [
        | in-Some+in_ok-print w ↦ ◌∙◌ {b = g.O.Sink.loan w.print.new.output} (ap g.O.Sink.loan w.output-is) (◌∙◌ {b = g.O.Sink.loan c.loop-byte.output} w.print.ensures.same c.loop-byte.invariant.same)
        | in_default w ↦ ap g.O.Sink.loan w.output-is ∙ c.loop-byte.invariant.same
      ];
    }
