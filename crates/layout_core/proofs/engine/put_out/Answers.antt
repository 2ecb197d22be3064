use Rattle.std.proofs.Common.{List, ℕ, refl, sym, ap, subst, ◌∙◌}
use Rattle.std.proofs.KnownBytes.{Appends-nil}
use Rattle.std.specs.Io.KnownBytes.{Appends}
use Rattle.station_core.specs.declared.call.Step.TheVariants.{Off, Packet, Reply}
use Rattle.input_text.specs.Write.{failed_after}
use Rattle.layout_core.specs.Served.{bytes_of_answer}
use Rattle.layout_core.proofs.Putting.{HasWritten, is_traced, no_write_ended, stays_written, trace_ended, trace_faults, write_faults, written_as}
use Rattle.layout_core.proofs.engine.put_out.Goals as goal
use Rattle.layout_core.proofs.engine.put_out.Goals.{in-Reply+in-Ok, in-Packet, in-Off}
use Rattle.layout_core.proofs.engine.put_out.Given.{Over}

pub returns-in_default-clause-faulted : goal.returns-in_default-clause-faulted
returns-in_default-clause-faulted g c =
    write_faults c.args.answer.now c.bytes.result.now _ _ _ (ap bytes_of_answer c.in-Reply.is ∙ sym (c.bytes.ensures.value ∙ c.to_msg.ensures)) c.in_default.ensures.front (Appends-nil _)

has_written : (g : Over) (c : goal.After-or g) → HasWritten c.args.line c.args.turn c.args.answer.now (g.K.Sink.held c.args.sink.now) (g.K.Sink.held c.match-answer.sink) (g.K.Sink.failed c.match-answer.sink) c.match-answer.text.bytes
has_written g c = elim c.match-answer.branch [
  | in-Reply+in-Ok w ↦
      written_as c.args.line c.args.turn c.args.answer.now (Reply w.in-Reply.reply) _ _ _ _ _ _ _ w.in-Reply.is
      (subst (λ (bs : List ℕ). Appends (g.K.Sink.held c.args.sink.now) (g.K.Sink.held w.put_all.new.output) bs) (w.bytes.ensures.value ∙ w.to_msg.ensures) w.in-Ok.ensures.all)
      (ap g.K.Sink.held w.sink-is) (ap g.K.Sink.failed w.sink-is) (w.put_all.ensures.failed ∙ ap (λ r. failed_after r (g.K.Sink.failed c.args.sink.now)) w.in-Ok.is ∙ c.requires.sink_works) (ap (λ t. t.bytes) w.text-is ∙ w.reply_line-text.ensures) refl
  | in-Packet w ↦
      written_as c.args.line c.args.turn c.args.answer.now (Packet w.in-Packet.packet) _ _ _ _ _ _ _ w.in-Packet.is (Appends-nil _)
      (ap g.K.Sink.held w.sink-is) (ap g.K.Sink.failed w.sink-is) c.requires.sink_works (ap (λ t. t.bytes) w.text-is ∙ w.track_line-text.ensures) refl
  | in-Off w ↦
      written_as c.args.line c.args.turn c.args.answer.now Off _ _ _ _ _ _ _ w.in-Off.is (Appends-nil _)
      (ap g.K.Sink.held w.sink-is) (ap g.K.Sink.failed w.sink-is) c.requires.sink_works (ap (λ t. t.bytes) w.text-is ∙ w.off_line-text.ensures) refl
]

pub returns-clause-written : goal.returns-clause-written
returns-clause-written g c =
    stays_written c.put_line.result c.or.result c.or.ensures c.args.line c.args.turn c.args.answer.now _ _ _ _ (has_written g c)

pub returns-clause-traced : goal.returns-clause-traced
returns-clause-traced g c =
    is_traced c.put_line.result c.or.result c.or.ensures c.args.line c.args.turn c.args.answer.now _ _ _ _ (has_written g c) _ _ c.put_line.ensures.all

pub returns-clause-faulted : goal.returns-clause-faulted
returns-clause-faulted g c =
    trace_faults c.put_line.result c.or.result c.or.ensures c.args.line c.args.turn c.args.answer.now _ _ _ _ (has_written g c) _ _ c.put_line.ensures.part

pub returns-clause-sink_failed : goal.returns-clause-sink_failed
returns-clause-sink_failed g c =
    no_write_ended c.put_line.result c.or.result c.or.ensures c.args.line c.args.turn c.args.answer.now _ _ _ _ (has_written g c)

pub returns-clause-trace_failed : goal.returns-clause-trace_failed
returns-clause-trace_failed g c =
    trace_ended c.put_line.result c.or.result c.or.ensures _ _ c.requires.trace_works c.put_line.ensures.failed_ok c.put_line.ensures.failed_err
