use Rattle.layout_core.proofs.ServeSteps.{serves_event}
use Rattle.layout_core.proofs.Stopping.{handed_on, stops_at_event}
use Rattle.layout_core.proofs.engine.serve_event.Goals as goal

pub returns-in_err-put_out : goal.returns-in_err-put_out
returns-in_err-put_out g c =
    handed_on c.from_residual.result c.in_err-put_out.field-0.0 _ _ _ _ _ _ c.from_residual.ensures.1 (
      stops_at_event _ _ c.args.event c.step-answer.result _ _ c.step-answer.ensures.station c.step-answer.ensures.answer c.step-answer.ensures.nodes c.step-answer.ensures.same c.in_err-put_out.ensures.faulted,
      c.in_err-put_out.ensures.sink_failed,
      c.in_err-put_out.ensures.trace_failed,
    )

pub returns : goal.returns
returns g c = (
  serves_event c.args.line c.args.event c.step-answer.result _ _ c.step-answer.ensures.station c.step-answer.ensures.answer c.step-answer.ensures.nodes
      c.in_ok-put_out.ensures.written c.in_ok-put_out.ensures.traced c.add.ensures.replies c.add.ensures.turns c.step-answer.ensures.same,
  c.in_ok-put_out.ensures.sink_failed,
  c.in_ok-put_out.ensures.trace_failed,
)
