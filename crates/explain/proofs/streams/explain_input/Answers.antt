use Rattle.explain.proofs.Copying.{explains-all, explains-front, explains-heard, explains-most}
use Rattle.explain.proofs.streams.explain_input.Goals as goal

pub returns-in_err-end-clause-begun : goal.returns-in_err-end-clause-begun
returns-in_err-end-clause-begun g c =
    let new = c.new-explainer in
    explains-front (g.I.Input.left c.args.input.now) (g.I.Input.left c.push_all.new.input) (g.O.Sink.held c.args.output.now) (g.O.Sink.held c.push_all.new.output)
    new.result.is_long new.result.line.items new.ensures.is_long new.ensures.held c.in_err-end.ensures.begun

pub returns-in_err-finish-clause-begun : goal.returns-in_err-finish-clause-begun
returns-in_err-finish-clause-begun g c =
    let new = c.new-explainer in
    let heard = c.push_all.new.explainer in
    explains-heard (g.I.Input.left c.args.input.now) (g.I.Input.left c.push_all.new.input) (g.O.Sink.held c.args.output.now) (g.O.Sink.held c.push_all.new.output)
    new.result.is_long heard.is_long new.result.line.items heard.line.items new.ensures.is_long new.ensures.held c.in_ok-end.ensures.followed

pub returns-in_err-write_text-clause-begun : goal.returns-in_err-write_text-clause-begun
returns-in_err-write_text-clause-begun g c =
    explains-most (g.I.Input.left c.args.input.now) (g.I.Input.left c.push_all.new.input) (g.O.Sink.held c.args.output.now) (g.O.Sink.held c.push_all.new.output) (g.O.Sink.held c.write_text.new.output)
    c.new-explainer.result.is_long c.push_all.new.explainer.is_long c.new-explainer.result.line.items c.push_all.new.explainer.line.items c.clear.new.self.items c.finish.new.text.items c.as_slice.result.now
    c.new-explainer.ensures.is_long c.new-explainer.ensures.held c.in_ok-end.ensures.followed c.clear.ensures.items c.in_ok-finish.ensures c.as_slice.ensures.value c.in_err-write_text.ensures.front

pub returns-clause-explained : goal.returns-clause-explained
returns-clause-explained g c =
    explains-all (g.I.Input.left c.args.input.now) (g.I.Input.left c.push_all.new.input) (g.O.Sink.held c.args.output.now) (g.O.Sink.held c.push_all.new.output) (g.O.Sink.held c.write_text.new.output)
    c.new-explainer.result.is_long c.push_all.new.explainer.is_long c.new-explainer.result.line.items c.push_all.new.explainer.line.items c.clear.new.self.items c.finish.new.text.items c.as_slice.result.now
    c.new-explainer.ensures.is_long c.new-explainer.ensures.held c.in_ok-end.ensures.followed c.clear.ensures.items c.in_ok-finish.ensures c.as_slice.ensures.value c.in_ok-write_text.ensures.written

pub returns-clause-begun : goal.returns-clause-begun
returns-clause-begun g c =
    explains-most (g.I.Input.left c.args.input.now) (g.I.Input.left c.push_all.new.input) (g.O.Sink.held c.args.output.now) (g.O.Sink.held c.push_all.new.output) (g.O.Sink.held c.write_text.new.output)
    c.new-explainer.result.is_long c.push_all.new.explainer.is_long c.new-explainer.result.line.items c.push_all.new.explainer.line.items c.clear.new.self.items c.finish.new.text.items c.as_slice.result.now
    c.new-explainer.ensures.is_long c.new-explainer.ensures.held c.in_ok-end.ensures.followed c.clear.ensures.items c.in_ok-finish.ensures c.as_slice.ensures.value c.in_ok-write_text.ensures.front
