use Rattle.std.proofs.Common.{rules}
use Rattle.explain.specs.Streams.{Begins}
use Rattle.explain.proofs.Copying.{begins-rest_after, follows-trans, passed_up}
use Rattle.explain.proofs.streams.push_all.Goals as goal

pub returns-in_err-end-clause-begun : goal.returns-in_err-end-clause-begun
returns-in_err-end-clause-begun g c =
    let before = c.args.explainer.now in
    let now = c.loop-end.explainer in
    let begun = begins-rest_after (g.I.Input.left c.args.input.now) (g.I.Input.left c.loop-end.input) (g.I.Input.left c.push_some.new.input) (g.O.Sink.held c.args.output.now) (g.O.Sink.held c.loop-end.output) (g.O.Sink.held c.push_some.new.output)
    before.is_long now.is_long before.line.items now.line.items c.loop-end.invariant.followed c.in_err-end.ensures.begun in
    passed_up c.from_residual.result c.in_err-end.field-0.0 (Begins (g.I.Input.left c.args.input.now) (g.I.Input.left c.push_some.new.input) (g.O.Sink.held c.args.output.now) (g.O.Sink.held c.push_some.new.output) before.is_long before.line.items)
    c.from_residual.ensures.1 begun

pub returns-in-Some-clause-followed : goal.returns-in-Some-clause-followed
returns-in-Some-clause-followed g c =
    let before = c.args.explainer.now in
    let now = c.loop-end.explainer in
    let after = c.push_some.new.explainer in
    follows-trans (g.I.Input.left c.args.input.now) (g.I.Input.left c.loop-end.input) (g.I.Input.left c.push_some.new.input) (g.O.Sink.held c.args.output.now) (g.O.Sink.held c.loop-end.output) (g.O.Sink.held c.push_some.new.output)
    before.is_long now.is_long after.is_long before.line.items now.line.items after.line.items c.loop-end.invariant.followed c.in_ok-end.ensures.followed

pub loop-end-preserved : goal.loop-end-preserved
loop-end-preserved g c =
    let before = c.args.explainer.now in
    let now = c.loop-end.explainer in
    let after = c.push_some.new.explainer in
    record {
      followed =
          follows-trans (g.I.Input.left c.args.input.now) (g.I.Input.left c.loop-end.input) (g.I.Input.left c.push_some.new.input) (g.O.Sink.held c.args.output.now) (g.O.Sink.held c.loop-end.output) (g.O.Sink.held c.push_some.new.output)
          before.is_long now.is_long after.is_long before.line.items now.line.items after.line.items c.loop-end.invariant.followed c.in_ok-end.ensures.followed;
      works = search rules;
      writes = search rules;
    }
