use Rattle.std.proofs.Common.{ℕ, List, take, subst}
use Rattle.explain.specs.Streams.{AppendsFront, Begins}
use Rattle.explain.proofs.Copying.{begins-written, passed_up}
use Rattle.explain.proofs.streams.push_some.Goals as goal

pub returns-in_err-write_text-clause-begun : goal.returns-in_err-write_text-clause-begun
returns-in_err-write_text-clause-begun g c =
    let a = g.I.Input.left c.args.input.now in
    let b = g.I.Input.left c.get.new.self in
    let o = g.O.Sink.held c.args.output.now in
    let p = g.O.Sink.held c.write_text.new.output in
    let before = c.args.explainer.now in
    let after = c.push.new.self in
    let heard = take c.in-Ok.count c.get.new.buf in
    passed_up c.from_residual-in_err-write_text.result c.in_err-write_text.field-0.0 (Begins a b o p before.is_long before.line.items) c.from_residual-in_err-write_text.ensures.1
    (begins-written a b o p before.is_long after.is_long before.line.items after.line.items heard c.clear.new.self.items c.push.new.text.items
    c.in-Ok.ensures.bytes.0
    c.clear.ensures.items c.in_ok-push.ensures.further
    (subst (λ (bs : List ℕ). AppendsFront o p bs) c.as_slice.ensures.value c.in_err-write_text.ensures.front))
