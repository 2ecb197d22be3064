use Rattle.std.proofs.Common.{rules, refl, arith, ◌∙◌, subst}
use Rattle.std.specs.Str.{IsUtf8}
use Rattle.web.specs.Messages.{without_return}
use Rattle.web.specs.Sending.{QueuesAll}
use Rattle.web.proofs.Sending.{end-held, end-tells, nothing-sent, step-held, step-messages, tells-nothing}
use Rattle.web.proofs.page.Page.take.Goals as goal
use Rattle.web.proofs.page.Page.take.Goals.{then-taken-gt0+else-eq, else-taken-gt0}

pub loop-taken-init : goal.loop-taken-init
loop-taken-init g c = record { held = refl; sent = tells-nothing _ c.args.self.now.socket }

pub loop-taken-preserved-then-byte-ne10 : goal.loop-taken-preserved-then-byte-ne10
loop-taken-preserved-then-byte-ne10 g c =
    let start = c.args.self.now.unfinished in
    let text = c.args.bytes.now in
    record {
      held = c.push.ensures ∙ step-held start c.loop-taken.self.unfinished text c.loop-taken.taken (omega arith) c.if-byte-ne10.true c.loop-taken.invariant.held;
      sent = subst (λ ms. QueuesAll (λ s. g.S.Write.contents s.stream) ms c.args.self.now.socket c.loop-taken.self.socket)
          (step-messages start text c.loop-taken.taken (omega arith) c.if-byte-ne10.true) c.loop-taken.invariant.sent;
    }

pub loop-taken-preserved : goal.loop-taken-preserved
loop-taken-preserved g c =
    let start = c.args.self.now.unfinished in
    let text = c.args.bytes.now in
    record {
      held = c.in-Ok.ensures.held ∙ end-held start text c.loop-taken.taken (omega arith) (omega arith);
      sent = end-tells _ start c.loop-taken.self.unfinished text c.loop-taken.taken c.args.self.now.socket c.loop-taken.self.socket c.queue_line.new.self.socket
          (omega arith) (omega arith) c.loop-taken.invariant.held c.loop-taken.invariant.sent c.in-Ok.ensures.sent;
    }

pub returns-in-Err-2-clause-full : goal.returns-in-Err-2-clause-full
returns-in-Err-2-clause-full g c = λ full. elim c.if-taken-gt0.branch [
  | then-taken-gt0+else-eq w ↦ search rules
  | else-taken-gt0 w ↦
      let none = nothing-sent _ c.args.self.now.unfinished c.loop-taken.self.unfinished c.args.bytes.now c.loop-taken.taken c.args.self.now.socket c.loop-taken.self.socket
      (omega (arith, w.if-taken-gt0)) c.loop-taken.invariant.held c.loop-taken.invariant.sent in
      let kept = c.in-Err.ensures.full full in
      (kept.0 ∙ none.0, kept.1 ∙ none.1)
]

pub returns-in-Err-2-clause-utf8 : goal.returns-in-Err-2-clause-utf8
returns-in-Err-2-clause-utf8 g c = λ full. elim c.if-taken-gt0.branch [
  | then-taken-gt0+else-eq w ↦ search rules
  | else-taken-gt0 w ↦
      let none = nothing-sent _ c.args.self.now.unfinished c.loop-taken.self.unfinished c.args.bytes.now c.loop-taken.taken c.args.self.now.socket c.loop-taken.self.socket
      (omega (arith, w.if-taken-gt0)) c.loop-taken.invariant.held c.loop-taken.invariant.sent in
      subst (λ held. IsUtf8 (without_return held)) none.0 (c.in-Err.ensures.utf8 full)
]
