use Rattle.explain.proofs.Captures.{end, next}
use Rattle.explain.proofs.Cuts.{empty}
use Rattle.explain.specs.Captures.{capture_text}
use Rattle.explain.proofs.capture.capture_text.Goals as goal

pub loop-rest-preserved : goal.loop-rest-preserved
loop-rest-preserved c =
    next c.loop-rest.text.items c.push_part.new.text.items c.loop-rest.rest.now c.cut_part.result.0.now c.cut_part.result.1.now (capture_text c.args.bytes.now)
    c.cut_part.ensures.parts c.loop-rest.invariant c.in_ok-push_part.ensures

pub returns : goal.returns
returns c =
    end c.loop-rest.text.items c.loop-rest.rest.now (capture_text c.args.bytes.now)
    (empty c.loop-rest.rest.now c.is_empty.result c.is_empty.ensures c.loop-rest-test.false) c.loop-rest.invariant
