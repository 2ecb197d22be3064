use Rattle.explain.proofs.Captures.{explained_at_once}
use Rattle.explain.proofs.conversion.explained.Goals as goal

pub returns : goal.returns
returns c =
    let explainer = c.new-explainer.result in
    let pushed = c.push.new.self in
    explained_at_once c.args.text.now c.push.new.text.items c.finish.new.text.items pushed.line.items explainer.is_long pushed.is_long explainer.line.items c.new-output.result.items
    c.new-explainer.ensures.is_long c.new-explainer.ensures.held c.new-output.ensures.items c.in_ok-push.ensures.further c.in_ok-finish.ensures
