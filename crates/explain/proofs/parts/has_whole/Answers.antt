use Rattle.std.proofs.Common.{◌∙◌}
use Rattle.explain.proofs.Cuts.{empty, none_whole}
use Rattle.explain.proofs.parts.has_whole.Goals as goal

pub returns : goal.returns
returns c = none_whole c.loop-rest.rest.now (empty c.loop-rest.rest.now c.is_empty.result c.is_empty.ensures c.loop-rest-test.false) ∙ c.loop-rest.invariant
