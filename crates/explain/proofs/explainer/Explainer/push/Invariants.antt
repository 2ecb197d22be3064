use Rattle.std.proofs.Common.{◌≡◌, ℕ, ◌++◌, List, length}
use Rattle.explain.specs.Unfinished.{to_write}
use Rattle.explain.proofs.explainer.Explainer.push.Given as goal

-- The output so far, and the output for the rest, are together the output for all.
abbrev pub invariant-loop-piece : goal.invariant-loop-piece
invariant-loop-piece l = (more : List ℕ) →
    l.fn.text.items ++ to_write l.fn.self.is_long l.fn.self.line.items (l.fn.bytes ++ more) ≡ l.text.items ++ to_write l.self.is_long l.self.line.items (l.rest ++ more)

abbrev pub decreases-loop-piece : goal.decreases-loop-piece
decreases-loop-piece l = length l.rest
