use Rattle.std.proofs.Common.{◌≡◌, ◌++◌, length}
use Rattle.explain.specs.Captures.{capture_text}
use Rattle.explain.proofs.capture.capture_text.Given as goal

-- The text so far, and the text for the rest, are together the text for all.
abbrev pub invariant-loop-rest : goal.invariant-loop-rest
invariant-loop-rest l = l.text.items ++ capture_text l.rest ≡ capture_text l.fn.bytes

abbrev pub decreases-loop-rest : goal.decreases-loop-rest
decreases-loop-rest l = length l.rest
