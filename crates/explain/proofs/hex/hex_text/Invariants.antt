use Rattle.std.proofs.Common.{◌≡◌, ◌++◌, length}
use Rattle.explain.specs.HexText.{hex_text}
use Rattle.explain.proofs.hex.hex_text.Given as goal

-- The text so far, and the text for the rest, are together the text for all.
abbrev pub invariant-loop-line : goal.invariant-loop-line
invariant-loop-line l = l.text.items ++ hex_text l.rest ≡ hex_text l.fn.log

abbrev pub decreases-loop-line : goal.decreases-loop-line
decreases-loop-line l = length l.rest
