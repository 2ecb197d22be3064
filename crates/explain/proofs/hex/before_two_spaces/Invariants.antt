use Rattle.std.proofs.Common.{◌≡◌, ◌++◌, take, drop}
use Rattle.explain.specs.HexText.{before_two_spaces}
use Rattle.explain.proofs.hex.before_two_spaces.Given as goal

-- the bytes before it, and the answer for the rest, are the answer for all
abbrev pub invariant-loop-i : goal.invariant-loop-i
invariant-loop-i l =
    take l.i l.text ++ before_two_spaces (drop l.i l.text) ≡ before_two_spaces l.text
