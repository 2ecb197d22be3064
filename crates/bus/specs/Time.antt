-- The turns that begin in a time: an account of it instead of a recursion over it (own). All times
-- are in microseconds.
use Rattle.std.specs.Prelude.{ℕ, ◌≡◌, ◌+◌, ◌<◌, ◌≤◌, List, [], ◌∷◌, sum}

-- the last of them, or this one if there are none
abbrev pub last_or : ℕ → List ℕ → ℕ
last_or one [] = one
last_or one (next ∷ more) = last_or next more

-- A time elapses in which turns of these durations begin, each where the one before it ends: the
-- time left of the current turn and the turns are together the time and what remains of the turn
-- that is then current, the last one.
pub record IsTimeAccount (remaining micros : ℕ) (turns : List ℕ) (remaining' : ℕ) : Type 0 where
  pub whole : remaining + sum turns ≡ micros + remaining'
  pub under_way : 0 < remaining'
  pub last : remaining' ≤ last_or remaining turns
