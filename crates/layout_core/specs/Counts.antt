-- The ranges of the counts of a served connection.
use Rattle.std.specs.Prelude.{ℕ, ◌+◌, ◌<◌, ◌^◌}
use Rattle.layout_core.specs.declared.engine.Counts.{Counts}

-- this many more can be counted
pub record HasRoom (more : ℕ) (counts : Counts) : Type 0 where
  pub replies : counts.replies + more < 2 ^ 64
  pub turns : counts.turns + more < 2 ^ 64
