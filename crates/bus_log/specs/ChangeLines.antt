-- The lines of what has changed on a railway.
use Rattle.std.specs.Prelude.{ℕ, List, length}
use Rattle.railway.specs.declared.conflict.Conflict.{Conflict}
use Rattle.roster.specs.Decoders.{entries_of}
use Rattle.bus_log.specs.declared.change.Change.{Change}
use Rattle.bus_log.specs.RailwayLines.{block_lines, conflict_lines, derailed_lines, lines_of_each, meeting_lines, moved_lines, pair_lines}

-- the lines of one block, train, block with conflicts, train with conflicts, and conflict
abbrev pub block_changes : Change → (block : ℕ) → List (List ℕ)
block_changes change = block_lines (entries_of change.roster) change.blocks.now change.before.now change.after.now

abbrev pub train_changes : Change → (train : ℕ) → List (List ℕ)
train_changes change = derailed_lines (entries_of change.roster) change.before.now change.after.now

abbrev pub conflicts_in : Change → (block : ℕ) → List (List ℕ)
conflicts_in change = conflict_lines (entries_of change.roster) change.blocks.now change.before.now change.after.now

abbrev pub meetings_in : Change → (block first : ℕ) → List (List ℕ)
meetings_in change = meeting_lines (entries_of change.roster) change.blocks.now change.before.now change.after.now

abbrev pub pair_in : Change → Conflict → List (List ℕ)
pair_in change = pair_lines (entries_of change.roster) change.blocks.now change.before.now change.after.now

-- those of all blocks, of all trains, and of the conflicts in all blocks; all of them, in this order
abbrev pub all_blocks : Change → List (List ℕ)
all_blocks change = lines_of_each 0 (length change.blocks.now) (block_changes change)

abbrev pub all_trains : Change → List (List ℕ)
all_trains change = lines_of_each 0 (length change.after.now) (train_changes change)

abbrev pub all_conflicts : Change → List (List ℕ)
all_conflicts change = lines_of_each 0 (length change.blocks.now) (conflicts_in change)

abbrev pub all_changes : Change → List (List ℕ)
all_changes change = moved_lines (entries_of change.roster) change.blocks.now change.before.now change.after.now
