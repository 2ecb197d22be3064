-- Blocks with two trains in them.
use Rattle.std.specs.Prelude.{ℕ, ◌+◌, if◌then◌else◌, List, [], ◌∷◌, Option, Some, None, drop}
use Rattle.std.specs.Option.{option_and_then, option_map}
use Rattle.railway.specs.declared.block.Block.{Block}
use Rattle.railway.specs.declared.conflict.Conflict.{Conflict}
use Rattle.railway.specs.declared.train.TrainState.{TrainState}
use Rattle.railway.specs.Reports.{occupies}

-- the index of the first of the trains that is in a block; their indices count from i
abbrev pub first_in : (block i : ℕ) → List TrainState → Option ℕ
first_in block i [] = None
first_in block i (train ∷ trains) =
    if occupies block train then Some i else first_in block (i + 1) trains

-- the first two trains in a block, if there are two
abbrev pub conflict_in : (block : ℕ) → List TrainState → Option Conflict
conflict_in block trains =
    option_and_then
    (λ first. option_map (λ second. record { block = block; first = first; second = second })
    (first_in block (first + 1) (drop (first + 1) trains)))
    (first_in block 0 trains)

abbrev pub onto_conflicts : Option Conflict → List Conflict → List Conflict
onto_conflicts None conflicts = conflicts
onto_conflicts (Some conflict) conflicts = conflict ∷ conflicts

abbrev pub conflicts_from : List TrainState → (i : ℕ) → List Block → List Conflict
conflicts_from trains i [] = []
conflicts_from trains i (block ∷ blocks) =
    onto_conflicts (conflict_in i trains) (conflicts_from trains (i + 1) blocks)

-- the conflict of each block that has one, in order
abbrev pub conflicts : List Block → List TrainState → List Conflict
conflicts blocks trains = conflicts_from trains 0 blocks
