-- Trains that are so fast that they could enter a block and leave it within a turn.
use Rattle.std.specs.Prelude.{ℕ, ◌+◌, ◌*◌, ◌&&◌, Bool, nat_le, not, if◌then◌else◌, List, [], ◌∷◌, Option, Some, None}
use Rattle.std.specs.List.{list_all}
use Rattle.std.specs.Option.{option_or}
use Rattle.railway.specs.declared.block.Block.{Block}
use Rattle.railway.specs.declared.fault.PlanFault.{PlanFault}
use Rattle.railway.specs.declared.fault.PlanFault.TheVariants.{FastTrain}
use Rattle.railway.specs.declared.train.Train.{Train}
use Rattle.railway.specs.declared.train.TrainState.{TrainState}

-- the longest time in which the decoders do the same, in microseconds: that of a turn
abbrev pub longest_turn : ℕ
longest_turn = 10740

-- In such a time, at its speed at the last step, a train goes as far as a block of this length in
-- millimetres and the train together are long: it could enter the block and leave it again.
abbrev pub passes_unseen : (top size length : ℕ) → Bool
passes_unseen top size length = nat_le ((size + length) * 1000000) (top * longest_turn)

-- the shorter of two blocks, the first of two that are as long
abbrev pub shorter : Option Block → Block → Block
shorter None block = block
shorter (Some least) block = if nat_le least.length block.length then least else block

-- the first of the shortest of this block and others
abbrev pub shortest : Option Block → List Block → Option Block
shortest least [] = least
shortest least (block ∷ blocks) = shortest (Some (shorter least block)) blocks

-- a train could pass the shortest block within a turn
abbrev pub fault_of_speed : Option Block → (i : ℕ) → Train → Option PlanFault
fault_of_speed None i train = None
fault_of_speed (Some block) i train =
    if passes_unseen train.top train.length block.length
    then Some (FastTrain i train.decoder block.name) else None

abbrev pub fault_of_speeds : Option Block → (i : ℕ) → List Train → Option PlanFault
fault_of_speeds block i [] = None
fault_of_speeds block i (train ∷ trains) =
    option_or (fault_of_speed block i train) (fault_of_speeds block (i + 1) trains)

-- the speed of a train at the last step, in femtometres a microsecond
abbrev pub top_speed : TrainState → ℕ
top_speed train = train.top * 1000000

-- a train of this top speed and size can pass none of the blocks unseen
abbrev pub passes_none : List Block → (top size : ℕ) → Bool
passes_none blocks top size = list_all (λ block. not (passes_unseen top size block.length)) blocks

-- a train is no faster than at its last step, and can pass none of the blocks unseen
abbrev pub is_slow : List Block → TrainState → Bool
is_slow blocks train =
    nat_le train.velocity.speed (top_speed train) && passes_none blocks train.top train.length
