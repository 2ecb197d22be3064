-- The lines of the blocks and the trains of a railway, in the words of docs/CLIENTS.md, *What is
-- printed*. Blocks and trains are named by their index in the plan, from 0.
use Rattle.std.specs.Prelude.{ℕ, zero, suc, ◌≡◌, ◌+◌, ◌-◌, ◌&&◌, Bool, true, false, not, if◌then◌else◌, List, [], ◌∷◌, ◌++◌, length, Option, Some, None, codes, slice_get}
use Rattle.std.specs.Fmt.{decimal}
use Rattle.railway.specs.declared.block.Block.{Block}
use Rattle.railway.specs.declared.conflict.Conflict.{Conflict}
use Rattle.railway.specs.declared.train.TrainState.{TrainState}
use Rattle.railway.specs.Blocks.{block_name}
use Rattle.railway.specs.Conflicts.{first_in}
use Rattle.railway.specs.Places.{is_derailed}
use Rattle.railway.specs.Railway.{RailwayState}
use Rattle.railway.specs.Reports.{occupies, same_blocks}
use Rattle.railway.specs.Turnouts.{same_bool}
use Rattle.roster.specs.Decoders.{decoder_name}
use Rattle.roster.specs.Entry.{Entry}

-- the trains of a railway, if there is one
abbrev pub trains_of : Option RailwayState → List TrainState
trains_of None = []
trains_of (Some railway) = railway.trains

-- the name of a train, which is that of its decoder
abbrev pub train_name : List Entry → Option TrainState → List ℕ
train_name entries None = []
train_name entries (Some train) = decoder_name (slice_get entries train.decoder)

-- a part of the train is in the block
abbrev pub is_in : (block : ℕ) → Option TrainState → Bool
is_in block None = false
is_in block (Some train) = occupies block train

-- the turnout that derailed the train, if it is off the rails
abbrev pub derailed_at : Option TrainState → Option ℕ
derailed_at None = None
derailed_at (Some train) = train.derailed_at

-- the lines of `count` indices, from `first` on
abbrev pub lines_of_each : (first count : ℕ) → (ℕ → List (List ℕ)) → List (List ℕ)
lines_of_each first zero lines = []
lines_of_each first (suc count) lines = lines first ++ lines_of_each (first + 1) count lines

-- a train came into a free block, the first of the plan if there are two; or the last one left it
abbrev pub occupied_line : (block train : List ℕ) → List ℕ
occupied_line block train = codes "block " ++ block ++ codes " occupied (" ++ train ++ codes ")"

abbrev pub free_line : (block : List ℕ) → List ℕ
free_line block = codes "block " ++ block ++ codes " free"

abbrev pub change_lines : List Entry → (trains : List TrainState) → (block : List ℕ)
    → (first_before first_now : Option ℕ) → List (List ℕ)
change_lines entries trains block None (Some first) =
    occupied_line block (train_name entries (slice_get trains first)) ∷ []
change_lines entries trains block (Some first) None = free_line block ∷ []
change_lines entries trains block before now = []

abbrev pub block_lines : List Entry → List Block → (before now : List TrainState) → (block : ℕ)
    → List (List ℕ)
block_lines entries blocks before now block =
    change_lines entries now (block_name (slice_get blocks block)) (first_in block 0 before)
    (first_in block 0 now)

-- a turnout derailed a train that was on the rails before
abbrev pub derailed_line : (train : List ℕ) → (turnout : ℕ) → List ℕ
derailed_line train turnout = codes "derailed " ++ train ++ codes " at turnout " ++ decimal turnout

abbrev pub derailing_lines : (train : List ℕ) → (before now : Option ℕ) → List (List ℕ)
derailing_lines train None (Some turnout) = derailed_line train turnout ∷ []
derailing_lines train (Some before) (Some now) = []
derailing_lines train before None = []

abbrev pub derailed_lines : List Entry → (before now : List TrainState) → (train : ℕ)
    → List (List ℕ)
derailed_lines entries before now train =
    derailing_lines (train_name entries (slice_get now train))
    (derailed_at (slice_get before train)) (derailed_at (slice_get now train))

-- both trains of a conflict are in its block
abbrev pub are_in : List TrainState → Conflict → Bool
are_in trains conflict =
    is_in conflict.block (slice_get trains conflict.first)
    && is_in conflict.block (slice_get trains conflict.second)

-- they are now, and were not before
abbrev pub is_new : (before now : List TrainState) → Conflict → Bool
is_new before now conflict = are_in now conflict && not (are_in before conflict)

abbrev pub conflict_line : List Entry → List Block → List TrainState → Conflict → List ℕ
conflict_line entries blocks trains conflict =
    codes "conflict " ++ block_name (slice_get blocks conflict.block) ++ codes ": "
    ++ train_name entries (slice_get trains conflict.first) ++ codes ", "
    ++ train_name entries (slice_get trains conflict.second)

abbrev pub pair_lines : List Entry → List Block → (before now : List TrainState) → Conflict
    → List (List ℕ)
pair_lines entries blocks before now conflict =
    if is_new before now conflict then conflict_line entries blocks now conflict ∷ [] else []

-- the conflicts of a train with each train behind it in the plan
abbrev pub meeting_lines : List Entry → List Block → (before now : List TrainState)
    → (block first : ℕ) → List (List ℕ)
meeting_lines entries blocks before now block first =
    lines_of_each (first + 1) (length now - (first + 1))
    (λ second. pair_lines entries blocks before now
    (record { block = block; first = first; second = second }))

-- the conflicts of each two trains in a block
abbrev pub conflict_lines : List Entry → List Block → (before now : List TrainState)
    → (block : ℕ) → List (List ℕ)
conflict_lines entries blocks before now block =
    lines_of_each 0 (length now) (meeting_lines entries blocks before now block)

-- The changes of the blocks, then the trains that derailed, then the conflicts.
abbrev pub moved_lines : List Entry → List Block → (before now : List TrainState)
    → List (List ℕ)
moved_lines entries blocks before now =
    lines_of_each 0 (length blocks) (block_lines entries blocks before now)
    ++ lines_of_each 0 (length now) (derailed_lines entries before now)
    ++ lines_of_each 0 (length blocks) (conflict_lines entries blocks before now)

-- the lines of a railway whose trains were like this when it was last observed
abbrev pub railway_lines : List Entry → (before : List TrainState) → Option RailwayState
    → List (List ℕ)
railway_lines entries before None = []
railway_lines entries before (Some railway) =
    moved_lines entries railway.network.blocks before railway.trains

-- a train is in the same blocks as before, and is derailed if it was
abbrev pub stays : (before now : Option TrainState) → Bool
stays None None = true
stays (Some before) (Some now) =
    same_blocks before now && same_bool (is_derailed before) (is_derailed now)
stays before now = false

-- each train does, so that no line is printed
abbrev pub AllStay : (before now : List TrainState) → Type 0
AllStay before now =
    (train : ℕ) → stays (slice_get before train) (slice_get now train) ≡ true
