-- The track: where it leads, and how a train runs on it.
use Rattle.std.specs.Prelude.{ℕ, zero, suc, ◌+◌, ◌-◌, ◌≡◌, ◌⊎◌, ◌==◌, ◌<◌, ◌≤◌, ◌&&◌, ◌||◌, ◌++◌, Bool, true, nat_le, not, if◌then◌else◌, List, [], ◌∷◌, length, map, Option, Some, None, slice_set}
use Rattle.std.specs.Bool.{beq}
use Rattle.std.specs.Cmp.Lexicographic.{pointwise}
use Rattle.std.specs.List.{list_all, list_any}
use Rattle.std.specs.Option.{option_and_then, option_eq, option_or}
use Rattle.railway.specs.declared.block.Block.{Block}
use Rattle.railway.specs.declared.block.BlockEnd.{BlockEnd}
use Rattle.railway.specs.declared.joint.Joint.{Joint}
use Rattle.railway.specs.declared.joint.Turnout.{Turnout}
use Rattle.railway.specs.declared.joint.TurnoutState.{TurnoutState}
use Rattle.railway.specs.declared.exit.Exit.{Exit}
use Rattle.railway.specs.declared.exit.Exit.TheVariants.{Leads, BufferStop, Against}
use Rattle.railway.specs.declared.exit.Onward.{Onward}
use Rattle.railway.specs.declared.exit.Onward.TheVariants.{To, BufferStop as Stopped, Against as Derails}
use Rattle.railway.specs.declared.train.Place.{Place}
use Rattle.railway.specs.declared.train.TrainState.{TrainState}
use Rattle.railway.specs.Blocks.{are_distinct, is_block, length_of, no_blocks, same_block_end}
use Rattle.railway.specs.Ends.{are_apart, ends_of, is_joint, is_turnout}
use Rattle.railway.specs.Places.{end_ahead, further, is_derailed, same_place, span, start_at, still, to_end}

-- the blocks of a plan, and what joins their ends
pub record Network : Type 0 where
  pub blocks : List Block
  pub joints : List Joint
  pub turnouts : List TurnoutState

-- a turnout as it lies is a joint of two ends
abbrev pub as_joint : TurnoutState → Joint
as_joint state = record {
  one = state.turnout.common;
  two = if state.is_thrown then state.turnout.thrown else state.turnout.closed;
}

-- where a joint leads from an end, if it is one of the joint's
abbrev pub across : Joint → BlockEnd → Option BlockEnd
across joint end =
    if same_block_end joint.one end then Some joint.two else
    (if same_block_end joint.two end then Some joint.one else None)

-- where the first of the joints leads that has the end
abbrev pub partner : List Joint → BlockEnd → Option BlockEnd
partner [] end = None
partner (joint ∷ joints) end = option_or (across joint end) (partner joints end)

-- a turnout lies at a side
abbrev pub lies : TurnoutState → Bool
lies state = state.left == 0

-- it moves, and lies at neither side
abbrev pub is_moving : TurnoutState → Bool
is_moving state = not (lies state)

-- the joints that turnouts are, as they lie: one that moves is none
abbrev pub joints_of : List TurnoutState → List Joint
joints_of [] = []
joints_of (state ∷ states) =
    if is_moving state then joints_of states else as_joint state ∷ joints_of states

-- what is joined, as the turnouts lie
abbrev pub joined : Network → List Joint
joined network = network.joints ++ joints_of network.turnouts

-- the end is one of the two that a turnout chooses from
abbrev pub is_branch : BlockEnd → TurnoutState → Bool
is_branch end state =
    same_block_end state.turnout.closed end || same_block_end state.turnout.thrown end

-- the end is one of a turnout's three
abbrev pub is_end_of : BlockEnd → TurnoutState → Bool
is_end_of end state = same_block_end state.turnout.common end || is_branch end state

-- an end at which a turnout that does not lead on from it derails a train: one of the two that it
-- chooses from, and each of the three while it moves
abbrev pub is_against : BlockEnd → TurnoutState → Bool
is_against end state = if is_moving state then is_end_of end state else is_branch end state

-- The switch of the turnout that an end belongs to; 0 if it belongs to none. No end belongs to two.
abbrev pub switch_at : List TurnoutState → BlockEnd → ℕ
switch_at [] end = 0
switch_at (state ∷ states) end =
    if is_end_of end state then state.turnout.switch else switch_at states end

abbrev pub exit_to : Option BlockEnd → (against : Bool) → Exit
exit_to (Some end) against = Leads end
exit_to None against = if against then Against else BufferStop

-- what lies beyond an end: an end of a block, a turnout that moves or lies against it, or a buffer
-- stop
abbrev pub exit_of : Network → BlockEnd → Exit
exit_of network end =
    exit_to (partner (joined network) end) (list_any (is_against end) network.turnouts)

-- an exit leads to a block of the plan, if it leads anywhere
abbrev pub LeadsToPlan : Network → Exit → Type 0
LeadsToPlan network (Leads end) = end.block < length network.blocks
LeadsToPlan network BufferStop = Unit {0}
LeadsToPlan network Against = Unit {0}

abbrev pub onward_by : List Block → Exit → Onward
onward_by blocks (Leads end) = To (start_at blocks end)
onward_by blocks BufferStop = Stopped
onward_by blocks Against = Derails

-- one femtometre ahead
abbrev pub onward : Network → Place → Onward
onward network place =
    if to_end (length_of network.blocks place.block) place == 0 then
    onward_by network.blocks (exit_of network (end_ahead place)) else To (further place 1)

abbrev pub place_of : Onward → Option Place
place_of (To place) = Some place
place_of Stopped = None
place_of Derails = None

-- so many femtometres ahead, one after another, if the track leads so far
unfoldable pub way_on : Network → Place → (way : ℕ) → Option Place
way_on network place zero = Some place
way_on network place (suc way) =
    option_and_then (λ next. way_on network next way) (place_of (onward network place))

-- the train off the rails, where it is, at the turnout ahead of a place; it stands
abbrev pub off_rails : Network → Place → TrainState → TrainState
off_rails network place train =
    record (still train) { derailed_at = Some (switch_at network.turnouts (end_ahead place)) }

-- Both ends of a train go where the track leads. Its front stops at a buffer stop, and leaves the
-- rails at a turnout that lies against it.
abbrev pub stepped : Network → TrainState → (front rear : Onward) → TrainState
stepped network train (To front) (To rear) = record train { front = front; rear = rear }
stepped network train (To front) Stopped = train
stepped network train (To front) Derails = train
stepped network train Stopped rear = train
stepped network train Derails rear = off_rails network train.front train

-- a train runs forward by one femtometre
abbrev pub step : Network → TrainState → TrainState
step network train =
    if is_derailed train then train else
    stepped network train (onward network train.front) (onward network train.rear)

-- and by so many, one after another
unfoldable pub run_on : Network → TrainState → (way : ℕ) → TrainState
run_on network train zero = train
run_on network train (suc way) = run_on network (step network train) way

abbrev pub covered_by : (Place → List Bool) → List Bool → Option Place → List Bool
covered_by go ends None = ends
covered_by go ends (Some next) = go next

-- which blocks there are on a way, beside those of `marks`: one femtometre after another
unfoldable pub covered : Network → Place → (way : ℕ) → (marks : List Bool) → List Bool
covered network place zero marks = slice_set marks place.block true
covered network place (suc way) marks =
    covered_by (λ next. covered network next way (slice_set marks place.block true))
    (slice_set marks place.block true) (place_of (onward network place))

-- the blocks from the rear of a train to its front
abbrev pub under : Network → TrainState → List Bool
under network train = covered network train.rear (span train) no_blocks

-- a train that knows the blocks under it
abbrev pub marked : Network → TrainState → TrainState
marked network train = record train { under = under network train }

-- the track leads from the rear of a train to its front, over exactly its length
abbrev pub spans : Network → TrainState → Bool
spans network train =
    option_eq same_place (way_on network train.rear (span train)) (Some train.front)

-- a train is on the rails from its rear to its front, and knows the blocks between, or is derailed
abbrev pub is_whole : Network → TrainState → Bool
is_whole network train =
    is_derailed train
    || (spans network train && pointwise beq (under network train) train.under)

-- a way goes on over an end of a block that is one of these
abbrev pub leaves_at : (BlockEnd → Bool) → Network → Place → Bool
leaves_at is_one network place =
    to_end (length_of network.blocks place.block) place == 0 && is_one (end_ahead place)

-- the first place at which a way goes on over such an end, one femtometre after another
unfoldable pub first_at : (BlockEnd → Bool) → Network → Place → (way : ℕ) → Option Place
first_at is_one network place zero = None
first_at is_one network place (suc way) =
    if leaves_at is_one network place then Some place else
    option_and_then (λ next. first_at is_one network next way) (place_of (onward network place))

abbrev pub last_by : (Place → Place) → Place → Option Place → Place
last_by go place None = place
last_by go place (Some next) = go next

-- the last place of a way: where the track ends, if it ends before
unfoldable pub last_on : Network → Place → (way : ℕ) → Place
last_on network place zero = place
last_on network place (suc way) =
    last_by (λ next. last_on network next way) place (place_of (onward network place))

-- a place so far ahead in the same block, and the rest of a way
pub record IsAhead (network : Network) (place : Place) (way : ℕ) (next : Place)
    (left : ℕ) : Type 0 where
  pub part : ℕ
  pub within : part ≤ way
  pub in_block : part ≤ to_end (length_of network.blocks place.block) place
  pub there : next ≡ further place part
  pub rest : left ≡ way - part

-- the place one femtometre ahead, and the rest of a way
pub record IsNext (network : Network) (place : Place) (way : ℕ) (next : Place)
    (left : ℕ) : Type 0 where
  pub on : onward network place ≡ To next
  pub rest : left + 1 ≡ way

-- a way goes on at a place further ahead
abbrev pub LeadsOn : Network → Place → (way : ℕ) → Place → (left : ℕ) → Type 0
LeadsOn network place way next left =
    IsAhead network place way next left ⊎ IsNext network place way next left

abbrev pub turnouts_of : List TurnoutState → List Turnout
turnouts_of states = map (λ state. state.turnout) states

-- a plan has at most 64 blocks and 64 turnouts
abbrev pub are_few : Network → Bool
are_few network = nat_le (length network.blocks) 64 && nat_le (length network.turnouts) 64

-- a network of a plan without faults: its blocks and turnouts are at most 64 each, blocks have their
-- lengths, no sensor is used twice, joints and turnouts join ends of its blocks, and no end is named
-- twice
abbrev pub is_sound : Network → Bool
is_sound network =
    are_few network && list_all is_block network.blocks && are_distinct network.blocks
    && list_all (is_joint (length network.blocks)) network.joints
    && list_all (is_turnout (length network.blocks)) (turnouts_of network.turnouts)
    && are_apart (ends_of network.joints (turnouts_of network.turnouts))
