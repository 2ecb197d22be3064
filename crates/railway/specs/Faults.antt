-- The first fault of a plan.
use Rattle.std.specs.Prelude.{ℕ, ◌+◌, ◌==◌, Bool, nat_le, nat_lt, not, if◌then◌else◌, List, [], ◌∷◌, length, Option, Some, None, slice_get}
use Rattle.std.specs.List.{list_any, slice_index_or}
use Rattle.std.specs.Option.{option_or, option_map}
use Rattle.decoder_node.specs.declared.node.NodeSpec.{NodeSpec}
use Rattle.motion.specs.Velocity.{is_momentum}
use Rattle.railway.specs.declared.block.Block.{Block}
use Rattle.railway.specs.declared.fault.Part.TheVariants.{Joint as JointPart, Turnout as TurnoutPart, Train as TrainPart}
use Rattle.railway.specs.declared.fault.PlanFault.{PlanFault}
use Rattle.railway.specs.declared.fault.PlanFault.TheVariants.{BlockLength, NameTwice, Sensor, SensorTwice, UnknownBlock, EndTwice, UnknownDecoder, DecoderTwice, TrainLength, Momentum, OffTrack, LongTrain}
use Rattle.railway.specs.declared.joint.Joint.{Joint}
use Rattle.railway.specs.declared.joint.Turnout.{Turnout}
use Rattle.railway.specs.declared.plan.Plan.{Plan}
use Rattle.railway.specs.declared.train.Train.{Train}
use Rattle.railway.specs.Blocks.{default_block, is_block_sensor, is_free, is_length, same_name}
use Rattle.railway.specs.Decoders.{decoder_of, is_loco}
use Rattle.railway.specs.Ends.{ends_of, is_joint, is_turnout, named_twice}
use Rattle.railway.specs.Network.{Network, last_on}
use Rattle.railway.specs.Passing.{fault_of_speeds, shortest}
use Rattle.railway.specs.Placement.{front_of, has_front, is_room, span_of}
use Rattle.railway.specs.Places.{turned_place}
use Rattle.railway.specs.Turnouts.{network_of}

abbrev pub unless : Bool → PlanFault → Option PlanFault
unless holds fault = if holds then None else Some fault

-- a fault where there is none
abbrev pub none_of : Option ℕ → PlanFault → Option PlanFault
none_of None fault = Some fault
none_of (Some i) fault = None

abbrev pub is_renamed : Block → List Block → Bool
is_renamed block rest = list_any (same_name block) rest

-- the first fault of a block, before the later ones
abbrev pub fault_of_block : (i : ℕ) → Block → (rest : List Block) → Option PlanFault
fault_of_block i block rest =
    option_or (unless (is_length block.length) (BlockLength i))
    (option_or (unless (not (is_renamed block rest)) (NameTwice i))
    (option_or (unless (is_block_sensor block.sensor) (Sensor i))
    (unless (is_free block.sensor rest) (SensorTwice i))))

abbrev pub fault_of_blocks : (i : ℕ) → List Block → Option PlanFault
fault_of_blocks i [] = None
fault_of_blocks i (block ∷ blocks) =
    option_or (fault_of_block i block blocks) (fault_of_blocks (i + 1) blocks)

abbrev pub fault_of_joints : (blocks i : ℕ) → List Joint → Option PlanFault
fault_of_joints blocks i [] = None
fault_of_joints blocks i (joint ∷ joints) =
    option_or (unless (is_joint blocks joint) (UnknownBlock (JointPart i)))
    (fault_of_joints blocks (i + 1) joints)

abbrev pub fault_of_turnouts : (blocks i : ℕ) → List Turnout → Option PlanFault
fault_of_turnouts blocks i [] = None
fault_of_turnouts blocks i (turnout ∷ turnouts) =
    option_or (unless (is_turnout blocks turnout) (UnknownBlock (TurnoutPart i)))
    (fault_of_turnouts blocks (i + 1) turnouts)

abbrev pub fault_of_motors : List NodeSpec → (i : ℕ) → List Turnout → Option PlanFault
fault_of_motors specs i [] = None
fault_of_motors specs i (turnout ∷ turnouts) =
    option_or (none_of (decoder_of specs turnout.switch) (UnknownDecoder (TurnoutPart i)))
    (fault_of_motors specs (i + 1) turnouts)

-- one of the trains has the decoder
abbrev pub has_decoder : (decoder : ℕ) → List Train → Bool
has_decoder decoder trains = list_any (λ train. train.decoder == decoder) trains

-- the block in which the track behind a train ends
abbrev pub block_behind : Network → Train → Block
block_behind network train =
    slice_index_or network.blocks
    (last_on network (turned_place (front_of train.position)) (span_of train)).block default_block

-- the first fault of a train, before the later ones
abbrev pub fault_of_train : List NodeSpec → Network → (i : ℕ) → Train → (rest : List Train)
    → Option PlanFault
fault_of_train specs network i train rest =
    option_or (unless (is_loco (slice_get specs train.decoder)) (UnknownDecoder (TrainPart i)))
    (option_or (unless (not (has_decoder train.decoder rest)) (DecoderTwice i))
    (option_or
    (unless (nat_lt train.position.block (length network.blocks)) (UnknownBlock (TrainPart i)))
    (option_or (unless (nat_le 1 train.length) (TrainLength i))
    (option_or (unless (is_momentum train.momentum) (Momentum i))
    (option_or (unless (has_front network.blocks train.position) (OffTrack i))
    (unless (is_room network train)
    (LongTrain i train.decoder (block_behind network train).name)))))))

abbrev pub fault_of_trains : List NodeSpec → Network → (i : ℕ) → List Train → Option PlanFault
fault_of_trains specs network i [] = None
fault_of_trains specs network i (train ∷ trains) =
    option_or (fault_of_train specs network i train trains)
    (fault_of_trains specs network (i + 1) trains)

-- what is wrong with the track of a plan first, if something is
abbrev pub fault_of_track : List NodeSpec → Plan → Option PlanFault
fault_of_track specs plan =
    option_or (fault_of_blocks 0 plan.blocks.items)
    (option_or (fault_of_joints (length plan.blocks.items) 0 plan.joints.items)
    (option_or (fault_of_turnouts (length plan.blocks.items) 0 plan.turnouts.items)
    (option_or (option_map EndTwice (named_twice (ends_of plan.joints.items plan.turnouts.items)))
    (fault_of_motors specs 0 plan.turnouts.items))))

-- the first fault of each train, and then of their speeds
abbrev pub fault_of_all_trains : List NodeSpec → Network → List Train → Option PlanFault
fault_of_all_trains specs network trains =
    option_or (fault_of_trains specs network 0 trains)
    (fault_of_speeds (shortest None network.blocks) 0 trains)

-- and then with its trains
abbrev pub fault_of : List NodeSpec → Plan → Option PlanFault
fault_of specs plan =
    option_or (fault_of_track specs plan)
    (fault_of_all_trains specs (network_of specs plan) plan.trains.items)
