-- What pages are told of: the decoders of a layout, and the plan and the trains of a railway. Each
-- of these items has a message, in the words of docs/PAGES.md, and a state.
use Rattle.std.specs.Prelude.{ℕ, ◌+◌, ◌&&◌, Bool, true, false, List, [], ◌∷◌, ◌++◌, length, map, replicate, Option, Some, None, codes, slice_get}
use Rattle.std.specs.Fmt.{decimal}
use Rattle.layout_core.specs.declared.decoder_state.DecoderState.{DecoderState}
use Rattle.layout_core.specs.declared.node.Node.{Node}
use Rattle.layout_core.specs.DecoderStates.{decoder_line, decoder_state_of, same_decoder_state}
use Rattle.railway.specs.declared.block.Block.{Block}
use Rattle.railway.specs.declared.block.End.TheVariants.{A, B}
use Rattle.railway.specs.declared.joint.Joint.{Joint}
use Rattle.railway.specs.declared.joint.TurnoutState.{TurnoutState}
use Rattle.railway.specs.declared.train.TrainState.{TrainState}
use Rattle.railway.specs.Network.{Network, is_moving}
use Rattle.railway.specs.Railway.{RailwayState, shown_speed}
use Rattle.railway.specs.Turnouts.{same_bool}
use Rattle.roster.specs.Decoders.{decoder_name}
use Rattle.roster.specs.Entry.{Entry}
use Rattle.pages.specs.declared.items.ItemState.{ItemState}
use Rattle.pages.specs.declared.items.ItemState.TheVariants.{Decoder, Part, Train, Turnout}
use Rattle.railway_text.specs.Turnouts.{side_of}
use Rattle.railway_text.specs.TrainPlace.{place_of, same_train_place, train_line}
use Rattle.pages.specs.Words.{end_text, point_text}

-- a decoder in this state: NODE and its line, under the name of its entry
abbrev pub line_at : Entry → DecoderState → List ℕ
line_at entry decoder_state = decoder_line entry.name entry.spec decoder_state

abbrev pub node_message : Entry → DecoderState → List ℕ
node_message entry decoder_state = codes "NODE " ++ line_at entry decoder_state

unfoldable pub block_message : Block → List ℕ
block_message block =
    codes "BLOCK " ++ block.name.bytes ++ codes " " ++ decimal block.length
    ++ point_text A block.point_a ++ point_text B block.point_b

unfoldable pub joint_message : List Block → Joint → List ℕ
joint_message blocks joint =
    codes "JOINT " ++ end_text blocks joint.one ++ codes " " ++ end_text blocks joint.two

-- and how it lies
unfoldable pub turnout_message : List Block → TurnoutState → List ℕ
turnout_message blocks state =
    codes "TURNOUT " ++ decimal state.turnout.switch ++ codes " "
    ++ end_text blocks state.turnout.common ++ codes " " ++ end_text blocks state.turnout.closed
    ++ codes " " ++ end_text blocks state.turnout.thrown ++ codes " " ++ side_of state

-- The messages, in order: one for each decoder of the roster, and one for each block, joint,
-- turnout and train of the plan.

abbrev pub decoder_messages : List Entry → List Node → List (List ℕ)
decoder_messages [] nodes = []
decoder_messages (entry ∷ entries) [] = []
decoder_messages (entry ∷ entries) (node ∷ nodes) =
    node_message entry (decoder_state_of node) ∷ decoder_messages entries nodes

-- a train has the name of its decoder
abbrev pub message_of_train : List Entry → Network → TrainState → List ℕ
message_of_train entries network train =
    train_line (decoder_name (slice_get entries train.decoder)) network.blocks
    (place_of network.blocks train (shown_speed network train))

abbrev pub plan_messages : List Entry → RailwayState → List (List ℕ)
plan_messages entries railway =
    map block_message railway.network.blocks
    ++ (map (joint_message railway.network.blocks) railway.network.joints
    ++ (map (turnout_message railway.network.blocks) railway.network.turnouts
    ++ map (message_of_train entries railway.network) railway.trains))

abbrev pub railway_messages : List Entry → Option RailwayState → List (List ℕ)
railway_messages entries None = []
railway_messages entries (Some railway) = plan_messages entries railway

abbrev pub item_messages : List Entry → List Node → Option RailwayState → List (List ℕ)
item_messages entries nodes railway =
    decoder_messages entries nodes ++ railway_messages entries railway

-- The present states, in the same order. Blocks and joints have one state.

abbrev pub state_of_decoder : Node → ItemState
state_of_decoder node = Decoder (decoder_state_of node)

abbrev pub state_of_turnout : TurnoutState → ItemState
state_of_turnout state = Turnout (is_moving state) state.is_thrown

abbrev pub state_of_train : Network → TrainState → ItemState
state_of_train network train = Train (place_of network.blocks train (shown_speed network train))

abbrev pub parts_of : Network → ℕ
parts_of network = length network.blocks + length network.joints

abbrev pub plan_states : RailwayState → List ItemState
plan_states railway =
    replicate (parts_of railway.network) Part
    ++ (map state_of_turnout railway.network.turnouts
    ++ map (state_of_train railway.network) railway.trains)

abbrev pub railway_states : Option RailwayState → List ItemState
railway_states None = []
railway_states (Some railway) = plan_states railway

abbrev pub item_states : List Node → Option RailwayState → List ItemState
item_states nodes railway = map state_of_decoder nodes ++ railway_states railway

-- the most items: 64 decoders, 64 blocks, 128 joints, 64 turnouts and 64 trains
abbrev pub max_items : ℕ
max_items = 384

abbrev pub same_item_state : ItemState → ItemState → Bool
same_item_state (Decoder one) (Decoder other) = same_decoder_state one other
same_item_state Part Part = true
same_item_state (Turnout moving thrown) (Turnout moving' thrown') =
    same_bool moving moving' && same_bool thrown thrown'
same_item_state (Train one) (Train other) = same_train_place one other
same_item_state one other = false
