-- What a client receives that asks how the decoders, the trains, the turnouts or the variables of the
-- programming track stand (own): the line of each, one a round, as it stands then, and NODES OK, TRAINS
-- OK, TURNOUTS OK or CVS OK after the last. Of variables those have a line that differ from the file.
use Rattle.std.specs.Prelude.{ℕ, ◌+◌, nat_lt, if◌then◌else◌, List, [], ◌∷◌, length, map, take, Option, Some, None, slice_set}
use Rattle.std.specs.List.{slice_index_or}
use Rattle.layout_core.specs.declared.node.Node.{Node}
use Rattle.layout_core.specs.Nodes.{spec_of}
use Rattle.layout_core.specs.DecoderStates.{decoder_line, decoder_state_of}
use Rattle.loconet_tcp.specs.ClientLines.{change_line, node_text, state_text, states_ok_text}
use Rattle.loconet_tcp.specs.declared.request.Things.{Things}
use Rattle.loconet_tcp.specs.declared.request.Things.TheVariants.{Nodes, Trains, Turnouts, Variables}
use Rattle.programming_track.specs.Bench.{BenchState, name_at, next_change, number_at, value_at}
use Rattle.railway.specs.declared.joint.TurnoutState.{TurnoutState}
use Rattle.railway.specs.declared.train.TrainState.{TrainState}
use Rattle.railway.specs.Network.{Network}
use Rattle.railway.specs.Railway.{RailwayState, shown_speed}
use Rattle.railway_text.specs.TrainPlace.{place_of, train_line}
use Rattle.railway_text.specs.Turnouts.{turnout_line}
use Rattle.bus.specs.declared.outcome.Outcome.{Outcome}
use Rattle.bus.specs.declared.outcome.Outcome.TheVariants.{Disconnected, StatesRequested}
use Rattle.bus_server.specs.declared.under_way.UnderWay.{UnderWay}

-- the line of a decoder as it stands now, which has at most 640 bytes
abbrev pub line_of : (name : List ℕ) → Node → List ℕ
line_of name node = node_text (take 640 (decoder_line name (spec_of node) (decoder_state_of node)))

-- the lines of all decoders, in order
abbrev pub node_lines : (names : List (List ℕ)) → List Node → List (List ℕ)
node_lines [] nodes = []
node_lines (name ∷ names) [] = []
node_lines (name ∷ names) (node ∷ nodes) = line_of name node ∷ node_lines names nodes

abbrev pub trains_of : Option RailwayState → List TrainState
trains_of None = []
trains_of (Some railway) = railway.trains

abbrev pub turnouts_of : Option RailwayState → List TurnoutState
turnouts_of None = []
turnouts_of (Some railway) = railway.network.turnouts

-- of a train, by the name of its decoder, which has at most 160 bytes
abbrev pub text_of_train : (names : List (List ℕ)) → Network → TrainState → List ℕ
text_of_train names network train =
    train_line (slice_index_or names train.decoder []) network.blocks
    (place_of network.blocks train (shown_speed network train))

abbrev pub line_of_train : (names : List (List ℕ)) → Network → TrainState → List ℕ
line_of_train names network train = state_text (take 160 (text_of_train names network train))

abbrev pub train_lines : (names : List (List ℕ)) → Option RailwayState → List (List ℕ)
train_lines names None = []
train_lines names (Some railway) = map (line_of_train names railway.network) railway.trains

-- and of a turnout
abbrev pub line_of_turnout : TurnoutState → List ℕ
line_of_turnout state = state_text (take 160 (turnout_line state))

abbrev pub turnout_lines : Option RailwayState → List (List ℕ)
turnout_lines railway = map line_of_turnout (turnouts_of railway)

-- of the variable at this position, which has at most 160 bytes, or that all were sent
abbrev pub line_of_change : BenchState → Option ℕ → List ℕ
line_of_change bench None = states_ok_text Variables
line_of_change bench (Some position) =
    state_text (take 160 (change_line (name_at bench position) (number_at position) (value_at bench position)))

-- of the next variable from a position on that differs from the file
abbrev pub variable_line : Option BenchState → (from : ℕ) → List ℕ
variable_line None from = states_ok_text Variables
variable_line (Some bench) from = line_of_change bench (next_change bench from)

-- the lines of these things; those of variables are found one by one
abbrev pub lines_of : (names : List (List ℕ)) → List Node → Option RailwayState → Things → List (List ℕ)
lines_of names nodes railway Nodes = node_lines names nodes
lines_of names nodes railway Trains = train_lines names railway
lines_of names nodes railway Turnouts = turnout_lines railway
lines_of names nodes railway Variables = []

-- for each client, the answer that is under way: of what, and how many lines it has received, or of
-- variables the position from which on they have not been compared
abbrev pub Answers : Type 0
Answers = List (Option UnderWay)

abbrev pub begun : Things → UnderWay
begun things = record { things = things; next = 0 }

-- A request begins the answer, or begins it anew; a client that disconnects receives no more of it.
abbrev pub answers_after : Outcome → Answers → Answers
answers_after (StatesRequested client things) answers = slice_set answers client (Some (begun things))
answers_after (Disconnected client) answers = slice_set answers client None
answers_after other answers = answers

-- what a client receives next: the next line, or that all were sent if there is none
abbrev pub line_at : (lines : Things → List (List ℕ)) → Option BenchState → Things → (next : ℕ) → List ℕ
line_at lines bench Nodes next = slice_index_or (lines Nodes) next (states_ok_text Nodes)
line_at lines bench Trains next = slice_index_or (lines Trains) next (states_ok_text Trains)
line_at lines bench Turnouts next = slice_index_or (lines Turnouts) next (states_ok_text Turnouts)
line_at lines bench Variables next = variable_line bench next

abbrev pub next_line : (lines : Things → List (List ℕ)) → Option BenchState → Option UnderWay → List ℕ
next_line lines bench None = []
next_line lines bench (Some answer) = line_at lines bench answer.things answer.next

-- how many there are of these things
abbrev pub count_of : (names : List (List ℕ)) → Option RailwayState → Things → ℕ
count_of names railway Nodes = length names
count_of names railway Trains = length (trains_of railway)
count_of names railway Turnouts = length (turnouts_of railway)
count_of names railway Variables = 0

-- the answer then; after its last line it is over
abbrev pub after_state : (count : ℕ) → Things → (next : ℕ) → Option UnderWay
after_state count things next =
    if nat_lt next count then Some (record { things = things; next = next + 1 }) else None

abbrev pub after_change : Option ℕ → Option UnderWay
after_change None = None
after_change (Some position) = Some (record { things = Variables; next = position + 1 })

abbrev pub after_variable : Option BenchState → (from : ℕ) → Option UnderWay
after_variable None from = None
after_variable (Some bench) from = after_change (next_change bench from)

abbrev pub answer_after : (count : Things → ℕ) → Option BenchState → Things → (next : ℕ) → Option UnderWay
answer_after count bench Nodes next = after_state (count Nodes) Nodes next
answer_after count bench Trains next = after_state (count Trains) Trains next
answer_after count bench Turnouts next = after_state (count Turnouts) Turnouts next
answer_after count bench Variables next = after_variable bench next

abbrev pub after_line : (count : Things → ℕ) → Option BenchState → Option UnderWay → Option UnderWay
after_line count bench None = None
after_line count bench (Some answer) = answer_after count bench answer.things answer.next
