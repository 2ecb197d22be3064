-- The rows of a picture, and what each shows of an event (own).
use Rattle.std.specs.Prelude.{ℕ, ◌*◌, ◌/◌, ◌==◌, ◌&&◌, nat_lt, Bool, true, false, if◌then◌else◌, List, [], ◌∷◌, ◌++◌, Option, Some, None, min}
use Rattle.std.specs.List.{fold, list_any}
use Rattle.std.specs.Str.{bytes_eq}
use Rattle.dcc_packet.specs.Reading.{instruction_of}
use Rattle.dcc_packet.specs.declared.address.Address.{Address}
use Rattle.dcc_packet.specs.declared.address.Address.TheVariants.{Short, Long}
use Rattle.dcc_packet.specs.declared.instr.Instr.{Instr}
use Rattle.dcc_packet.specs.declared.instr.Instr.TheVariants as says
use Rattle.dcc_packet.specs.declared.steps.Motion.{Motion}
use Rattle.dcc_packet.specs.declared.steps.Motion.TheVariants.{Stop, Emergency, Step}
use Rattle.trace.specs.Node.{is_on, last_of}
use Rattle.trace.specs.declared.reported_state.Seen.{Seen}
use Rattle.trace.specs.declared.reported_state.ReportedState.{ReportedState}
use Rattle.trace.specs.declared.reported_state.ReportedState.TheVariants as stands
use Rattle.timeline.specs.declared.event.Event.{Event}
use Rattle.timeline.specs.declared.event.Event.TheVariants.{TurnBegan, Shown, Message}
use Rattle.timeline.specs.declared.row.Kind.{Kind}
use Rattle.timeline.specs.declared.row.Kind.TheVariants.{Packets, Speed, Stops, Emergencies, Direction, Function, Output}
use Rattle.timeline.specs.declared.row.Row.{Row}
use Rattle.timeline.specs.declared.row.Row.TheVariants.{Strip, Lane}
use Rattle.timeline.specs.declared.row.Part.{Part}
use Rattle.timeline.specs.declared.row.Part.TheVariants.{Locomotives, Accessories, Everyone, Idle, Unpowered, Messages}

-- The receivers of a packet: a locomotive, an accessory decoder, none, or all.
abbrev pub part_of : Option Instr → Part
part_of (Some (says.Speed address d low)) = Locomotives
part_of (Some (says.Speed128 address d s)) = Locomotives
part_of (Some (says.GroupOne address bits)) = Locomotives
part_of (Some (says.GroupTwo address bits)) = Locomotives
part_of (Some (says.GroupThree address bits)) = Locomotives
part_of (Some (says.Accessory number pair closed on)) = Accessories
part_of (Some says.Idle) = Idle
part_of (Some says.Reset) = Everyone
part_of (Some (says.StopAll emergency)) = Everyone
part_of None = Everyone

-- the numbers of the parts, which distinguish them
abbrev pub place_of : Part → ℕ
place_of Locomotives = 0
place_of Accessories = 1
place_of Everyone = 2
place_of Idle = 3
place_of Unpowered = 4
place_of Messages = 5

abbrev pub is_part : Part → Part → Bool
is_part one other = place_of one == place_of other

-- what a turn sent
abbrev pub part_sent : Option (List ℕ) → Part
part_sent (Some packet) = part_of (instruction_of packet)
part_sent None = Unpowered

-- the event of a turn, or a message
abbrev pub is_in : Part → Event → Bool
is_in part (TurnBegan turn) = is_part part (part_sent turn.packet)
is_in part (Shown seen) = false
is_in part Message = is_part part Messages

abbrev pub is_address : Address → Address → Bool
is_address (Short one) (Short other) = one == other
is_address (Long one) (Long other) = one == other
is_address (Short one) (Long other) = false
is_address (Long one) (Short other) = false

-- A packet is sent to this locomotive, or to this module.

abbrev pub is_for_loco : Address → Option Instr → Bool
is_for_loco own (Some (says.Speed address d low)) = is_address own address
is_for_loco own (Some (says.Speed128 address d s)) = is_address own address
is_for_loco own (Some (says.GroupOne address bits)) = is_address own address
is_for_loco own (Some (says.GroupTwo address bits)) = is_address own address
is_for_loco own (Some (says.GroupThree address bits)) = is_address own address
is_for_loco own (Some (says.Accessory number pair closed on)) = false
is_for_loco own (Some says.Idle) = false
is_for_loco own (Some says.Reset) = false
is_for_loco own (Some (says.StopAll emergency)) = false
is_for_loco own None = false

abbrev pub is_for_module : ℕ → Option Instr → Bool
is_for_module own (Some (says.Accessory number pair closed on)) = own == number
is_for_module own instr = false

abbrev pub is_for : ReportedState → Option Instr → Bool
is_for (stands.Loco address motion forward functions) instr = is_for_loco address instr
is_for (stands.Accessory number outputs) instr = is_for_module number instr

-- what a turn sent is for the decoder of this state
abbrev pub is_sent_to : ReportedState → Option (List ℕ) → Bool
is_sent_to reported_state (Some packet) = is_for reported_state (instruction_of packet)
is_sent_to reported_state None = false

-- Heights are in pixels above the base of a row.

-- for the last step 48, for each other step that fraction of it, rounded down
abbrev pub speed_height : Motion → ℕ
speed_height Stop = 0
speed_height Emergency = 0
speed_height (Step steps n) = min 48 (48 * n / last_of steps)

abbrev pub mark_if : Bool → Option ℕ
mark_if is = if is then Some 6 else None

-- one that is on, or forward, 8
abbrev pub switch_height : Bool → ℕ
switch_height is = if is then 8 else 0

abbrev pub is_stop : Motion → Bool
is_stop Stop = true
is_stop Emergency = false
is_stop (Step steps n) = false

abbrev pub is_emergency : Motion → Bool
is_emergency Stop = false
is_emergency Emergency = true
is_emergency (Step steps n) = false

-- what a row of this kind shows of a decoder in this state
abbrev pub state_height : Kind → ReportedState → Option ℕ
state_height Speed (stands.Loco address motion forward functions) = Some (speed_height motion)
state_height Stops (stands.Loco address motion forward functions) = mark_if (is_stop motion)
state_height Emergencies (stands.Loco address motion forward functions) = mark_if (is_emergency motion)
state_height Direction (stands.Loco address motion forward functions) = Some (switch_height forward)
state_height (Function number) (stands.Loco address motion forward functions) = Some (switch_height (is_on functions number))
state_height (Output number) (stands.Loco address motion forward functions) = None
state_height Packets (stands.Loco address motion forward functions) = None
state_height (Output number) (stands.Accessory own outputs) = Some (switch_height (is_on outputs number))
state_height Speed (stands.Accessory own outputs) = None
state_height Stops (stands.Accessory own outputs) = None
state_height Emergencies (stands.Accessory own outputs) = None
state_height Direction (stands.Accessory own outputs) = None
state_height (Function number) (stands.Accessory own outputs) = None
state_height Packets (stands.Accessory own outputs) = None

abbrev pub is_packets : Kind → Bool
is_packets Packets = true
is_packets kind = false

-- what the row of this kind shows of an event, in the lane of a decoder given in its first state
abbrev pub lane_height : Seen → Kind → Event → Option ℕ
lane_height lane kind (TurnBegan turn) = mark_if (is_packets kind && is_sent_to lane.reported_state turn.packet)
lane_height lane kind (Shown seen) = if bytes_eq seen.name lane.name then state_height kind seen.reported_state else None
lane_height lane kind Message = None

abbrev pub height_of : Row → Event → Option ℕ
height_of (Strip part) event = mark_if (is_in part event)
height_of (Lane lane kind) event = lane_height lane kind event

-- for a function or an output only that it is on
abbrev pub is_switch : Kind → Bool
is_switch (Function number) = true
is_switch (Output number) = true
is_switch kind = false

abbrev pub counts : Bool → Option ℕ → Bool
counts switch (Some height) = if switch then nat_lt 0 height else true
counts switch None = false

-- a row of this kind has anything to show
abbrev pub is_shown : Seen → List Event → Kind → Bool
is_shown lane events kind = list_any (λ event. counts (is_switch kind) (lane_height lane kind event)) events

-- a lane has these rows, of which those are shown that have anything to show
abbrev pub kinds : List Kind
kinds =
    Packets ∷ Speed ∷ Stops ∷ Emergencies ∷ Direction
    ∷ Function 0 ∷ Function 1 ∷ Function 2 ∷ Function 3 ∷ Function 4 ∷ Function 5 ∷ Function 6
    ∷ Function 7 ∷ Function 8 ∷ Function 9 ∷ Function 10 ∷ Function 11 ∷ Function 12
    ∷ Output 0 ∷ Output 1 ∷ Output 2 ∷ Output 3 ∷ Output 4 ∷ Output 5 ∷ Output 6 ∷ Output 7 ∷ []

abbrev pub row_if : Bool → Row → List Row
row_if is row = if is then row ∷ [] else []

unfoldable pub rows_in : Seen → List Event → List Kind → List Row
rows_in lane events [] = []
rows_in lane events (kind ∷ more) = row_if (is_shown lane events kind) (Lane lane kind) ++ rows_in lane events more

-- Decoders in the order of their first line.

abbrev pub is_known : List Seen → List ℕ → Bool
is_known lanes name = list_any (λ lane. bytes_eq lane.name name) lanes

abbrev pub with_lane : List Seen → Event → List Seen
with_lane lanes (TurnBegan turn) = lanes
with_lane lanes (Shown seen) = if is_known lanes seen.name then lanes else lanes ++ seen ∷ []
with_lane lanes Message = lanes

abbrev pub lanes_of : List Event → List Seen
lanes_of events = fold with_lane [] events

unfoldable pub lane_rows : List Event → List Seen → List Row
lane_rows events [] = []
lane_rows events (lane ∷ lanes) = rows_in lane events kinds ++ lane_rows events lanes

-- the strip of packets and messages, and then the lanes
abbrev pub strip : List Row
strip = Strip Locomotives ∷ Strip Accessories ∷ Strip Everyone ∷ Strip Idle ∷ Strip Unpowered ∷ Strip Messages ∷ []

abbrev pub rows_of : List Event → List Row
rows_of events = strip ++ lane_rows events (lanes_of events)
