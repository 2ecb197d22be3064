-- The picture of a run as a text: a Scalable Vector Graphics image (W3C, SVG 1.1), 1,200 pixels
-- wide.
use Rattle.std.specs.Prelude.{ℕ, ◌+◌, ◌-◌, ◌*◌, ◌/◌, ◌==◌, ◌&&◌, Bool, true, false, if◌then◌else◌, List, [], ◌∷◌, ◌++◌, Option, Some, None, codes, max}
use Rattle.std.specs.Fmt.{decimal}
use Rattle.std.specs.List.{fold}
use Rattle.dcc_packet.specs.declared.address.Address.TheVariants.{Short, Long}
use Rattle.trace.specs.declared.reported_state.ReportedState.{ReportedState}
use Rattle.trace.specs.declared.reported_state.ReportedState.TheVariants as stands
use Rattle.timeline.specs.declared.event.Event.{Event}
use Rattle.timeline.specs.declared.event.Event.TheVariants.{TurnBegan, Shown, Message}
use Rattle.timeline.specs.declared.mark.Mark.{Mark}
use Rattle.timeline.specs.declared.moment.Moment.{Moment}
use Rattle.trace.specs.Traffic.{turns_since}
use Rattle.timeline.specs.declared.row.Kind.{Kind}
use Rattle.timeline.specs.declared.row.Kind.TheVariants.{Packets, Speed, Stops, Emergencies, Direction, Function, Output}
use Rattle.timeline.specs.declared.row.Row.{Row}
use Rattle.timeline.specs.declared.row.Row.TheVariants.{Strip, Lane}
use Rattle.timeline.specs.declared.row.Part.{Part}
use Rattle.timeline.specs.declared.row.Part.TheVariants.{Locomotives, Accessories, Everyone, Idle, Unpowered, Messages}
use Rattle.timeline.specs.Rows.{height_of, rows_of}

-- Turns are counted from 1, those among them whose lines are left out; events before the first are
-- at 0.
abbrev pub moment_after : Moment → Event → Moment
moment_after before (TurnBegan turn) = record { turn = before.turn + turns_since before.number turn.number; number = turn.number }
moment_after before (Shown seen) = before
moment_after before Message = before

abbrev pub start : Moment
start = record { turn = 0; number = 0 }

abbrev pub moment_from : Moment → List Event → Moment
moment_from before events = fold moment_after before events

-- a thousand pixels for all turns, after 170 for names
abbrev pub x_of : (turns turn : ℕ) → ℕ
x_of turns turn = 170 + turn * 1000 / max 1 turns

-- The events of which a row shows anything, in order.

abbrev pub with_mark : ℕ → Option ℕ → List Mark → List Mark
with_mark x (Some height) marks = record { x = x; height = height } ∷ marks
with_mark x None marks = marks

unfoldable pub marks_of : Row → (turns : ℕ) → Moment → List Event → List Mark
marks_of row turns before [] = []
marks_of row turns before (event ∷ events) =
    with_mark (x_of turns (moment_after before event).turn) (height_of row event) (marks_of row turns (moment_after before event) events)

-- a row that is a stepped line, and not of separate marks
abbrev pub is_line : Row → Bool
is_line (Strip part) = false
is_line (Lane lane Packets) = false
is_line (Lane lane Stops) = false
is_line (Lane lane Emergencies) = false
is_line row = true

-- The strokes of a separate mark, from its point on (SVG 1.1, 8.3): a tick up or down, one through,
-- a dot, a cross.

abbrev pub part_strokes : Part → List ℕ
part_strokes Locomotives = codes "v-6"
part_strokes Accessories = codes "v6"
part_strokes Everyone = codes "m0-6v12"
part_strokes Idle = codes "m-1-1h2v2h-2z"
part_strokes Unpowered = codes "m-3-3l6 6m0-6l-6 6"
part_strokes Messages = codes "v-6"

abbrev pub strokes_of : Row → List ℕ
strokes_of (Strip part) = part_strokes part
strokes_of (Lane lane Packets) = codes "m0 6v-12"
strokes_of (Lane lane Stops) = codes "v6"
strokes_of (Lane lane Emergencies) = codes "m-3-3l6 6m0-6l-6 6"
strokes_of row = []

abbrev pub point_text : ℕ → ℕ → List ℕ
point_text x y = codes "M" ++ decimal x ++ codes " " ++ decimal y

-- along to the next point, and up or down to it
abbrev pub step_text : ℕ → ℕ → List ℕ
step_text x y = codes "H" ++ decimal x ++ codes "V" ++ decimal y

-- A stepped line begins at its first mark, with a dot, so that a single mark is visible, and
-- continues to each other. A separate mark is drawn at its position.
abbrev pub joined_text : Option Mark → ℕ → ℕ → List ℕ
joined_text None x y = point_text x y ++ codes "h1"
joined_text (Some last) x y = step_text x y

abbrev pub mark_text : Row → ℕ → Option Mark → Mark → List ℕ
mark_text row base last mark =
    if is_line row
    then joined_text last mark.x (base - mark.height)
    else point_text mark.x (base - mark.height) ++ strokes_of row

abbrev pub is_same : Option Mark → Mark → Bool
is_same (Some last) mark = (last.x == mark.x) && (last.height == mark.height)
is_same None mark = false

-- one that is the same as the mark before it is left out
abbrev pub next_text : Row → ℕ → Option Mark → Mark → List ℕ
next_text row base last mark = if is_same last mark then [] else mark_text row base last mark

unfoldable pub marks_text : Row → ℕ → Option Mark → List Mark → List ℕ
marks_text row base last [] = []
marks_text row base last (mark ∷ marks) = next_text row base last mark ++ marks_text row base (Some mark) marks

-- The name of a row.

abbrev pub part_name : Part → List ℕ
part_name Locomotives = codes "to locomotives"
part_name Accessories = codes "to accessories"
part_name Everyone = codes "to all"
part_name Idle = codes "idle"
part_name Unpowered = codes "power off"
part_name Messages = codes "messages"

abbrev pub module_name : ℕ → List ℕ
module_name number = codes "packets, module " ++ decimal number

abbrev pub address_name : ReportedState → List ℕ
address_name (stands.Loco (Short number) motion forward functions) = codes "packets, short " ++ decimal number
address_name (stands.Loco (Long number) motion forward functions) = codes "packets, long " ++ decimal number
address_name (stands.Accessory number outputs) = module_name number

abbrev pub kind_name : Kind → ReportedState → List ℕ
kind_name Packets reported_state = address_name reported_state
kind_name Speed reported_state = codes "speed"
kind_name Stops reported_state = codes "stop"
kind_name Emergencies reported_state = codes "emergency"
kind_name Direction reported_state = codes "forward is high"
kind_name (Function number) reported_state = codes "F" ++ decimal number
kind_name (Output number) reported_state = codes "output " ++ decimal number

abbrev pub name_of : Row → List ℕ
name_of (Strip part) = part_name part
name_of (Lane lane kind) = lane.name ++ codes " " ++ kind_name kind lane.reported_state

-- The look of a row: thick, dashed, thin or dotted, and never by colour.
abbrev pub style_of : Row → List ℕ
style_of (Lane lane Speed) = codes "2"
style_of (Lane lane Direction) = codes "1\" stroke-dasharray=\"6 3"
style_of (Lane lane (Output number)) = codes "1\" stroke-dasharray=\"2 2"
style_of row = codes "1"

-- The height of a row, with the space above it.
abbrev pub room_of : Row → ℕ
room_of (Strip part) = 18
room_of (Lane lane Packets) = 30
room_of (Lane lane Speed) = 60
room_of row = 16

abbrev pub label_open : ℕ → List ℕ
label_open base = codes "<text x=\"8\" y=\"" ++ decimal base ++ codes "\">"

abbrev pub base_line : ℕ → List ℕ
base_line base = codes "</text>\n<path stroke-width=\"0.3\" d=\"M170 " ++ decimal base ++ codes "H1170\"/>\n"

abbrev pub path_open : List ℕ → List ℕ
path_open style = codes "<path stroke-width=\"" ++ style ++ codes "\" d=\""

-- a number between two texts
abbrev pub framed : List ℕ → ℕ → List ℕ → List ℕ
framed first number second = first ++ decimal number ++ second

-- The scale of a speed: thin lines at the last step and at half of it, with labels.

abbrev pub is_speed : Row → Bool
is_speed (Lane lane Speed) = true
is_speed row = false

unfoldable pub scale_at : (base : ℕ) → List ℕ
scale_at base =
    framed (codes "<path stroke-width=\"0.3\" stroke-dasharray=\"1 3\" d=\"M170 ") (base - 48) (codes "H1170M170 ") ++ framed [] (base - 24) (codes "H1170\"/>\n") ++ framed (codes "<text font-size=\"8\" x=\"1174\" y=\"") (base - 45) (codes "\">100%</text>\n") ++ framed (codes "<text font-size=\"8\" x=\"1174\" y=\"") (base - 21) (codes "\">50%</text>\n")

unfoldable pub scale_text : Row → (base : ℕ) → List ℕ
scale_text row base = if is_speed row then scale_at base else []

-- Its name, its base from the first turn to the last, its scale, and its marks.

unfoldable pub head_text : Row → (base : ℕ) → List ℕ
head_text row base = label_open base ++ name_of row ++ base_line base ++ scale_text row base ++ path_open (style_of row)

unfoldable pub row_text : Row → (turns : ℕ) → List Event → (base : ℕ) → List ℕ
row_text row turns events base = head_text row base ++ marks_text row base None (marks_of row turns start events) ++ codes "\"/>\n"

-- rows one below another, the first below this height
unfoldable pub rows_text : (turns : ℕ) → List Event → (top : ℕ) → List Row → List ℕ
rows_text turns events top [] = []
rows_text turns events top (row ∷ rows) = row_text row turns events (top + room_of row) ++ rows_text turns events (top + room_of row) rows

-- the bottom of the rows
abbrev pub bottom_of : (top : ℕ) → List Row → ℕ
bottom_of top rows = fold (λ bottom row. bottom + room_of row) top rows

abbrev pub opening : (bottom : ℕ) → List ℕ
opening bottom =
    codes "<svg xmlns=\"http://www.w3.org/2000/svg\" width=\"1200\" height=\"" ++ decimal (bottom + 60)
    ++ codes "\" font-family=\"sans-serif\" font-size=\"11\" fill=\"none\" stroke=\"black\">\n"

abbrev pub title : List ℕ
title =
    codes "<title>What station printed, turn by turn</title>\n"
    ++ codes "<style>text{fill:black;stroke:none}</style>\n"
    ++ codes "<rect width=\"1200\" height=\"100%\" fill=\"white\" stroke=\"none\"/>\n"
    ++ codes "<text x=\"8\" y=\"22\" font-size=\"16\">What station printed, turn by turn</text>\n"

-- The number of a turn above a thin line from there to the end of the rows.
unfoldable pub turn_at : (x turn bottom : ℕ) → List ℕ
turn_at x turn bottom =
    framed (codes "<text text-anchor=\"middle\" x=\"") x (codes "\" y=\"46\">") ++ framed [] turn (codes "</text>\n") ++ framed (codes "<path stroke-width=\"0.3\" stroke-dasharray=\"1 3\" d=\"M") x (codes " 50V") ++ framed [] bottom (codes "\"/>\n")

unfoldable pub turn_text : (turns turn bottom : ℕ) → List ℕ
turn_text turns turn bottom = turn_at (x_of turns turn) turn bottom

-- four quarters
abbrev pub axis : (turns bottom : ℕ) → List ℕ
axis turns bottom =
    turn_text turns 0 bottom ++ turn_text turns (turns / 4) bottom ++ turn_text turns (turns / 2) bottom
    ++ turn_text turns (3 * turns / 4) bottom ++ turn_text turns turns bottom

abbrev pub legend : (bottom : ℕ) → List ℕ
legend bottom =
    codes "<g transform=\"translate(8 " ++ decimal (bottom + 28) ++ codes ")\">\n"
    ++ codes "<text>Packets: tick up to a locomotive, tick down to an accessory decoder, long tick to all or to one decoder, dot idle, cross no power, blank idle or no power, not printed.</text>\n"
    ++ codes "<text y=\"16\">Speed: in hundredths of the last step; below it a tick where it stands by a stop, a cross by an emergency stop. Dashed: direction. Thin: functions. Dotted: outputs.</text>\n"
    ++ codes "</g>\n</svg>\n"

abbrev pub picture_with : (turns bottom : ℕ) → List Event → List Row → List ℕ
picture_with turns bottom events rows = opening bottom ++ title ++ axis turns bottom ++ rows_text turns events 52 rows ++ legend bottom

abbrev pub picture_of : List Event → List ℕ
picture_of events = picture_with (moment_from start events).turn (bottom_of 52 (rows_of events)) events (rows_of events)
