-- The log of a bus, line by line, in the words of docs/CLIENTS.md, *What is printed*.
use Rattle.std.specs.Prelude.{ℕ, ◌+◌, ◌/◌, ◌%◌, ◌==◌, slice_index, length, Bool, true, false, ◌&&◌, not, if◌then◌else◌, nat_lt, List, [], ◌∷◌, ◌++◌, Option, Some, None, codes}
use Rattle.std.specs.Fmt.{decimal}
use Rattle.std.specs.Str.{bytes_eq}
use Rattle.cv_memory.specs.declared.cv_change.CvChange.{CvChange}
use Rattle.cv_memory.specs.declared.cv_change.CvChange.TheVariants.{Stored, Reset}
use Rattle.dcc_packet.specs.Sent.{idle_bytes}
use Rattle.layout_core.specs.declared.decoder_state.DecoderState.{DecoderState}
use Rattle.layout_core.specs.DecoderStates.{decoder_line, same_decoder_state}
use Rattle.ln_ops.specs.Message.{op_of}
use Rattle.ln_ops.specs.declared.op.Op.{Op}
use Rattle.ln_ops.specs.declared.op.Op.TheVariants.{LongAck, Other, SlotRead, SlotData}
use Rattle.programming_track.specs.declared.packet_end.NamedChange.{NamedChange}
use Rattle.railway.specs.declared.train.TrainState.{TrainState}
use Rattle.roster.specs.Entry.{Entry}
use Rattle.show_text.specs.Lines.{track_text}
use Rattle.describe.specs.Messages.{message_words}
use Rattle.bus.specs.declared.outcome.Outcome.{Outcome}
use Rattle.bus.specs.declared.outcome.Outcome.TheVariants.{Nothing, Connected, Disconnected, Rejected, Reported, Programmed, Sent, TurnBegan, TurnsRequested, StatesRequested, PlaceRequested, DeviceRequested, Placed, DeviceAnswered}
use Rattle.text.specs.Hex.{hex_words}
use Rattle.bus_log.specs.declared.turn_times.TurnTimes.{TurnTimes}
use Rattle.bus_log.specs.Times.{first_times, times_after}

-- The state of a printer: the turns, the times of the one under way, the state of each decoder when it
-- was last printed, or at the start, and the trains at the last outcome, or at the start.
pub record PrinterState : Type 0 where
  pub turns : ℕ
  pub times : TurnTimes
  pub decoder_states : List DecoderState
  pub trains : List TrainState

-- at the start
abbrev pub initial_printer_state : (decoder_states : List DecoderState) → List TrainState → PrinterState
initial_printer_state decoder_states trains = record { turns = 0; times = first_times; decoder_states = decoder_states; trains = trains }

-- One more. A count stays at 2 ^ 64 - 1: that many turns last three thousand million years.
abbrev pub saturating_successor : ℕ → ℕ
saturating_successor count = if nat_lt count 0xFFFFFFFFFFFFFFFF then count + 1 else count

-- the printer's state after an outcome, with the decoders in these states, and these trains
abbrev pub printer_state_after : PrinterState → Outcome → (decoder_states : List DecoderState) → List TrainState → PrinterState
printer_state_after before (TurnBegan packet) decoder_states trains = record before { turns = saturating_successor before.turns; times = times_after before.times (TurnBegan packet); decoder_states = decoder_states; trains = trains }
printer_state_after before other decoder_states trains = record before { trains = trains }

-- the action of a client, 0 to 7; the log counts clients from 1
abbrev pub client_line : (client : ℕ) → (does : List ℕ) → List ℕ
client_line client does = codes "client " ++ decimal (client + 1) ++ does

-- the packet of a turn, if packets are printed; idle packets are not
abbrev pub packet_lines : (track : Bool) → (turn : ℕ) → Option (List ℕ) → List (List ℕ)
packet_lines track turn None = []
packet_lines track turn (Some packet) = if track && not (bytes_eq packet idle_bytes) then track_text turn packet ∷ [] else []

-- a packet of the programming track, with the turns of the main track so far
abbrev pub programming_line : (turns : ℕ) → (packet : List ℕ) → List ℕ
programming_line turns packet = codes "programming " ++ decimal turns ++ hex_words packet

-- what it changed of the decoder's variables: the number of one, which is its address and one, and its
-- value; or all are as in the file
abbrev pub change_text : CvChange → List ℕ
change_text (Stored address value) = codes " " ++ decimal (address + 1) ++ codes " = " ++ decimal value
change_text Reset = codes " as in the file"

abbrev pub change_line : NamedChange → List ℕ
change_line named = codes "cv " ++ named.name.bytes ++ change_text named.change

abbrev pub change_lines : Option NamedChange → List (List ℕ)
change_lines None = []
change_lines (Some change) = change_line change ∷ []

-- the packet, if packets are printed
abbrev pub sent_lines : (track : Bool) → (turns : ℕ) → (packet : List ℕ) → List (List ℕ)
sent_lines track turns packet = if track then programming_line turns packet ∷ [] else []

-- and then the change that it made, if it made one
abbrev pub programming_lines : (track : Bool) → (turns : ℕ) → (packet : List ℕ) → Option NamedChange → List (List ℕ)
programming_lines track turns packet change = sent_lines track turns packet ++ change_lines change

-- each decoder whose state has changed, in the roster's order
abbrev pub changed_lines : List Entry → (before decoder_states : List DecoderState) → List (List ℕ)
changed_lines [] before decoder_states = []
changed_lines (entry ∷ entries) [] decoder_states = []
changed_lines (entry ∷ entries) (last ∷ before) [] = []
changed_lines (entry ∷ entries) (last ∷ before) (now ∷ decoder_states) =
    (if same_decoder_state last now then [] else decoder_line entry.name entry.spec now ∷ []) ++ changed_lines entries before decoder_states

-- two spaces before the explanation of a message; nothing if it has none
abbrev pub set_off : (explanation : List ℕ) → List ℕ
set_off [] = []
set_off (first ∷ others) = 32 ∷ 32 ∷ first ∷ others

-- a message: its bytes, and its explanation
abbrev pub sent_line : (message : List ℕ) → List ℕ
sent_line message = codes "message" ++ hex_words message ++ set_off (message_words message)

-- a message that the station neither answers nor obeys
abbrev pub ignored_line : (message : List ℕ) → List ℕ
ignored_line message = sent_line message ++ codes ", ignored"

-- LOCONET.md, *What each message does*: what no throttle sends, and what is no operation of the
-- station
abbrev pub has_no_effect : Op → Bool
has_no_effect (LongAck opc ack) = true
has_no_effect (SlotData fields) = true
has_no_effect Other = true
has_no_effect op = false

abbrev pub unanswered_line : (message : List ℕ) → List ℕ
unanswered_line message = if has_no_effect (op_of message) then ignored_line message else sent_line message

-- a read of a slot (OPC_RQ_SL_DATA) that is answered by its data (OPC_SL_RD_DATA)
abbrev pub is_read : Op → Op → Bool
is_read (SlotRead slot) (SlotData fields) = true
is_read op reply = false

-- a task on the main track, in operations mode: EF 0E 7C PCMD .., bit 2 of PCMD
abbrev pub is_operations : List ℕ → Bool
is_operations bytes =
    length bytes == 14 && slice_index bytes 0 == 0xEF && slice_index bytes 2 == 0x7C && slice_index bytes 3 / 4 % 2 == 1

-- the programmer has no such mode: B4 6F 7F
abbrev pub is_not_implemented : List ℕ → Bool
is_not_implemented bytes =
    length bytes == 4 && slice_index bytes 0 == 0xB4 && slice_index bytes 1 == 0x6F && slice_index bytes 2 == 0x7F

-- the reply to a message, and whether it refuses operations mode
abbrev pub reply_line : (message reply : List ℕ) → List ℕ
reply_line message reply =
    if is_operations message && is_not_implemented reply
    then sent_line reply ++ codes ", operations mode is not implemented" else sent_line reply

-- a message of a client and the reply to it; none for a read of a slot
abbrev pub exchange_lines : (message : List ℕ) → (reply : Option (List ℕ)) → List (List ℕ)
exchange_lines message None = unanswered_line message ∷ []
exchange_lines message (Some reply) =
    if is_read (op_of message) (op_of reply) then [] else sent_line message ∷ reply_line message reply ∷ []

-- The lines of an outcome: clients that connect and disconnect, each message and then its reply
-- (none for a read of a slot), each report of a device, the packet of a turn, and the decoders that
-- it changed; and a packet of the programming track, and the change that it made.
abbrev pub lines_of : (track : Bool) → List Entry → PrinterState → Outcome → (decoder_states : List DecoderState) → List (List ℕ)
lines_of track entries before Nothing decoder_states = []
lines_of track entries before (Connected client) decoder_states = client_line client (codes " joins") ∷ []
lines_of track entries before (Disconnected client) decoder_states = client_line client (codes " leaves") ∷ []
lines_of track entries before (Rejected client reason) decoder_states = []
lines_of track entries before (TurnsRequested client turns) decoder_states = []
lines_of track entries before (StatesRequested client things) decoder_states = []
lines_of track entries before (PlaceRequested client placement) decoder_states = []
lines_of track entries before (DeviceRequested client request) decoder_states = []
lines_of track entries before (Placed client answer) decoder_states = []
lines_of track entries before (DeviceAnswered client answer) decoder_states = []
lines_of track entries before (Sent client message reply) decoder_states = exchange_lines message reply
lines_of track entries before (Reported message) decoder_states = sent_line message ∷ []
lines_of track entries before (Programmed packet change) decoder_states = programming_lines track before.turns packet change
lines_of track entries before (TurnBegan packet) decoder_states = packet_lines track (saturating_successor before.turns) packet ++ changed_lines entries before.decoder_states decoder_states

-- none of these lines, if the log is quiet
abbrev pub lines_unless : (quiet : Bool) → List (List ℕ) → List (List ℕ)
lines_unless quiet lines = if quiet then [] else lines

-- the client is disconnected, because its queue has overflowed
abbrev pub overflow_line : (client : ℕ) → List ℕ
overflow_line client = client_line client (codes " is too slow")

-- the machine was asleep for this number of milliseconds, in which no turns are made
abbrev pub skipped_line : (millis : ℕ) → List ℕ
skipped_line millis = codes "slept " ++ decimal millis ++ codes " ms, left out"
