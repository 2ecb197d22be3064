-- The turns in what `station` prints, and in the log of `lbserver` (own).
use Rattle.std.specs.Prelude.{ℕ, ◌≡◌, ◌-◌, ◌<◌, ◌^◌, ◌&&◌, ◌||◌, Bool, true, false, if◌then◌else◌, nat_eq, nat_lt, nat_le, List, Option, Some, None, codes}
use Rattle.std.specs.List.{starts_with}
use Rattle.std.specs.Str.{bytes_eq}
use Rattle.dcc_packet.specs.Packet.{IsPacket, is_checked}
use Rattle.show_text.specs.Lines.{off_text, track_text}
use Rattle.trace.specs.declared.turn.Turn.{Turn}

-- the first word, up to a space, is `track`
abbrev pub is_of_turn : List ℕ → Bool
is_of_turn line = bytes_eq line (codes "track") || starts_with nat_eq line (codes "track ")

-- the line says that lines of the log had no room: `log: 1,234 lines left out`
abbrev pub is_gap : List ℕ → Bool
is_gap line = starts_with nat_eq line (codes "log: ")

-- the line is printed of this turn, which sent a packet, or nothing while the power was off
abbrev pub Prints : List ℕ → (number : ℕ) → (packet : Option (List ℕ)) → Type 0
Prints line number (Some packet) = IsPacket packet × (is_checked packet ≡ true) × (line ≡ track_text number packet)
Prints line number None = line ≡ off_text number

abbrev pub IsOfTurn : List ℕ → Turn → Type 0
IsOfTurn line turn = (turn.number < 2 ^ 64) × Prints line turn.number turn.packet

-- A line has a turn if it is printed of it, and none if its first word is not `track`. It has neither
-- if lines were lost before it.
abbrev pub Parses : List ℕ → Option Turn → Type 0
Parses line (Some turn) = IsOfTurn line turn
Parses line None = (is_gap line ≡ false) × (is_of_turn line ≡ false)

-- How many turns later a turn is than the one with the number `last`; 0 if there was none. `lbserver`
-- does not print turns that sent the idle packet, or nothing. Turns that are numbered anew, or after
-- a gap of more than 16,777,216 turns, follow at once.
abbrev pub turns_since : (last number : ℕ) → ℕ
turns_since last number =
    if nat_lt 0 last && (nat_lt last number && nat_le (number - last) 16777216) then number - last else 1
