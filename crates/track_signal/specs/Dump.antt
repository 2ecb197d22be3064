-- A value change dump of the rails (IEEE 1364, 18.2): a header, then time stamps in microseconds,
-- each with the value that the one wire has from then on.
use Rattle.std.specs.Prelude.{ℕ, ◌+◌, ◌-◌, Bool, true, not, sum, List, [], ◌∷◌, ◌++◌, Option, Some, None, codes, replicate, if◌then◌else◌}
use Rattle.std.specs.Fmt.{decimal}
use Rattle.dcc_packet.specs.Sent.{idle_bytes}
use Rattle.half_bits.specs.Halves.{halves_of}
use Rattle.trace.specs.Traffic.{turns_since}
use Rattle.trace.specs.declared.turn.Turn.{Turn}

-- the unit of time, and the wire, whose short name is `!` (18.2.3; the names are this project's
-- own)
abbrev pub header : List ℕ
header =
    codes "$timescale 1 us $end\n"
    ++ codes "$scope module track $end\n"
    ++ codes "$var wire 1 ! rails $end\n"
    ++ codes "$upscope $end\n"
    ++ codes "$enddefinitions $end\n"

abbrev pub stamp : ℕ → List ℕ
stamp time = codes "#" ++ decimal time ++ codes "\n"

-- the rails change at a time
pub record Change : Type 0 where
  pub time : ℕ
  pub is_high : Bool

abbrev pub change_text : ℕ → Bool → List ℕ
change_text time is_high = stamp time ++ (if is_high then codes "1!\n" else codes "0!\n")

abbrev pub changes_text : List Change → List ℕ
changes_text [] = []
changes_text (change ∷ changes) = change_text change.time change.is_high ++ changes_text changes

-- At the start of each half-bit, of these microseconds, the rails change.
abbrev pub changes_from : ℕ → Bool → List ℕ → List Change
changes_from time is_high [] = []
changes_from time is_high (half ∷ halves) = record { time = time; is_high = is_high } ∷ changes_from (time + half) (not is_high) halves

-- the half-bits of consecutive packets
abbrev pub halves_in : List (List ℕ) → List ℕ
halves_in [] = []
halves_in (packet ∷ packets) = halves_of packet ++ halves_in packets

-- those of this many idle packets
unfoldable pub idle_halves : (count : ℕ) → List ℕ
idle_halves count = halves_in (replicate count idle_bytes)

-- those of what a turn sent
abbrev pub sent_halves : Option (List ℕ) → List ℕ
sent_halves None = []
sent_halves (Some packet) = halves_of packet

-- Those of turns, after a turn with the number `last`. Turns between them are drawn as idle.
unfoldable pub turn_halves : (last : ℕ) → List Turn → List ℕ
turn_halves last [] = []
turn_halves last (turn ∷ turns) = idle_halves (turns_since last turn.number - 1) ++ (sent_halves turn.packet ++ turn_halves turn.number turns)

-- the dump of turns, from time 0 on and high at first (own); the last time stamp is their end
abbrev pub dump_of : List Turn → List ℕ
dump_of turns = header ++ changes_text (changes_from 0 true (turn_halves 0 turns)) ++ stamp (sum (turn_halves 0 turns))
