-- The half-bits of a packet, as a command station sends them.
use Rattle.std.specs.Prelude.{ℕ, Bool, true, false, List, [], ◌∷◌, ◌++◌, map, replicate, sum}
use Rattle.dcc_packet.specs.Wave.{bits_of, doubled}

-- NMRA S-9.1: the microseconds of each half of a one, and (our choice in its range) of a zero
abbrev pub micros : Bool → ℕ
micros true = 58
micros false = 100

-- NMRA S-9.2, A: a preamble of 14 ones, the bits of the bytes with a zero before each byte, and a one that closes
-- the packet; each bit is sent as two like halves
unfoldable pub halves_of : List ℕ → List ℕ
halves_of packet = map micros (doubled (replicate 14 true ++ (bits_of packet ++ true ∷ [])))

-- the microseconds that a packet takes of the track
abbrev pub duration_of : List ℕ → ℕ
duration_of packet = sum (halves_of packet)
