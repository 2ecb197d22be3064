-- The numbers of reads, bytes, replies and turns.
use Rattle.std.proofs.Common.{◌≡◌, ℕ, ◌+◌, ◌*◌, ◌^◌, ◌<◌, ◌≤◌, List, [], ◌∷◌, ◌++◌, Option, length, length-append, replicate, take, arith}
use Rattle.std.proofs.lemmas.List.{length-replicate, length-take-le}
use Rattle.station_core.specs.declared.call.Step.{Step}
use Rattle.station_core.specs.declared.call.Step.TheVariants.{Quiet, Reply, Packet, Off}
use Rattle.station_core.specs.Seen.{Seen}
use Rattle.layout_core.specs.declared.engine.Counts.{Counts}
use Rattle.layout_core.specs.declared.event.Event.{Event}
use Rattle.layout_core.specs.declared.event.Event.TheVariants.{Byte, Turn}
use Rattle.layout_core.specs.declared.world.World.{World}
use Rattle.layout_core.specs.Counts.{HasRoom}
use Rattle.layout_core.specs.Played.{after_event, answer_to, answers_to}
use Rattle.layout_core.specs.Served.{ServesEvents, byte_events, moment_of, replies_in, replies_of_answer, served_events, turns_in, turns_of_answer}

pub counted_more : (so_far n : ℕ) (before buf : List ℕ) → so_far ≡ length before → n ≤ length buf → so_far + n ≡ length (before ++ take n buf)
counted_more so_far n before buf counted bound = omega (arith, length-append before (take n buf), length-take-le n buf bound)

-- a chunk of a buffer of 64 bytes
pub few_of : (n : ℕ) (buf : List ℕ) → n ≤ length buf → length buf ≡ 64 → length (take n buf) ≤ 64
few_of n buf bound whole = omega (arith, length-take-le n buf bound)

-- an event makes at most one reply or one turn
few_of_answer : (step : Step) → (replies_of_answer step ≤ 1) × (turns_of_answer step ≤ 1)
few_of_answer (Reply reply) = (omega arith, omega arith)
few_of_answer (Packet packet) = (omega arith, omega arith)
few_of_answer Quiet = (omega arith, omega arith)
few_of_answer Off = (omega arith, omega arith)

few_answers : (events : List Event) (seen : Seen) → (replies_in (answers_to seen events) ≤ length events) × (turns_in (answers_to seen events) ≤ length events)
few_answers [] seen = (omega arith, omega arith)
few_answers (event ∷ events) seen =
    let one = few_of_answer (answer_to seen event) in
    let rest = few_answers events (after_event seen event) in
    (omega (arith, one.0, rest.0), omega (arith, one.1, rest.1))

-- so there is room after the events, if there was room for them and more
pub room_behind : (more all line : ℕ) (events : List Event) (from to : Counts) (old new : World) (written written' traced traced' : Option (List ℕ)) → length events + more ≤ all → HasRoom all from
    → ServesEvents line events (moment_of old written traced from.replies from.turns) (moment_of new written' traced' to.replies to.turns) → HasRoom more to
room_behind more all line events from to old new written written' traced traced' fits room serves =
    let few = few_answers events old.station in
    let replies : to.replies ≡ from.replies + replies_in (answers_to old.station events) = serves.replies in
    let turns : to.turns ≡ from.turns + turns_in (answers_to old.station events) = serves.turns in
    record { replies = omega (arith, room.replies, replies, few.0, fits); turns = omega (arith, room.turns, turns, few.1, fits) }

byte_length : (line turns byte : ℕ) → length (byte_events line turns byte) ≡ turns + 1
byte_length line turns byte = omega (arith, length-replicate turns (Turn 0))

pub served_length : (line turns : ℕ) (bytes : List ℕ) → turns < 256 → length (served_events line turns bytes) ≤ 256 * length bytes
served_length line turns [] fits = omega arith
served_length line turns (byte ∷ bytes) fits =
    omega (arith, length-append (byte_events line turns byte) (served_events line turns bytes), byte_length line turns byte, served_length line turns bytes fits)

-- a byte more of some
pub byte_fits : (line turns i : ℕ) (bytes : List ℕ) → turns < 256 → i < length bytes → length (served_events line turns (take i bytes)) + 256 ≤ 256 * length bytes
byte_fits line turns i bytes fits below =
    let some : length (take i bytes) ≡ i = length-take-le i bytes (omega (arith, below)) in
    omega (arith, served_length line turns (take i bytes) fits, some)

-- and the turns after it
pub turns_fit : (line turns i byte : ℕ) (bytes : List ℕ) → turns < 256 → i < length bytes → length (served_events line turns (take i bytes) ++ Byte line byte ∷ []) + turns ≤ 256 * length bytes
turns_fit line turns i byte bytes fits below = omega (arith, length-append (served_events line turns (take i bytes)) (Byte line byte ∷ []), byte_fits line turns i bytes fits below)

-- one more turn of some
pub turn_fits : (turn turns : ℕ) → turn < turns → length (replicate turn (Turn 0)) + 1 ≤ turns
turn_fits turn turns more = omega (arith, length-replicate turn (Turn 0), more)

-- the bytes of a number of reads, and those of one more
pub chunk_fits : (made bytes chunk : ℕ) → made < 4294967296 → bytes ≤ 64 * made → chunk ≤ 64 → 0 + (256 * bytes + 256 * chunk) < 2 ^ 64
chunk_fits made bytes chunk below few small = omega arith
