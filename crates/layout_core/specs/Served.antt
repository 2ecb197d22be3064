-- The effect of a served connection: its events, the bytes that it writes, and its trace.
use Rattle.std.specs.Prelude.{ℕ, ◌≡◌, ◌+◌, ◌*◌, ◌≤◌, Option, List, [], ◌∷◌, ◌++◌, length, replicate}
use Rattle.std.specs.Io.KnownBytes.{Appends, Consumes}
use Rattle.ln_ops.specs.Reply.{IsSendable, reply_bytes}
use Rattle.show_text.specs.Lines.{off_text, reply_text, track_text}
use Rattle.station_core.specs.declared.call.Step.{Step}
use Rattle.station_core.specs.declared.call.Step.TheVariants.{Quiet, Reply, Packet, Off}
use Rattle.station_core.specs.Seen.{known_of}
use Rattle.layout_core.specs.declared.engine.Summary.{Summary}
use Rattle.layout_core.specs.declared.event.Event.{Event}
use Rattle.layout_core.specs.declared.event.Event.TheVariants.{Byte, Turn}
use Rattle.layout_core.specs.declared.world.World.{World}
use Rattle.layout_core.specs.Cycle.{RunsAsWanted}
use Rattle.layout_core.specs.Played.{after_events, answers_to}
use Rattle.layout_core.specs.World.{HaveHeard, IsSameLayout}

-- the events of a byte: it is received, followed by `turns` turns that no node misses
abbrev pub byte_events : (line turns : ℕ) → ℕ → List Event
byte_events line turns byte = Byte line byte ∷ replicate turns (Turn 0)

-- the events of bytes, in order
abbrev pub served_events : (line turns : ℕ) → List ℕ → List Event
served_events line turns [] = []
served_events line turns (byte ∷ bytes) = byte_events line turns byte ++ served_events line turns bytes

-- a reply is written as its bytes, and nothing else is written
abbrev pub bytes_of_answer : Step → List ℕ
bytes_of_answer (Reply reply) = reply_bytes reply
bytes_of_answer step = []

-- a reply that a line can carry
abbrev pub IsSendableAnswer : Step → Type 0
IsSendableAnswer (Reply reply) = IsSendable reply
IsSendableAnswer step = Unit {0}

-- the bytes that answers write
abbrev pub written_for : List Step → List ℕ
written_for [] = []
written_for (step ∷ steps) = bytes_of_answer step ++ written_for steps

-- a line, and its line feed
abbrev pub ended_line : List ℕ → List ℕ
ended_line text = text ++ 10 ∷ []

-- the line of an answer in the trace, where a turn has this number; none for a byte without a reply
abbrev pub line_of_answer : (line turn : ℕ) → Step → List ℕ
line_of_answer line turn (Reply reply) = ended_line (reply_text line reply)
line_of_answer line turn (Packet packet) = ended_line (track_text turn packet)
line_of_answer line turn Off = ended_line (off_text turn)
line_of_answer line turn Quiet = []

-- an answer to a turn
abbrev pub turns_of_answer : Step → ℕ
turns_of_answer (Packet packet) = 1
turns_of_answer Off = 1
turns_of_answer (Reply reply) = 0
turns_of_answer Quiet = 0

abbrev pub turns_in : List Step → ℕ
turns_in [] = 0
turns_in (step ∷ steps) = turns_of_answer step + turns_in steps

abbrev pub replies_of_answer : Step → ℕ
replies_of_answer (Reply reply) = 1
replies_of_answer step = 0

abbrev pub replies_in : List Step → ℕ
replies_in [] = 0
replies_in (step ∷ steps) = replies_of_answer step + replies_in steps

-- the lines of answers, the turns numbered from this one on
abbrev pub traced_from : (line turn : ℕ) → List Step → List ℕ
traced_from line turn [] = []
traced_from line turn (step ∷ steps) = line_of_answer line turn step ++ traced_from line (turn + turns_of_answer step) steps

-- A moment of a served connection: the world, the bytes written and traced, if they are known, and
-- the numbers of replies and turns.
pub record Moment : Type 0 where
  pub world : World
  pub written : Option (List ℕ)
  pub traced : Option (List ℕ)
  pub replies : ℕ
  pub turns : ℕ

abbrev pub moment_of : World → (written traced : Option (List ℕ)) → (replies turns : ℕ) → Moment
moment_of world written traced replies turns = record { world = world; written = written; traced = traced; replies = replies; turns = turns }

-- The events are done, one after another, and each node heard what they send; their replies are
-- written, their lines are traced, and both are counted.
pub record ServesEvents (line : ℕ) (events : List Event) (old new : Moment) : Type 0 where
  pub station : new.world.station ≡ after_events old.world.station events
  pub nodes : HaveHeard old.world.station events old.world.nodes new.world.nodes
  pub written : Appends old.written new.written (written_for (answers_to old.world.station events))
  pub traced : Appends old.traced new.traced (traced_from line (old.turns + 1) (answers_to old.world.station events))
  pub replies : new.replies ≡ old.replies + replies_in (answers_to old.world.station events)
  pub turns : new.turns ≡ old.turns + turns_in (answers_to old.world.station events)
  pub same : IsSameLayout old.world new.world

-- a source: the bytes not yet read, if they are known, and the number of reads
pub record Input : Type 0 where
  pub left : Option (List ℕ)
  pub reads : ℕ

abbrev pub input_of : Option (List ℕ) → ℕ → Input
input_of left reads = record { left = left; reads = reads }

-- these bytes were read, at most 64 at a time
pub record HasRead (made : ℕ) (bytes : List ℕ) (old new : Input) : Type 0 where
  pub consumed : Consumes old.left new.left bytes
  pub counted : new.reads ≡ old.reads + made
  pub few : length bytes ≤ 64 * made

-- All bytes were read and served, and the summary counts them. A locomotive that heard a full
-- refresh cycle meanwhile runs as its slot says.
abbrev pub HasServed : (line turns : ℕ) → Summary → (input input' : Input) → (old new : Moment) → Type 0
HasServed line turns summary input input' old new =
    (bytes : List ℕ) × HasRead summary.reads bytes input input' × (summary.bytes ≡ length bytes) × ServesEvents line (served_events line turns bytes) old new
    × RunsAsWanted (known_of old.world.station) (served_events line turns bytes) old.world.nodes new.world.nodes
