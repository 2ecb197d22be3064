-- The effect of served connections on a layout, and the output for them. The bytes received on a
-- socket are not known, only that there are bytes whose events were run and traced.
use Rattle.std.specs.Prelude.{ℕ, ◌≡◌, ◌+◌, ◌*◌, ◌<◌, ◌≤◌, ◌⊎◌, ◌==◌, Bool, false, List, [], ◌∷◌, ◌++◌, Option, codes, length, map, take}
use Rattle.std.specs.Fmt.{decimal}
use Rattle.std.specs.Io.KnownBytes.{Appends, Consumes, IsAtEnd}
use Rattle.layout_core.specs.declared.engine.Limits.{Limits}
use Rattle.layout_core.specs.declared.engine.ServeFault.{ServeFault}
use Rattle.layout_core.specs.declared.engine.ServeFault.TheVariants.{Read, Write, Trace, TooManyReads}
use Rattle.layout_core.specs.declared.event.Event.{Event}
use Rattle.layout_core.specs.declared.world.World.{World}
use Rattle.layout_core.specs.Cycle.{RunsAsWanted}
use Rattle.layout_core.specs.Faults.{AppendsFront}
use Rattle.layout_core.specs.Played.{after_events, answer_to, answers_to}
use Rattle.layout_core.specs.Served.{line_of_answer, served_events, traced_from, turns_in, written_for}
use Rattle.roster.specs.Entry.{Entry}
use Rattle.station_core.specs.Seen.{Seen, known_of}
use Rattle.console.specs.declared.fault.RunFault.{RunFault}
use Rattle.console.specs.declared.fault.RunFault.TheVariants.{Network, Output, Serve}
use Rattle.station.specs.Fault.{of_serve}
use Rattle.console.specs.Printed.{lines_text}
use Rattle.layout_core.specs.DecoderStates.{decoder_state_of}
use Rattle.station.specs.Printed.{decoder_lines}
use Rattle.station.specs.Replayed.{HasDone}

-- the events of consecutive connections: each has its bytes, on line 0, and after each byte a
-- number of turns that no decoder misses
abbrev pub events_of_all : (turns : ℕ) → List (List ℕ) → List Event
events_of_all turns [] = []
events_of_all turns (bytes ∷ connections) = served_events 0 turns bytes ++ events_of_all turns connections

-- The output.

-- the trace of events: a line for each reply and each turn, the turns numbered from 1 in each
-- connection
abbrev pub trace_text : Seen → List Event → List ℕ
trace_text seen events = traced_from 0 1 (answers_to seen events)

-- a line for each decoder, with its state
abbrev pub nodes_text : List Entry → World → List ℕ
nodes_text entries world = lines_text (decoder_lines entries (map decoder_state_of world.nodes))

-- the bytes of a connection were served; each read gave at most 64 of them
pub record IsServed (limits : Limits) (bytes : List ℕ) (old new : World) : Type 0 where
  pub done : HasDone (served_events 0 limits.turns bytes) old new
  pub few : length bytes ≤ 64 * limits.reads

-- Consecutive connections, each on the layout that the previous one left. The trace of each is
-- printed, and then the states of the decoders.
abbrev pub AreServed : Limits → List Entry → List (List ℕ) → (old new : World) → (text : List ℕ) → Type 0
AreServed limits entries [] old new text = (new ≡ old) × (text ≡ [])
AreServed limits entries (bytes ∷ connections) old new text =
    (mid : World) × (later : List ℕ) × IsServed limits bytes old mid
    × (text ≡ trace_text old.station (served_events 0 limits.turns bytes) ++ (nodes_text entries mid ++ later))
    × AreServed limits entries connections mid new later

-- the bytes of one connection, whatever they are, were served, and its trace was printed
abbrev pub ServesConnections : Limits → (old new : World) → (old_output new_output : Option (List ℕ)) → Type 0
ServesConnections limits old new old_output new_output =
    (bytes : List ℕ) × IsServed limits bytes old new × Appends old_output new_output (trace_text old.station (served_events 0 limits.turns bytes))

-- All bytes of a source were served, to its end: the replies were written, and the trace was
-- printed.
abbrev pub ServesSource : Limits → (old new : World) → (source source' written written' old_output new_output : Option (List ℕ)) → Type 0
ServesSource limits old new source source' written written' old_output new_output =
    (bytes : List ℕ) × Consumes source source' bytes × IsAtEnd source' × IsServed limits bytes old new
    × Appends written written' (written_for (answers_to old.station (served_events 0 limits.turns bytes)))
    × Appends old_output new_output (trace_text old.station (served_events 0 limits.turns bytes))

-- whether a run ended in the fault of serving with this number
abbrev pub is_serve : ℕ → RunFault → Bool
is_serve n (Serve number) = n == number
is_serve n other = false

-- the line that reports the port
abbrev pub listening_text : (port : ℕ) → List ℕ
listening_text port = codes "listening 127.0.0.1:" ++ (decimal port ++ 10 ∷ [])

-- A number of connections were served, on one layout, and their output was printed after the text
-- in front. A locomotive that heard a full refresh cycle runs as its slot says, even if the cycle
-- began in an earlier connection.
abbrev pub HasServed : Limits → (count : ℕ) → List Entry → (old new : World) → (front : List ℕ) → (old_output new_output : Option (List ℕ)) → Type 0
HasServed limits count entries old new front old_output new_output =
    (connections : List (List ℕ)) × (length connections ≡ count) × HasDone (events_of_all limits.turns connections) old new
    × RunsAsWanted (known_of old.station) (events_of_all limits.turns connections) old.nodes new.nodes
    × (text : List ℕ) × AreServed limits entries connections old new text × Appends old_output new_output (front ++ text)

-- Faults.

-- a connection that was not served to its end: a first part of the events of its bytes was run
abbrev pub ServesPart : (turns : ℕ) → (old new : World) → Type 0
ServesPart turns old new = (bytes : List ℕ) × (done later : List Event) × (served_events 0 turns bytes ≡ done ++ later) × HasDone done old new

-- the line of the event after these
abbrev pub next_line : Seen → List Event → Event → List ℕ
next_line seen before last = line_of_answer 0 (1 + turns_in (answers_to seen before)) (answer_to (after_events seen before) last)

-- The trace of a connection whose serving stopped after these of its events: if its source failed
-- or too many reads were made, that of all events of the bytes read. If a reply was not written
-- whole, all but the line of the last event; if a line was not traced whole, a proper prefix of
-- that line.
abbrev pub IsTraceAt : ServeFault → Seen → (events done : List Event) → (text : List ℕ) → Type 0
IsTraceAt Read seen events done text = (done ≡ events) × (text ≡ trace_text seen done)
IsTraceAt TooManyReads seen events done text = (done ≡ events) × (text ≡ trace_text seen done)
IsTraceAt Write seen events done text = (before : List Event) × (last : Event) × (done ≡ before ++ last ∷ []) × (text ≡ trace_text seen before)
IsTraceAt Trace seen events done text =
    (before : List Event) × (last : Event) × (n : ℕ) × (done ≡ before ++ last ∷ []) × (n < length (next_line seen before last))
    × (text ≡ trace_text seen before ++ take n (next_line seen before last))

-- the engine stopped serving the connection because of a fault
abbrev pub GivesUp : RunFault → Limits → (old new : World) → (old_output new_output : Option (List ℕ)) → Type 0
GivesUp e limits old new old_output new_output =
    (fault : ServeFault) × (e ≡ of_serve fault) × (bytes : List ℕ) × (done later : List Event) × (text : List ℕ)
    × (served_events 0 limits.turns bytes ≡ done ++ later) × HasDone done old new
    × IsTraceAt fault old.station (served_events 0 limits.turns bytes) done text × Appends old_output new_output text

-- the decoders could not be shown: a proper prefix of their lines is printed, after the whole trace
-- of the connection
abbrev pub StopsShowing : Limits → List Entry → (old new : World) → (old_output new_output : Option (List ℕ)) → Type 0
StopsShowing limits entries old new old_output new_output =
    (bytes : List ℕ) × IsServed limits bytes old new
    × AppendsFront old_output new_output (trace_text old.station (served_events 0 limits.turns bytes)) (nodes_text entries new)

-- Why the output ended: no connection was accepted, the engine stopped serving one, or the decoders
-- could not be shown.
abbrev pub StopsPrinting : RunFault → Limits → List Entry → (old new : World) → (old_output new_output : Option (List ℕ)) → Type 0
StopsPrinting e limits entries old new old_output new_output =
    ((e ≡ Network) × (new ≡ old) × (new_output ≡ old_output))
    ⊎ GivesUp e limits old new old_output new_output
    ⊎ ((e ≡ Output) × StopsShowing limits entries old new old_output new_output)

-- Fewer were served, and the next one was not, or not whole. The output for it follows the output
-- for those that were served.
abbrev pub HasGivenUp : RunFault → Limits → (count : ℕ) → List Entry → (old new : World) → (old_output new_output : Option (List ℕ)) → Type 0
HasGivenUp e limits count entries old new old_output new_output =
    (connections : List (List ℕ)) × (mid : World) × (length connections < count) × HasDone (events_of_all limits.turns connections) old mid × ServesPart limits.turns mid new
    × (text : List ℕ) × (mid_output : Option (List ℕ)) × AreServed limits entries connections old mid text × Appends old_output mid_output text
    × StopsPrinting e limits entries mid new mid_output new_output
