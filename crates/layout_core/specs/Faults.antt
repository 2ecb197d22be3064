-- The state of a served connection after a fault.
use Rattle.std.specs.Prelude.{ℕ, ◌≡◌, ◌+◌, ◌<◌, Bool, true, false, Option, Result, Ok, Err, List, [], ◌∷◌, ◌++◌, length, take}
use Rattle.std.specs.Io.KnownBytes.{Appends}
use Rattle.station_core.specs.declared.call.Step.{Step}
use Rattle.layout_core.specs.declared.engine.ServeFault.{ServeFault}
use Rattle.layout_core.specs.declared.engine.ServeFault.TheVariants.{Read, Write, Trace, TooManyReads}
use Rattle.layout_core.specs.declared.event.Event.{Event}
use Rattle.layout_core.specs.declared.world.World.{World}
use Rattle.station_core.specs.Seen.{known_of}
use Rattle.layout_core.specs.Cycle.{RunsAsWanted}
use Rattle.layout_core.specs.Served.{HasRead, Input, Moment, ServesEvents, bytes_of_answer, line_of_answer, moment_of, served_events, traced_from, turns_in, written_for}
use Rattle.layout_core.specs.Played.{after_events, answer_to, answers_to}
use Rattle.layout_core.specs.World.{HaveHeard, IsSameLayout}

abbrev pub is_read : ServeFault → Bool
is_read Read = true
is_read fault = false

abbrev pub is_write : ServeFault → Bool
is_write Write = true
is_write fault = false

abbrev pub is_trace : ServeFault → Bool
is_trace Trace = true
is_trace fault = false

-- whether it ended in such a fault
abbrev pub ended_by : {A : Type 0} → (ServeFault → Bool) → Result A ServeFault → Bool
ended_by is (Ok a) = false
ended_by is (Err fault) = is fault

-- known bytes grow by some bytes and a proper front of others
abbrev pub AppendsFront : (old new : Option (List ℕ)) → (whole cut : List ℕ) → Type 0
AppendsFront old new whole cut = (n : ℕ) × (n < length cut) × Appends old new (whole ++ take n cut)

-- What these answers and a last one write, but not all of the last: at a fault of writing, a proper
-- prefix of its bytes is written, and its line is missing; at a fault of tracing, a proper prefix
-- of its line is traced.
abbrev pub PutsOut : ServeFault → (line turn : ℕ) → List Step → Step → (written written' traced traced' : Option (List ℕ)) → Type 0
PutsOut Write line turn steps last written written' traced traced' =
    AppendsFront written written' (written_for steps) (bytes_of_answer last) × Appends traced traced' (traced_from line turn steps)
PutsOut Trace line turn steps last written written' traced traced' =
    Appends written written' (written_for steps ++ bytes_of_answer last) × AppendsFront traced traced' (traced_from line turn steps) (line_of_answer line (turn + turns_in steps) last)
PutsOut Read line turn steps last written written' traced traced' = ⊥
PutsOut TooManyReads line turn steps last written written' traced traced' = ⊥

-- The events before and a last one are done, and no other; all is written except the end of the
-- last one's output.
pub record StopsAt (fault : ServeFault) (line : ℕ) (before : List Event) (last : Event) (old new : Moment) : Type 0 where
  pub station : new.world.station ≡ after_events old.world.station (before ++ last ∷ [])
  pub nodes : HaveHeard old.world.station (before ++ last ∷ []) old.world.nodes new.world.nodes
  pub puts_out : PutsOut fault line (old.turns + 1) (answers_to old.world.station before) (answer_to (after_events old.world.station before) last) old.written new.written old.traced new.traced
  pub same : IsSameLayout old.world new.world

-- it stops so at one of these events, and then these are done of them
abbrev pub StopsAfter : ServeFault → (line : ℕ) → (events done : List Event) → (old new : Moment) → Type 0
StopsAfter fault line events done old new =
    (before later : List Event) × (last : Event) × (events ≡ before ++ last ∷ later) × (done ≡ before ++ last ∷ []) × StopsAt fault line before last old new

abbrev pub StopsWithin : ServeFault → (line : ℕ) → List Event → (old new : Moment) → Type 0
StopsWithin fault line events old new = (done : List Event) × StopsAfter fault line events done old new

-- All of these events are served, and both devices work; or it stops at one of them, and just the
-- device of the fault failed.
abbrev pub ServesOrStops : {A : Type 0} → Result A ServeFault → (line : ℕ) → List Event → (old new : Moment) → (sink_failed trace_failed : Bool) → Type 0
ServesOrStops (Ok a) line events old new sink_failed trace_failed = ServesEvents line events old new × (sink_failed ≡ false) × (trace_failed ≡ false)
ServesOrStops (Err fault) line events old new sink_failed trace_failed =
    StopsWithin fault line events old new × (sink_failed ≡ is_write fault) × (trace_failed ≡ is_trace fault)

-- What is done of the events of the bytes read: all of them if the source failed or too many reads
-- were made, and otherwise those up to one whose answer was not written whole.
abbrev pub HoldsAfterFault : ServeFault → (line : ℕ) → (events done : List Event) → (old new : Moment) → Type 0
HoldsAfterFault Read line events done old new = (done ≡ events) × ServesEvents line events old new
HoldsAfterFault TooManyReads line events done old new = (done ≡ events) × ServesEvents line events old new
HoldsAfterFault Write line events done old new = StopsAfter Write line events done old new
HoldsAfterFault Trace line events done old new = StopsAfter Trace line events done old new

-- These bytes were read, these of their events were done, and then serving ended in this fault. A
-- locomotive that heard a full refresh cycle meanwhile runs as its slot says, as at the end of a
-- connection that is served whole.
abbrev pub HasFaulted : ServeFault → (line turns : ℕ) → (input input' : Input) → (old : Moment) → World → (written traced : Option (List ℕ)) → Type 0
HasFaulted fault line turns input input' old world written traced =
    (reads replies made : ℕ) × (bytes : List ℕ) × (done : List Event) × HasRead reads bytes input input'
    × HoldsAfterFault fault line (served_events line turns bytes) done old (moment_of world written traced replies made)
    × RunsAsWanted (known_of old.world.station) done old.world.nodes world.nodes
