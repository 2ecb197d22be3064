-- Events that are served, and then one that stops.
use Rattle.std.proofs.Common.{◌≡◌, ℕ, ◌+◌, ◌-◌, ◌<◌, List, [], ◌∷◌, ◌++◌, length, replicate, take, drop, get_or, refl, ap, sym, subst, ◌∙◌, append_assoc, arith, Option}
use Rattle.std.proofs.lemmas.List.{drop_more, replicate-append-replicate, take-append-drop}
use Rattle.std.specs.Prelude.{Bool, false, Result, Ok, Err, IfErr}
use Rattle.std.specs.Result.{IsErrAnd}
use Rattle.std.proofs.KnownBytes.{Appends-trans}
use Rattle.std.specs.Io.KnownBytes.{Appends}
use Rattle.station_core.specs.declared.call.Step.{Step}
use Rattle.station_core.specs.Seen.{Seen}
use Rattle.layout_core.specs.declared.engine.ServeFault.{ServeFault}
use Rattle.layout_core.specs.declared.engine.ServeFault.TheVariants.{Read, Write, Trace, TooManyReads}
use Rattle.layout_core.specs.declared.event.Event.{Event}
use Rattle.layout_core.specs.declared.event.Event.TheVariants.{Byte, Turn}
use Rattle.layout_core.specs.Faults.{AppendsFront, HoldsAfterFault, PutsOut, ServesOrStops, StopsAt, StopsWithin, ended_by, is_read}
use Rattle.layout_core.specs.Served.{Moment, ServesEvents, byte_events, bytes_of_answer, line_of_answer, served_events, traced_from, turns_in, written_for}
use Rattle.layout_core.specs.Played.{after_event, after_events, answer_to, answers_to}
use Rattle.layout_core.specs.World.{AfterEvent, HaveHeard, IsSameLayout}
use Rattle.layout_core.proofs.ThrottleView.{front_behind}
use Rattle.layout_core.proofs.Played.{both_heard, next_heard, nothing_heard}
use Rattle.layout_core.proofs.Same.{same_then}
use Rattle.layout_core.proofs.ServeSteps.{answers-append, served-append, state-append, traced-append, turns-append, written-append}

-- a part written after what was written whole
puts_out_behind : (fault : ServeFault) (line turn later : ℕ) (front steps : List Step) (last : Step) (w w' w'' t t' t'' : Option (List ℕ)) → later ≡ turn + turns_in front
    → Appends w w' (written_for front) → Appends t t' (traced_from line turn front) → PutsOut fault line later steps last w' w'' t' t'' → PutsOut fault line turn (front ++ steps) last w w'' t t''
puts_out_behind Read line turn later front steps last w w' w'' t t' t'' at written traced out = absurd out
puts_out_behind TooManyReads line turn later front steps last w w' w'' t t' t'' at written traced out = absurd out
puts_out_behind Write line turn later front steps last w w' w'' t t' t'' at written traced out =
    let lines : traced_from line turn (front ++ steps) ≡ traced_from line turn front ++ traced_from line later steps =
    traced-append line turn front steps ∙ ap (λ (n : ℕ). traced_from line turn front ++ traced_from line n steps) (sym at) in (
      subst (λ (bs : List ℕ). AppendsFront w w'' bs (bytes_of_answer last)) (sym (written-append front steps)) (front_behind w w' w'' (written_for front) (written_for steps) (bytes_of_answer last) written out.0),
      subst (λ (bs : List ℕ). Appends t t'' bs) (sym lines) (Appends-trans t t' t'' (traced_from line turn front) (traced_from line later steps) traced out.1),
    )
puts_out_behind Trace line turn later front steps last w w' w'' t t' t'' at written traced out =
    let lines : traced_from line turn (front ++ steps) ≡ traced_from line turn front ++ traced_from line later steps =
    traced-append line turn front steps ∙ ap (λ (n : ℕ). traced_from line turn front ++ traced_from line n steps) (sym at) in
    let all : written_for (front ++ steps) ++ bytes_of_answer last ≡ written_for front ++ (written_for steps ++ bytes_of_answer last) =
    ap (λ (bs : List ℕ). bs ++ bytes_of_answer last) (written-append front steps) ∙ append_assoc (written_for front) (written_for steps) (bytes_of_answer last) in
    let counted : turns_in (front ++ steps) ≡ turns_in front + turns_in steps = turns-append front steps in
    let number : later + turns_in steps ≡ turn + turns_in (front ++ steps) = omega (arith, at, counted) in (
      subst (λ (bs : List ℕ). Appends w w'' bs) (sym all) (Appends-trans w w' w'' (written_for front) (written_for steps ++ bytes_of_answer last) written out.0),
      subst (λ (n : ℕ). AppendsFront t t'' (traced_from line turn (front ++ steps)) (line_of_answer line n last)) number
          (subst (λ (bs : List ℕ). AppendsFront t t'' bs (line_of_answer line (later + turns_in steps) last)) (sym lines)
          (front_behind t t' t'' (traced_from line turn front) (traced_from line later steps) (line_of_answer line (later + turns_in steps) last) traced out.1)),
    )

stops_at_then : (fault : ServeFault) (line : ℕ) (events before : List Event) (last : Event) (old mid new : Moment) → ServesEvents line events old mid → StopsAt fault line before last mid new → StopsAt fault line (events ++ before) last old new
stops_at_then fault line events before last old mid new first stop =
    let seen : Seen = old.world.station in
    let after : Seen = after_events seen events in
    let from : mid.world.station ≡ after = first.station in
    let parts : (events ++ before) ++ last ∷ [] ≡ events ++ (before ++ last ∷ []) = append_assoc events before (last ∷ []) in
    let answer : answer_to (after_events mid.world.station before) last ≡ answer_to (after_events seen (events ++ before)) last =
    ap (λ (s : Seen). answer_to (after_events s before) last) from ∙ ap (λ (s : Seen). answer_to s last) (sym (state-append seen events before)) in
    let steps : answers_to seen events ++ answers_to mid.world.station before ≡ answers_to seen (events ++ before) =
    ap (λ (s : Seen). answers_to seen events ++ answers_to s before) from ∙ sym (answers-append seen events before) in
    record {
      station =
          stop.station
          ∙ ap (λ (s : Seen). after_events s (before ++ last ∷ [])) from
          ∙ sym (state-append seen events (before ++ last ∷ []))
          ∙ ap (λ (es : List Event). after_events seen es) (sym parts);
      nodes =
          subst (λ (es : List Event). HaveHeard seen es old.world.nodes new.world.nodes) (sym parts)
          (both_heard seen events (before ++ last ∷ []) old.world.nodes mid.world.nodes new.world.nodes first.nodes
          (subst (λ (s : Seen). HaveHeard s (before ++ last ∷ []) mid.world.nodes new.world.nodes) from stop.nodes));
      puts_out =
          subst (λ (step : Step). PutsOut fault line (old.turns + 1) (answers_to seen (events ++ before)) step old.written new.written old.traced new.traced) answer
          (subst (λ (ss : List Step). PutsOut fault line (old.turns + 1) ss (answer_to (after_events mid.world.station before) last) old.written new.written old.traced new.traced) steps
          (puts_out_behind fault line (old.turns + 1) (mid.turns + 1) (answers_to seen events) (answers_to mid.world.station before) _ _ _ _ _ _ _ (omega (arith, first.turns)) first.written first.traced stop.puts_out));
      same = same_then old.world mid.world new.world first.same stop.same;
    }

-- Where all of the events are three parts, the first served and the stop in the second.
pub stops_then : (fault : ServeFault) (line : ℕ) (all events now later : List Event) (old mid new : Moment) → all ≡ events ++ (now ++ later) → ServesEvents line events old mid → StopsWithin fault line now mid new → StopsWithin fault line all old new
stops_then fault line all events now later old mid new parts first stop =
    let before = stop.1.0 in
    let behind = stop.1.1 in
    let last = stop.1.2 in
    let cut : all ≡ (events ++ before) ++ (last ∷ (behind ++ later)) =
    parts
    ∙ ap (λ (es : List Event). events ++ (es ++ later)) stop.1.3
    ∙ ap (λ (es : List Event). events ++ es) (append_assoc before (last ∷ behind) later)
    ∙ sym (append_assoc events before (last ∷ (behind ++ later))) in
    ((events ++ before) ++ last ∷ [], (events ++ before, behind ++ later, last, cut, refl, stops_at_then fault line events before last old mid new first stop.1.5))

-- some turns, one more, and those after it
pub turn_parts : (turns turn : ℕ) → turn < turns → replicate turns (Turn 0) ≡ replicate turn (Turn 0) ++ ((Turn 0 ∷ []) ++ replicate (turns - turn - 1) (Turn 0))
turn_parts turns turn below =
    let count : turns ≡ turn + (1 + (turns - turn - 1)) = omega (arith, below) in
    let one : (Turn 0 ∷ []) ++ replicate (turns - turn - 1) (Turn 0) ≡ replicate (1 + (turns - turn - 1)) (Turn 0) = replicate-append-replicate 1 (turns - turn - 1) (Turn 0) in
    ap (λ (n : ℕ). replicate n (Turn 0)) count
    ∙ sym (replicate-append-replicate turn (1 + (turns - turn - 1)) (Turn 0))
    ∙ ap (λ (events : List Event). replicate turn (Turn 0) ++ events) (sym one)

-- a fault that stops at an event leaves those before it and it
pub stops_leave : (fault : ServeFault) (line : ℕ) (events : List Event) (old new : Moment) (stop : StopsWithin fault line events old new) → HoldsAfterFault fault line events stop.0 old new
stops_leave Read line events old new stop = absurd stop.1.5.puts_out
stops_leave TooManyReads line events old new stop = absurd stop.1.5.puts_out
stops_leave Write line events old new stop = stop.1
stops_leave Trace line events old new stop = stop.1

-- and each node heard those
pub stop_heard : (fault : ServeFault) (line : ℕ) (events : List Event) (old new : Moment) (stop : StopsWithin fault line events old new)
    → HaveHeard old.world.station stop.0 old.world.nodes new.world.nodes
stop_heard fault line events old new stop =
    subst (λ (es : List Event). HaveHeard old.world.station es old.world.nodes new.world.nodes) (sym stop.1.4) stop.1.5.nodes

-- a fault that is handed on
pub passed_up : {T : Type 0} (result : Result T ServeFault) (fault : ServeFault) (P : ServeFault → Type 0) → IsErrAnd result (λ e. e ≡ fault) → P fault → IfErr result P
passed_up (Ok x) fault P is holds = tt
passed_up (Err e) fault P is holds = subst P (sym is) holds

pub ended_passed_up : {T : Type 0} (result : Result T ServeFault) (fault : ServeFault) (ends : ServeFault → Bool) → IsErrAnd result (λ e. e ≡ fault) → ended_by ends result ≡ ends fault
ended_passed_up (Ok x) fault ends is = absurd is
ended_passed_up (Err e) fault ends is = ap ends is

pub same_passed_up : {T : Type 0} (result : Result T ServeFault) (fault other : ServeFault) → IsErrAnd result (λ e. e ≡ fault) → result ≡ Err other → fault ≡ other
same_passed_up (Ok x) fault other is same = absurd is
same_passed_up (Err e) fault other is same = cc

-- what it stops at, handed on
pub handed_on : {A : Type 0} (result : Result A ServeFault) (fault : ServeFault) (line : ℕ) (events : List Event) (old new : Moment) (sink_failed trace_failed : Bool) → IsErrAnd result (λ e. e ≡ fault)
    → ServesOrStops {A = A} (Err fault) line events old new sink_failed trace_failed → ServesOrStops result line events old new sink_failed trace_failed
handed_on (Ok x) fault line events old new sink_failed trace_failed is stops = absurd is
handed_on {A} (Err e) fault line events old new sink_failed trace_failed is stops =
    subst (λ (f : ServeFault). ServesOrStops {A = A} (Err f) line events old new sink_failed trace_failed) (sym is) stops

-- handed on, where some events were served before
pub stopped : {A : Type 0} (result : Result A ServeFault) (fault : ServeFault) (line : ℕ) (all events now later : List Event) (old mid new : Moment) (sink_failed trace_failed : Bool)
    → IsErrAnd result (λ e. e ≡ fault) → all ≡ events ++ (now ++ later) → ServesEvents line events old mid → ServesOrStops {A = A} (Err fault) line now mid new sink_failed trace_failed
    → ServesOrStops result line all old new sink_failed trace_failed
stopped result fault line all events now later old mid new sink_failed trace_failed is parts first stop =
    handed_on result fault line all old new sink_failed trace_failed is (stops_then fault line all events now later old mid new parts first stop.0, stop.1, stop.2)

-- what stops at an event is a fault of a sink
pub no_read_stops : (fault : ServeFault) (line : ℕ) (events : List Event) (old new : Moment) → StopsWithin fault line events old new → is_read fault ≡ false
no_read_stops Read line events old new stop = absurd stop.1.5.puts_out
no_read_stops TooManyReads line events old new stop = refl
no_read_stops Write line events old new stop = refl
no_read_stops Trace line events old new stop = refl

pub no_limit_stops : (fault : ServeFault) (line : ℕ) (events : List Event) (old new : Moment) → StopsWithin fault line events old new → fault ≡ TooManyReads → ⊥
no_limit_stops Read line events old new stop is = absurd stop.1.5.puts_out
no_limit_stops TooManyReads line events old new stop is = absurd stop.1.5.puts_out
no_limit_stops Write line events old new stop is = cc
no_limit_stops Trace line events old new stop is = cc

-- the bytes before the next one, that one, and those after it
pub served_parts : (line turns i : ℕ) (bytes : List ℕ) → i < length bytes → served_events line turns bytes ≡ served_events line turns (take i bytes) ++ (byte_events line turns (get_or bytes i 0) ++ served_events line turns (drop (i + 1) bytes))
served_parts line turns i bytes below =
    ap (served_events line turns) (sym (take-append-drop i bytes) ∙ ap (λ (bs : List ℕ). take i bytes ++ bs) (drop_more bytes i 0 below))
    ∙ served-append line turns (take i bytes) (get_or bytes i 0 ∷ drop (i + 1) bytes)

-- its turns, after it and before the bytes after it
pub turns_parts : (line turns i : ℕ) (bytes : List ℕ) → i < length bytes → served_events line turns bytes
    ≡ (served_events line turns (take i bytes) ++ Byte line (get_or bytes i 0) ∷ []) ++ (replicate turns (Turn 0) ++ served_events line turns (drop (i + 1) bytes))
turns_parts line turns i bytes below =
    served_parts line turns i bytes below
    ∙ sym (append_assoc (served_events line turns (take i bytes)) (Byte line (get_or bytes i 0) ∷ []) (replicate turns (Turn 0) ++ served_events line turns (drop (i + 1) bytes)))

-- an event whose answer is not written whole
pub stops_at_event : (fault : ServeFault) (line : ℕ) (event : Event) (step : Step) (old new : Moment) → new.world.station ≡ after_event old.world.station event
    → step ≡ answer_to old.world.station event → AfterEvent event step old.world.nodes new.world.nodes → IsSameLayout old.world new.world → PutsOut fault line (old.turns + 1) [] step old.written new.written old.traced new.traced
    → StopsWithin fault line (event ∷ []) old new
stops_at_event fault line event step old new moves answers after same out =
    let turned : AfterEvent event (answer_to old.world.station event) old.world.nodes new.world.nodes = subst (λ (s : Step). AfterEvent event s old.world.nodes new.world.nodes) answers after in
    let stop : StopsAt fault line [] event old new = record {
      station = moves;
      nodes = next_heard old.world.station event [] old.world.nodes new.world.nodes new.world.nodes turned (nothing_heard (after_event old.world.station event) new.world.nodes);
      puts_out = subst (λ (s : Step). PutsOut fault line (old.turns + 1) [] s old.written new.written old.traced new.traced) answers out;
      same = same;
    } in
    (event ∷ [], ([], [], event, refl, refl, stop))
