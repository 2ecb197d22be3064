-- Connections that are served one after another add up.
use Rattle.std.proofs.Common.{◌≡◌, inl, inr, ◌<◌, ◌≤◌, ℕ, ◌+◌, List, [], ◌∷◌, ◌++◌, Option, length, length-append, take, refl, ap, sym, subst, ◌∙◌, append_assoc, arith}
use Rattle.std.specs.Prelude.{Result, Ok, Err, IfErr, OnOk}
use Rattle.std.proofs.lemmas.List.{append-nil}
use Rattle.std.specs.Io.KnownBytes.{Appends, IsAtEnd}
use Rattle.layout_core.specs.declared.engine.Limits.{Limits}
use Rattle.layout_core.specs.declared.engine.ServeFault.{ServeFault}
use Rattle.layout_core.specs.declared.engine.Summary.{Summary}
use Rattle.layout_core.specs.declared.engine.ServeFault.TheVariants.{Read, Write, Trace, TooManyReads}
use Rattle.layout_core.specs.declared.event.Event.{Event}
use Rattle.layout_core.specs.declared.world.World.{World}
use Rattle.layout_core.specs.Faults.{HasFaulted, HoldsAfterFault, StopsAfter, is_read, is_write}
use Rattle.layout_core.specs.Played.{answers_to}
use Rattle.layout_core.specs.Served.{HasServed as EngineHasServed, Input, Moment, ServesEvents as EngineServes, moment_of, served_events, traced_from}
use Rattle.console.specs.declared.fault.RunFault.{RunFault}
use Rattle.console.specs.declared.fault.RunFault.TheVariants.{Serve}
use Rattle.station.specs.Connections.{AreServed, GivesUp, HasGivenUp, HasServed, IsServed, ServesConnections, ServesPart, ServesSource, StopsPrinting, StopsShowing, events_of_all, is_serve, next_line, nodes_text, trace_text}
use Rattle.layout_core.specs.declared.node.Node.{Node}
use Rattle.layout_core.specs.Cycle.{RunsAsWanted}
use Rattle.layout_core.specs.World.{HaveHeard}
use Rattle.station_core.specs.Powered.{HasDesk}
use Rattle.station_core.specs.Seen.{Seen, known_of}
use Rattle.console.specs.Fault.{status_of}
use Rattle.input_text.specs.Write.{AppendsFront as PrintedFront}
use Rattle.station.specs.Fault.{of_serve}
use Rattle.station.specs.Replayed.{HasDone}
use Rattle.roster.specs.Entry.{Entry}
use Rattle.std.proofs.KnownBytes.{Appends-nil, Appends-trans}
use Rattle.station.proofs.Replaying.{HeardMore, HeardNone, done_more, done_none}

pub done_whole : (events : List Event) (old new : Moment) → EngineServes 0 events old new → HasDone events old.world new.world
done_whole events old new serves = record { station = serves.station; nodes = serves.nodes }

whole_part : (turns : ℕ) (bytes : List ℕ) (done : List Event) (old new : World) → done ≡ served_events 0 turns bytes → HasDone (served_events 0 turns bytes) old new → ServesPart turns old new
whole_part turns bytes done old new same has = (bytes, served_events 0 turns bytes, [], sym (append-nil (served_events 0 turns bytes)), has)

stopped_part : (fault : ServeFault) (turns : ℕ) (bytes : List ℕ) (done : List Event) (old new : Moment) → StopsAfter fault 0 (served_events 0 turns bytes) done old new → ServesPart turns old.world new.world
stopped_part fault turns bytes done old new stop =
    let before = stop.0 in
    let later = stop.1 in
    let last = stop.2 in
    (bytes, before ++ last ∷ [], later, stop.3 ∙ sym (append_assoc before (last ∷ []) later), record { station = stop.5.station; nodes = stop.5.nodes })

leaves_part : (fault : ServeFault) (turns : ℕ) (bytes : List ℕ) (done : List Event) (old new : Moment) → HoldsAfterFault fault 0 (served_events 0 turns bytes) done old new → ServesPart turns old.world new.world
leaves_part Read turns bytes done old new leaves = whole_part turns bytes done old.world new.world leaves.0 (done_whole (served_events 0 turns bytes) old new leaves.1)
leaves_part TooManyReads turns bytes done old new leaves = whole_part turns bytes done old.world new.world leaves.0 (done_whole (served_events 0 turns bytes) old new leaves.1)
leaves_part Write turns bytes done old new leaves = stopped_part Write turns bytes done old new leaves
leaves_part Trace turns bytes done old new leaves = stopped_part Trace turns bytes done old new leaves

-- A connection that was served, in the terms of the engine: at most as many reads as the limits
-- allow, of at most 64 bytes.
is_served : (limits : Limits) (summary : Summary) (input input' : Input) (old new : Moment) → (has : EngineHasServed 0 limits.turns summary input input' old new) → input'.reads ≤ input.reads + limits.reads → IsServed limits has.0 old.world new.world
is_served limits summary input input' old new has most = record {
  done = done_whole (served_events 0 limits.turns has.0) old new has.3;
  few = omega (arith, has.1.few, has.1.counted, most);
}

is_traced : (limits : Limits) (summary : Summary) (input input' : Input) (old new : Moment) → (has : EngineHasServed 0 limits.turns summary input input' old new) → old.turns ≡ 0 → Appends old.traced new.traced (trace_text old.world.station (served_events 0 limits.turns has.0))
is_traced limits summary input input' old new has first =
    subst (λ (turns : ℕ). Appends old.traced new.traced (traced_from 0 (turns + 1) (answers_to old.world.station (served_events 0 limits.turns has.0)))) first has.3.traced

pub served_whole : (limits : Limits) (summary : Summary) (input input' : Input) (old new : Moment) → EngineHasServed 0 limits.turns summary input input' old new → old.turns ≡ 0 → input'.reads ≤ input.reads + limits.reads
    → ServesConnections limits old.world new.world old.traced new.traced
served_whole limits summary input input' old new has first most = (has.0, is_served limits summary input input' old new has most, is_traced limits summary input input' old new has first)

-- and of a source whose end was found
pub source_whole : (limits : Limits) (summary : Summary) (input input' : Input) (old new : Moment) → EngineHasServed 0 limits.turns summary input input' old new → old.turns ≡ 0 → input'.reads ≤ input.reads + limits.reads → IsAtEnd input'.left
    → ServesSource limits old.world new.world input.left input'.left old.written new.written old.traced new.traced
source_whole limits summary input input' old new has first most end =
    (has.0, has.1.consumed, end, is_served limits summary input input' old new has most, has.3.written, is_traced limits summary input input' old new has first)

-- each fault of the engine has its number
pub serve_1 : (fault : ServeFault) → is_serve 1 (of_serve fault) ≡ is_read fault
serve_1 Read = refl
serve_1 Write = refl
serve_1 Trace = refl
serve_1 TooManyReads = refl

pub serve_2 : (fault : ServeFault) → is_serve 2 (of_serve fault) ≡ is_write fault
serve_2 Read = refl
serve_2 Write = refl
serve_2 Trace = refl
serve_2 TooManyReads = refl

pub serve_4 : (fault : ServeFault) → of_serve fault ≡ Serve 4 → fault ≡ TooManyReads
serve_4 Read is = cc
serve_4 Write is = cc
serve_4 Trace is = cc
serve_4 TooManyReads is = refl

-- a connection that was not served to its end
pub faulted_part : (fault : ServeFault) (turns : ℕ) (input input' : Input) (old : Moment) (world : World) (written traced : Option (List ℕ)) → HasFaulted fault 0 turns input input' old world written traced → ServesPart turns old.world world
faulted_part fault turns input input' old world written traced has =
    leaves_part fault turns has.3 has.4 old (moment_of world written traced has.1 has.2) has.6

all-append : (turns : ℕ) (connections more : List (List ℕ)) → events_of_all turns (connections ++ more) ≡ events_of_all turns connections ++ events_of_all turns more
all-append turns [] more = refl
all-append turns (bytes ∷ connections) more =
    ap (λ (events : List Event). served_events 0 turns bytes ++ events) (all-append turns connections more)
    ∙ sym (append_assoc (served_events 0 turns bytes) (events_of_all turns connections) (events_of_all turns more))

-- a number of connections so far, and the output for them
abbrev pub HasServedSoFar : Limits → (count : ℕ) → List Entry → (old new : World) → (old_output new_output : Option (List ℕ)) → Type 0
HasServedSoFar limits count entries old new old_output new_output =
    (connections : List (List ℕ)) × (length connections ≡ count) × HasDone (events_of_all limits.turns connections) old new
    × (text : List ℕ) × AreServed limits entries connections old new text × Appends old_output new_output text

pub served_none : HeardNone → (limits : Limits) (entries : List Entry) (world : World) (output : Option (List ℕ)) → HasServedSoFar limits 0 entries world world output output
served_none law limits entries world output = ([], refl, done_none law world, [], (refl, refl), Appends-nil output)

-- a connection after others
served_behind : (limits : Limits) (entries : List Entry) (connections : List (List ℕ)) (bytes : List ℕ) (old mid new : World) (text : List ℕ) → AreServed limits entries connections old mid text → IsServed limits bytes mid new
    → AreServed limits entries (connections ++ bytes ∷ []) old new (text ++ (trace_text mid.station (served_events 0 limits.turns bytes) ++ nodes_text entries new))
served_behind limits entries [] bytes old mid new text are is =
    let trace : List ℕ = trace_text mid.station (served_events 0 limits.turns bytes) in
    let whole : text ++ (trace ++ nodes_text entries new) ≡ trace ++ (nodes_text entries new ++ []) =
    ap (λ (bs : List ℕ). bs ++ (trace ++ nodes_text entries new)) are.1 ∙ ap (λ (bs : List ℕ). trace ++ bs) (sym (append-nil (nodes_text entries new))) in
    subst (λ (w : World). AreServed limits entries (bytes ∷ []) w new (text ++ (trace ++ nodes_text entries new))) are.0
    (new, [], is, whole, (refl, refl))
served_behind limits entries (first ∷ connections) bytes old mid new text are is =
    let trace : List ℕ = trace_text mid.station (served_events 0 limits.turns bytes) in
    let more : List ℕ = trace ++ nodes_text entries new in
    let here : List ℕ = trace_text old.station (served_events 0 limits.turns first) in
    let nodes : List ℕ = nodes_text entries are.0 in
    let whole : text ++ more ≡ here ++ (nodes ++ (are.1 ++ more)) =
    ap (λ (bs : List ℕ). bs ++ more) are.3 ∙ append_assoc here (nodes ++ are.1) more ∙ ap (λ (bs : List ℕ). here ++ bs) (append_assoc nodes are.1 more) in
    (are.0, are.1 ++ more, are.2, whole, served_behind limits entries connections bytes are.0 mid new are.1 are.4 is)

-- one connection more
pub served_more : HeardMore → (limits : Limits) (count : ℕ) (entries : List Entry) (old mid new : World) (output so_far traced shown : Option (List ℕ)) → HasServedSoFar limits count entries old mid output so_far
    → ServesConnections limits mid new so_far traced → Appends traced shown (nodes_text entries new) → HasServedSoFar limits (count + 1) entries old new output shown
served_more law limits count entries old mid new output so_far traced shown has one nodes =
    let front : List Event = events_of_all limits.turns has.0 in
    let events : List Event = served_events 0 limits.turns one.0 in
    let trace : List ℕ = trace_text mid.station events in
    let all : events_of_all limits.turns (has.0 ++ one.0 ∷ []) ≡ front ++ events =
    all-append limits.turns has.0 (one.0 ∷ []) ∙ ap (λ (es : List Event). front ++ es) (append-nil events) in (
      has.0 ++ one.0 ∷ [],
      omega (arith, has.1, length-append has.0 (one.0 ∷ [])),
      subst (λ (es : List Event). HasDone es old new) (sym all) (done_more law front events old mid new has.2 one.1.done),
      has.3 ++ (trace ++ nodes_text entries new),
      served_behind limits entries has.0 one.0 old mid new has.3 has.4 one.1,
      Appends-trans output so_far shown has.3 (trace ++ nodes_text entries new) has.5 (Appends-trans so_far traced shown trace (nodes_text entries new) one.2 nodes),
    )

-- all of them
pub served_all : ((start : Seen) (events : List Event) (old new : List Node) → HasDesk start.powered → HaveHeard start events old new → RunsAsWanted (known_of start) events old new)
    → (limits : Limits) (count all : ℕ) (entries : List Entry) (old new : World) (output shown : Option (List ℕ)) → HasDesk old.station.powered → count ≡ all → HasServedSoFar limits count entries old new output shown
    → HasServed limits all entries old new [] output shown
served_all law limits count all entries old new output shown desk same has =
    (has.0, has.1 ∙ same, has.2, law old.station (events_of_all limits.turns has.0) old.nodes new.nodes desk has.2.nodes, has.3, has.4, has.5)

-- after a text that was printed before
pub served_after : {A E : Type 0} (r : Result A E) (limits : Limits) (count : ℕ) (entries : List Entry) (old new : World) (front : List ℕ) (output reported shown : Option (List ℕ)) → Appends output reported front
    → OnOk r (HasServed limits count entries old new [] reported shown) → OnOk r (HasServed limits count entries old new front output shown)
served_after (Ok a) limits count entries old new front output reported shown before has = (has.0, has.1, has.2, has.3, has.4, has.5, Appends-trans output reported shown front has.4 before has.6)
served_after (Err e) limits count entries old new front output reported shown before has = tt

-- and one that was not served to its end
pub given_up : (e : RunFault) (limits : Limits) (count all : ℕ) (entries : List Entry) (old mid new : World) (output so_far shown : Option (List ℕ)) → HasServedSoFar limits count entries old mid output so_far → count < all
    → ServesPart limits.turns mid new → StopsPrinting e limits entries mid new so_far shown → HasGivenUp e limits all entries old new output shown
given_up e limits count all entries old mid new output so_far shown has few part stops =
    (has.0, mid, omega (arith, has.1, few), has.2, part, has.3, so_far, has.4, has.5, stops)

-- each fault of serving has one status
served_status : (fault : ServeFault) → status_of (of_serve fault) ≡ 4
served_status Read = refl
served_status Write = refl
served_status Trace = refl
served_status TooManyReads = refl

stops_status : (e : RunFault) (limits : Limits) (entries : List Entry) (old new : World) (output shown : Option (List ℕ)) → StopsPrinting e limits entries old new output shown → status_of e ≡ 4
stops_status e limits entries old new output shown (inl refused) = ap status_of refused.0
stops_status e limits entries old new output shown (inr (inl given_up)) = ap status_of given_up.1 ∙ served_status given_up.0
stops_status e limits entries old new output shown (inr (inr not_shown)) = ap status_of not_shown.0

pub given_up_status : {A : Type 0} (r : Result A RunFault) (limits : Limits) (count : ℕ) (entries : List Entry) (old new : World) (output shown : Option (List ℕ)) → IfErr r (λ e. HasGivenUp e limits count entries old new output shown)
    → IfErr r (λ e. status_of e ≡ 4)
given_up_status (Ok a) limits count entries old new output shown has = tt
given_up_status (Err e) limits count entries old new output shown has = stops_status e limits entries has.1 new has.6 shown has.9

-- none of it was received
pub part_none : (turns : ℕ) (world : World) → HasDone [] world world → ServesPart turns world world
part_none turns world none = ([], [], [], refl, none)

pub part_whole : (limits : Limits) (old new : World) (output shown : Option (List ℕ)) → ServesConnections limits old new output shown → ServesPart limits.turns old new
part_whole limits old new output shown one = whole_part limits.turns one.0 (served_events 0 limits.turns one.0) old new refl one.1.done

-- A connection that was not served to its end, and its trace.
stopped : (fault : ServeFault) (limits : Limits) (bytes : List ℕ) (done : List Event) (old new : World) (written written' traced traced' : Option (List ℕ)) (replies made : ℕ)
    → HoldsAfterFault fault 0 (served_events 0 limits.turns bytes) done (moment_of old written traced 0 0) (moment_of new written' traced' replies made)
    → GivesUp (of_serve fault) limits old new traced traced'
stopped Read limits bytes done old new written written' traced traced' replies made leaves =
    let events : List Event = served_events 0 limits.turns bytes in
    (Read, refl, bytes, events, [], trace_text old.station events, sym (append-nil events), done_whole events _ _ leaves.1, (refl, refl), leaves.1.traced)
stopped TooManyReads limits bytes done old new written written' traced traced' replies made leaves =
    let events : List Event = served_events 0 limits.turns bytes in
    (TooManyReads, refl, bytes, events, [], trace_text old.station events, sym (append-nil events), done_whole events _ _ leaves.1, (refl, refl), leaves.1.traced)
stopped Write limits bytes done old new written written' traced traced' replies made stop =
    let before : List Event = stop.0 in
    let last : Event = stop.2 in
    (Write, refl, bytes, before ++ last ∷ [], stop.1, trace_text old.station before, stop.3 ∙ sym (append_assoc before (last ∷ []) stop.1), record { station = stop.5.station; nodes = stop.5.nodes }, (before, last, refl, refl), stop.5.puts_out.1)
stopped Trace limits bytes done old new written written' traced traced' replies made stop =
    let before : List Event = stop.0 in
    let last : Event = stop.2 in
    let front = stop.5.puts_out.1 in (
      Trace,
      refl,
      bytes,
      before ++ last ∷ [],
      stop.1,
      trace_text old.station before ++ take front.0 (next_line old.station before last),
      stop.3 ∙ sym (append_assoc before (last ∷ []) stop.1),
      record { station = stop.5.station; nodes = stop.5.nodes },
      (before, last, front.0, refl, front.1, refl),
      front.2,
    )

pub gives_up : (e : RunFault) (fault : ServeFault) (limits : Limits) (input input' : Input) (old new : World) (written written' traced traced' : Option (List ℕ)) → e ≡ of_serve fault
    → HasFaulted fault 0 limits.turns input input' (moment_of old written traced 0 0) new written' traced' → GivesUp e limits old new traced traced'
gives_up e fault limits input input' old new written written' traced traced' is has =
    subst (λ (e : RunFault). GivesUp e limits old new traced traced') (sym is) (stopped fault limits has.3 has.4 old new written written' traced traced' has.1 has.2 has.6)

-- the facts of a fault that is passed on
pub passed_up : {A E : Type 0} (r : Result A E) (reported : E) (P : E → Type 0) → IfErr r (λ e. e ≡ reported) → P reported → IfErr r P
passed_up (Ok a) reported P is p = tt
passed_up (Err e) reported P is p = subst P (sym is) p

-- after the trace of a connection a prefix of the decoders' lines was printed
pub stops_showing : (limits : Limits) (entries : List Entry) (old new : World) (output traced shown : Option (List ℕ)) → ServesConnections limits old new output traced → PrintedFront traced shown (nodes_text entries new)
    → StopsShowing limits entries old new output shown
stops_showing limits entries old new output traced shown one front =
    (one.0, one.1, (front.0, front.1, Appends-trans output traced shown (trace_text old.station (served_events 0 limits.turns one.0)) (take front.0 (nodes_text entries new)) one.2 front.2))
