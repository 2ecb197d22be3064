-- The main track is as it is without a programming track.
use Rattle.std.proofs.Common.{◌≡◌, ℕ, ◌==◌, ◌&&◌, ◌||◌, Bool, true, false, if◌then◌else◌, List, [], ◌∷◌, ◌++◌, eqb-true, length, map, nat_le, Option, Some, None, refl, ap, ap₂, sym, subst, ◌∙◌}
use Rattle.std.specs.Prelude.{◌-◌, slice_index, slice_set}
use Rattle.std.specs.List.{slice_index_or}
use Rattle.ln_ops.specs.Fields.{SlotBytes}
use Rattle.ln_ops.specs.Message.{fields_of, op_of}
use Rattle.ln_ops.specs.Sensor.{is_interrogation}
use Rattle.ln_ops.specs.declared.op.Op.TheVariants.{Other, SlotWrite}
use Rattle.layout_core.specs.declared.event.Event.TheVariants as layout
use Rattle.layout_core.specs.declared.node.Node.{Node}
use Rattle.layout_core.specs.Heard.{HearsAll, Sound, sounds_in}
use Rattle.layout_core.specs.Played.{after_event as after_layout}
use Rattle.loconet_tcp.specs.declared.request.Request.{Request}
use Rattle.loconet_tcp.specs.declared.request.Request.TheVariants.{Send, Invalid, Turns, States, Place, Device}
use Rattle.programmer.specs.Requests.{is_for_programmer, is_slot_read, is_task_message}
use Rattle.layout_core.specs.World.{HaveHeard}
use Rattle.railway.specs.Railway.{RailwayState}
use Rattle.station_core.specs.Seen.{Seen}
use Rattle.station_core.specs.Station.{after_message, after_op}
use Rattle.bus.specs.declared.event.Event.{Event}
use Rattle.bus.specs.declared.event.Event.TheVariants.{Connects, Disconnects, Elapses, Receives, Reports, Programs, Turn}
use Rattle.bus.specs.Bus.{BusState, after_event, after_turn_boundary, client_of, for_station, outcome_of_request, pending_text_at, request_at, station_after}
use Rattle.bus.specs.Layout.{bytes_on, layout_event, message_events}
use Rattle.bus_server.specs.declared.losses.Losses.{Losses}
use Rattle.bus_server.specs.Observations.{Observation}
use Rattle.bus_server.specs.MainTrack.{IsSameMainTrack, without_programmer}
use Rattle.bus_server.specs.Repeats.{inputs_of, unmissed}
use Rattle.bus_server.specs.Running.{Round, RunsRounds, logged_in}
use Rattle.bus_server.specs.Sensors.{is_report, railway_after, railway_requested, running_in}
use Rattle.bus_server.specs.ServerState.{IsDrawn, LoggedEvent, ServerState, events_of}
use Rattle.bus_server.proofs.Hearing.{heard_same}
use Rattle.bus_server.proofs.Repeating.{Core, Course, HasEffect, IsDrawnFor, HasMissed, core, drawn_for, draws_same, has_missed, head_same, missed_again, missed_of, no_cons, rounds_course, tail_same, with_missed}

-- what an event changes of the main track
record Main : Type 0 where
  pub bus : BusState
  pub nodes : List Node
  pub names : List (List ℕ)
  pub railway : Option RailwayState
  pub losses : Losses

abbrev main_of : BusState → List Node → List (List ℕ) → Option RailwayState → Losses → Main
main_of bus nodes names railway losses = record { bus = bus; nodes = nodes; names = names; railway = railway; losses = losses }

abbrev main : Core → Main
main c = main_of (without_programmer c.bus) c.nodes c.names c.railway c.losses

record HasMainEffect (event : Event) (old new : Main) : Type 0 where
  pub bus : new.bus ≡ after_event old.bus event
  pub nodes : HaveHeard old.bus.station (layout_event old.bus event) old.nodes new.nodes
  pub names : new.names ≡ old.names
  pub railway : new.railway ≡ railway_after old.names old.bus (running_in event old.nodes new.nodes) event old.railway
  pub losses : IsDrawn event old.bus (length old.nodes) old.losses new.losses

abbrev MainCourse : List Event → Main → Main → Type 0
MainCourse [] old new = new ≡ old
MainCourse (event ∷ events) old new = (mid : Main) × HasMainEffect event old mid × MainCourse events mid new

-- The station ignores messages for slot 124.

read_ignored : (seen : Seen) (m : List ℕ) → slice_index m 0 ≡ 0xBB → after_op seen (op_of m) ≡ seen
read_ignored seen m e = rw e refl

write_ignored : (seen : Seen) (f : SlotBytes) → f.slot ≡ 0x7C → after_op seen (SlotWrite f) ≡ seen
write_ignored seen f e = rw e refl

task_op : (m : List ℕ) → slice_index m 0 ≡ 0xEF → op_of m ≡ (if slice_index m 1 == 14 then SlotWrite (fields_of m) else Other)
task_op m e = rw e refl

task_ignored : (seen : Seen) (m : List ℕ) → slice_index m 0 ≡ 0xEF → slice_index m 2 ≡ 0x7C → after_op seen (op_of m) ≡ seen
task_ignored seen m e f = ap (after_op seen) (task_op m e) ∙ by_count (slice_index m 1 == 14) where
  by_count : (long : Bool) → after_op seen (if long then SlotWrite (fields_of m) else Other) ≡ seen
  by_count true = write_ignored seen (fields_of m) f
  by_count false = refl

both : (a b : Bool) → (a && b) ≡ true → (a ≡ true) × (b ≡ true)
both true true e = (refl, refl)
both true false e = cc
both false b e = cc

ignored : (seen : Seen) (m : List ℕ) → is_for_programmer m ≡ true → after_message seen (Some m) ≡ seen
ignored seen m is = by_kind (is_task_message m) (is_slot_read m) refl refl is where
  by_kind : (task read : Bool) → is_task_message m ≡ task → is_slot_read m ≡ read → (task || read) ≡ true → after_op seen (op_of m) ≡ seen
  by_kind true read e f g =
      let parts = both (length m == 14 && slice_index m 0 == 0xEF) (slice_index m 2 == 0x7C) e in
      task_ignored seen m (eqb-true _ _ (both (length m == 14) (slice_index m 0 == 0xEF) parts.0).1) (eqb-true _ _ parts.1)
  by_kind false true e f g = read_ignored seen m (eqb-true _ _ (both (slice_index m 0 == 0xBB) (slice_index m 1 == 0x7C) f).0)
  by_kind false false e f g = cc

-- so that what it receives with a programmer has the effect of what it receives without
sent_same : (seen : Seen) (m : List ℕ) (programmer asked for : Bool) → (for ≡ true → after_message seen (Some m) ≡ seen)
    → after_message seen (if asked || (programmer && for) then None else Some m) ≡ after_message seen (if asked || (false && for) then None else Some m)
sent_same seen m programmer true for ignores = refl
sent_same seen m false false for ignores = refl
sent_same seen m true false false ignores = refl
sent_same seen m true false true ignores = sym (ignores refl)

station_same : (bus : BusState) (request : Option Request) → station_after bus request ≡ station_after (without_programmer bus) request
station_same bus None = refl
station_same bus (Some (Send m)) =
    sent_same bus.station m bus.options.has_programmer (bus.options.has_sensors && is_interrogation m) (is_for_programmer m) (ignored bus.station m)
station_same bus (Some (Invalid reason)) = refl
station_same bus (Some (Turns count)) = refl
station_same bus (Some (States things)) = refl
station_same bus (Some (Place placement)) = refl
station_same bus (Some (Device request)) = refl

either_bus : (begins : Bool) (a b : BusState) → without_programmer (if begins then a else b) ≡ (if begins then without_programmer a else without_programmer b)
either_bus true a b = refl
either_bus false a b = refl

bus_same : (bus : BusState) (event : Event) → without_programmer (after_event bus event) ≡ after_event (without_programmer bus) event
bus_same bus (Connects client) = refl
bus_same bus (Disconnects client) = refl
bus_same bus (Receives client byte) =
    ap (λ (station : Seen). without_programmer (record bus { station = station; clients = slice_set bus.clients client (pending_text_at (client_of bus client) byte) })) (station_same bus (request_at (client_of bus client) byte))
bus_same bus (Reports message) = refl
bus_same bus (Programs packet change) = refl
bus_same bus (Elapses micros missed) = either_bus (nat_le bus.remaining micros) (after_turn_boundary bus micros) (record bus { remaining = bus.remaining - micros })
bus_same bus (Turn missed) = refl

-- Decoders hear nothing of a message.

unheard : (i : ℕ) (seen : Seen) (line : ℕ) (bytes : List ℕ) → sounds_in i seen (bytes_on line bytes) ≡ []
unheard i seen line [] = refl
unheard i seen line (byte ∷ bytes) = unheard i (after_layout seen (layout.Byte line byte)) line bytes

no_sounds : (seen : Seen) (client : ℕ) (message : Option (List ℕ)) (i : ℕ) → sounds_in i seen (message_events client message) ≡ []
no_sounds seen client None i = refl
no_sounds seen client (Some message) i = unheard i seen client message

hears_same : (seen : Seen) (client : ℕ) (message other : Option (List ℕ)) (old new : List Node) → HaveHeard seen (message_events client message) old new → HaveHeard seen (message_events client other) old new
hears_same seen client message other old new h = record {
  count = h.count;
  each = λ i none less. subst (λ (sounds : List Sound). HearsAll sounds (slice_index_or old i none) (slice_index_or new i none)) (no_sounds seen client message i ∙ sym (no_sounds seen client other i)) (h.each i none less);
}

heard_apart : (bus : BusState) (event : Event) (old new : List Node) → HaveHeard bus.station (layout_event bus event) old new → HaveHeard bus.station (layout_event (without_programmer bus) event) old new
heard_apart bus (Connects client) old new h = h
heard_apart bus (Disconnects client) old new h = h
heard_apart bus (Receives client byte) old new h =
    let request = request_at (client_of bus client) byte in
    hears_same bus.station client (for_station bus request) (for_station (without_programmer bus) request) old new h
heard_apart bus (Reports message) old new h = h
heard_apart bus (Programs packet change) old new h = h
heard_apart bus (Elapses micros missed) old new h = h
heard_apart bus (Turn missed) old new h = h

-- Trains are put on the track alike.

placed_same : (names : List (List ℕ)) (bus : BusState) (client : ℕ) (request : Option Request) (railway : Option RailwayState)
    → railway_requested names (outcome_of_request bus client request) railway ≡ railway_requested names (outcome_of_request (without_programmer bus) client request) railway
placed_same names bus client None railway = refl
placed_same names bus client (Some (Send m)) railway = refl
placed_same names bus client (Some (Invalid reason)) railway = refl
placed_same names bus client (Some (Turns count)) railway = refl
placed_same names bus client (Some (States things)) railway = refl
placed_same names bus client (Some (Place placement)) railway = refl
placed_same names bus client (Some (Device request)) railway = refl

railway_same : (names : List (List ℕ)) (bus : BusState) (nodes : List Node) (event : Event) (railway : Option RailwayState)
    → railway_after names bus nodes event railway ≡ railway_after names (without_programmer bus) nodes event railway
railway_same names bus nodes (Connects client) railway = refl
railway_same names bus nodes (Disconnects client) railway = refl
railway_same names bus nodes (Receives client byte) railway = placed_same names bus client (request_at (client_of bus client) byte) railway
railway_same names bus nodes (Reports message) railway = refl
railway_same names bus nodes (Programs packet change) railway = refl
railway_same names bus nodes (Elapses micros missed) railway = refl
railway_same names bus nodes (Turn missed) railway = refl

drawn_apart : (event : Event) (bus : BusState) (nodes : ℕ) (old new : Losses) → IsDrawn event bus nodes old new → IsDrawn event (without_programmer bus) nodes old new
drawn_apart (Connects client) bus nodes old new h = h
drawn_apart (Disconnects client) bus nodes old new h = h
drawn_apart (Receives client byte) bus nodes old new h = h
drawn_apart (Reports message) bus nodes old new h = h
drawn_apart (Programs packet change) bus nodes old new h = h
drawn_apart (Elapses micros missed) bus nodes old new h = h
drawn_apart (Turn missed) bus nodes old new h = h

main_effect : (event : Event) (observed : Observation) (old new : Core) → HasEffect event observed old new → HasMainEffect event (main old) (main new)
main_effect event observed old new h = record {
  bus = ap without_programmer h.bus ∙ bus_same old.bus event;
  nodes = heard_apart old.bus event old.nodes new.nodes h.nodes;
  names = h.names;
  railway = h.railway ∙ railway_same old.names old.bus (running_in event old.nodes new.nodes) event old.railway;
  losses = drawn_apart event old.bus (length old.nodes) old.losses new.losses h.losses;
}

main_course : (logged : List LoggedEvent) (old new : Core) → Course logged old new → MainCourse (events_of logged) (main old) (main new)
main_course [] old new h = ap main h
main_course (one ∷ logged) old new h = (main h.0, main_effect one.event one.observed old h.0 h.1, main_course logged h.0 new h.2)

-- the parts of a main track
main_is : (a b : Main) → a.bus ≡ b.bus → a.nodes ≡ b.nodes → a.names ≡ b.names → a.railway ≡ b.railway → a.losses ≡ b.losses → a ≡ b
main_is a b bus nodes names railway losses =
    ap₂ (λ (x : BusState) (y : List Node). main_of x y a.names a.railway a.losses) bus nodes
    ∙ ap₂ (λ (x : List (List ℕ)) (y : Option RailwayState). main_of b.bus b.nodes x y a.losses) names railway
    ∙ ap (main_of b.bus b.nodes b.names b.railway) losses

-- A report of a device changes nothing of it.

nothing_heard : (seen : Seen) (old new : List Node) → HaveHeard seen [] old new → new ≡ old
nothing_heard seen old new h = heard_same seen [] old new old h (record { count = refl; each = λ i none less. refl })

report_keeps : (event : Event) (old new : Main) → is_report event ≡ true → HasMainEffect event old new → new ≡ old
report_keeps (Reports message) old new is h = main_is new old h.bus (nothing_heard old.bus.station old.nodes new.nodes h.nodes) h.names h.railway h.losses
report_keeps (Programs packet change) old new is h = main_is new old h.bus (nothing_heard old.bus.station old.nodes new.nodes h.nodes) h.names h.railway h.losses
report_keeps (Connects client) old new is h = cc
report_keeps (Receives client byte) old new is h = cc
report_keeps (Disconnects client) old new is h = cc
report_keeps (Elapses micros missed) old new is h = cc
report_keeps (Turn missed) old new is h = cc

-- so that only the others count

abbrev unless_report : Event → (reports : Bool) → List Event → List Event
unless_report event reports events = (if reports then [] else event ∷ []) ++ events

abbrev others : List Event → List Event
others [] = []
others (event ∷ events) = unless_report event (is_report event) (others events)

others_course : (events : List Event) (old new : Main) → MainCourse events old new → MainCourse (others events) old new
others_course [] old new h = h
others_course (event ∷ events) old new h = by_kind (is_report event) refl (others_course events h.0 new h.2) where
  by_kind : (reports : Bool) → is_report event ≡ reports → MainCourse (others events) h.0 new → MainCourse (unless_report event reports (others events)) old new
  by_kind true is rest = subst (λ (mid : Main). MainCourse (others events) mid new) (report_keeps event old h.0 is h.1) rest
  by_kind false is rest = (h.0, h.1, rest)

inputs_are : (events : List Event) → inputs_of events ≡ map unmissed (others events)
inputs_are [] = refl
inputs_are (event ∷ events) = by_kind (is_report event) (inputs_are events) where
  by_kind : (reports : Bool) → inputs_of events ≡ map unmissed (others events) → (if reports then [] else unmissed event ∷ []) ++ inputs_of events ≡ map unmissed (unless_report event reports (others events))
  by_kind true rest = rest
  by_kind false rest = ap (λ (all : List Event). unmissed event ∷ all) rest

-- the same input has the same effect

effect_same : (event : Event) (old a b : Main) → HasMainEffect event old a → HasMainEffect event old b → a.losses ≡ b.losses → a ≡ b
effect_same event old a b h k losses =
    let nodes = heard_same old.bus.station (layout_event old.bus event) old.nodes a.nodes b.nodes h.nodes k.nodes in
    main_is a b (h.bus ∙ sym k.bus) nodes (h.names ∙ sym k.names)
    (h.railway ∙ ap (λ (n : List Node). railway_after old.names old.bus (running_in event old.nodes n) event old.railway) nodes ∙ sym k.railway)
    losses

input_same : (event other : Event) (old a b : Main) → unmissed event ≡ unmissed other → HasMainEffect event old a → HasMainEffect other old b → a ≡ b
input_same event other old a b input h k =
    let nodes = length old.nodes in
    let drawn = drawn_for other old.bus nodes old.losses b.losses k.losses in
    let draws = draws_same (unmissed event) old.bus nodes (missed_of event) (missed_of other) old.losses a.losses b.losses (has_missed event)
    (subst (λ (e : Event). HasMissed e (missed_of other)) (sym input) (has_missed other)) (drawn_for event old.bus nodes old.losses a.losses h.losses)
    (subst (λ (e : Event). IsDrawnFor e old.bus nodes (missed_of other) old.losses b.losses) (sym input) drawn) in
    let same : event ≡ other = sym (missed_again event) ∙ ap₂ with_missed input draws.0 ∙ missed_again other in
    effect_same event old a b h (subst (λ (e : Event). HasMainEffect e old b) (sym same) k) draws.1

course_same : (first second : List Event) (start a b : Main) → MainCourse first start a → MainCourse second start b → map unmissed first ≡ map unmissed second → a ≡ b
course_same [] [] start a b h k inputs = h ∙ sym k
course_same [] (two ∷ second) start a b h k inputs = no_cons (unmissed two) (map unmissed second) inputs
course_same (one ∷ first) [] start a b h k inputs = no_cons (unmissed one) (map unmissed first) (sym inputs)
course_same (one ∷ first) (two ∷ second) start a b h k inputs =
    let heads = head_same (unmissed one) (unmissed two) (map unmissed first) (map unmissed second) inputs in
    let rest = tail_same (unmissed one) (unmissed two) (map unmissed first) (map unmissed second) inputs in
    let same = input_same one two start h.0 k.0 heads h.1 k.1 in
    course_same first second h.0 a b h.2 (subst (λ (mid : Main). MainCourse second mid b) (sym same) k.2) rest

same_main : (old old' : ServerState) → IsSameMainTrack old old' → main (core old') ≡ main (core old)
same_main old old' h = main_is (main (core old')) (main (core old)) h.bus h.nodes h.names h.railway h.losses

pub is_apart : (most most' : ℕ) (rounds rounds' : List Round) (old old' new new' : ServerState) → IsSameMainTrack old old' → RunsRounds most rounds old new → RunsRounds most' rounds' old' new'
    → inputs_of (events_of (logged_in rounds)) ≡ inputs_of (events_of (logged_in rounds')) → IsSameMainTrack new new'
is_apart most most' rounds rounds' old old' new new' alike runs also inputs =
    let events = events_of (logged_in rounds) in
    let events' = events_of (logged_in rounds') in
    let first : MainCourse (others events) (main (core old)) (main (core new)) =
    others_course events (main (core old)) (main (core new)) (main_course (logged_in rounds) (core old) (core new) (rounds_course most rounds old new runs)) in
    let second : MainCourse (others events') (main (core old')) (main (core new')) =
    others_course events' (main (core old')) (main (core new')) (main_course (logged_in rounds') (core old') (core new') (rounds_course most' rounds' old' new' also)) in
    let same : main (core new) ≡ main (core new') =
    course_same (others events) (others events') (main (core old)) (main (core new)) (main (core new')) first
    (subst (λ (m : Main). MainCourse (others events') m (main (core new'))) (same_main old old' alike) second)
    (sym (inputs_are events) ∙ inputs ∙ inputs_are events') in
    record {
      bus = ap (λ (m : Main). m.bus) (sym same);
      nodes = ap (λ (m : Main). m.nodes) (sym same);
      names = ap (λ (m : Main). m.names) (sym same);
      railway = ap (λ (m : Main). m.railway) (sym same);
      losses = ap (λ (m : Main). m.losses) (sym same);
    }
