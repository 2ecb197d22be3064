-- From a cycle defined by time to one defined by turns.
use Rattle.std.proofs.Common.{◌≡◌, ℕ, ◌+◌, ◌*◌, ◌≤◌, Bool, true, false, if◌then◌else◌, nat_le, List, [], ◌∷◌, ◌++◌, All, length, Option, Some, None, refl, ap, subst, ◌∙◌, arith, length-append}
use Rattle.std.specs.List.{list_all}
use Rattle.std.proofs.lemmas.Bool.{and_parts, and_from}
use Rattle.std.proofs.lemmas.List.Elements.{All-append, All-cons, All-nil}
use Rattle.loconet_tcp.specs.declared.request.Request.{Request}
use Rattle.loconet_tcp.specs.declared.request.Request.TheVariants.{Send, Invalid, Turns, States, Place, Device}
use Rattle.slot_table.specs.Entry.{Entry}
use Rattle.station_core.specs.ThrottleView.{ThrottleView, known_after_all}
use Rattle.station_core.specs.Moments.{slots_refreshed, turns_in}
use Rattle.station_core.specs.Station.{packet_of_turn}
use Rattle.station_core.specs.Seen.{known_of}
use Rattle.layout_core.specs.declared.event.Event.{Event as LayoutEvent}
use Rattle.layout_core.specs.declared.event.Event.TheVariants.{Byte as LayoutByte, Turn as LayoutTurn, Noise as LayoutNoise}
use Rattle.layout_core.specs.declared.node.Node.{Node}
use Rattle.layout_core.specs.Cycle.{IsCycleOf, RunsAsWanted}
use Rattle.layout_core.specs.Events.{NoNoise, calls_in}
use Rattle.bus.specs.declared.event.Event.{Event}
use Rattle.bus.specs.declared.event.Event.TheVariants.{Connects, Receives, Disconnects, Reports, Programs, Elapses, Turn}
use Rattle.bus.specs.declared.outcome.Outcome.TheVariants.{Nothing, TurnBegan}
use Rattle.bus.specs.Bus.{AreEvents, BusState, after_event, after_events, for_station, request_at, client_of, is_event, duration, outcome_of_request, outcome_of, outcomes_of}
use Rattle.bus.specs.Course.{durations_in, micros_in, turn_durations}
use Rattle.bus.specs.Cycle.{IsTimedCycleOf, RunsInTime}
use Rattle.bus.specs.Invariant.{IsInvariant}
use Rattle.bus.specs.Layout.{bytes_on, message_events, layout_event, layout_events, turn_of}
use Rattle.bus.specs.Time.{IsTimeAccount}
use Rattle.bus.proofs.Account.{enough}
use Rattle.bus.specs.Below.{TurnsAreBounded}

-- There is no noise among them.

no_noise-append : (i : ℕ) (these those : List LayoutEvent) → NoNoise i these → NoNoise i those → NoNoise i (these ++ those)
no_noise-append i [] those h k = k
no_noise-append i (LayoutByte line byte ∷ these) those h k = no_noise-append i these those h k
no_noise-append i (LayoutTurn missed ∷ these) those h k = no_noise-append i these those h k
no_noise-append i (LayoutNoise node half ∷ these) those h k = (h.0, no_noise-append i these those h.1 k)

bytes_quiet : (i line : ℕ) (bytes : List ℕ) → NoNoise i (bytes_on line bytes)
bytes_quiet i line [] = tt
bytes_quiet i line (byte ∷ bytes) = bytes_quiet i line bytes

asked_quiet : (i client : ℕ) (message : Option (List ℕ)) → NoNoise i (message_events client message)
asked_quiet i client None = tt
asked_quiet i client (Some message) = bytes_quiet i client message

passing_quiet : (i missed : ℕ) (ends : Bool) → NoNoise i (if ends then turn_of missed else [])
passing_quiet i missed true = tt
passing_quiet i missed false = tt

event_quiet : (i : ℕ) (bus : BusState) (event : Event) → NoNoise i (layout_event bus event)
event_quiet i bus (Connects client) = tt
event_quiet i bus (Disconnects client) = tt
event_quiet i bus (Receives client byte) = asked_quiet i client (for_station bus (request_at (client_of bus client) byte))
event_quiet i bus (Reports message) = tt
event_quiet i bus (Programs packet change) = tt
event_quiet i bus (Elapses micros missed) = passing_quiet i missed (nat_le bus.remaining micros)
event_quiet i bus (Turn missed) = tt

pub quiet : (i : ℕ) (events : List Event) (bus : BusState) → NoNoise i (layout_events bus events)
quiet i [] bus = tt
quiet i (event ∷ events) bus =
    no_noise-append i (layout_event bus event) (layout_events (after_event bus event) events) (event_quiet i bus event) (quiet i events (after_event bus event))

-- There are as many turns among them as outcomes show.

turns-append : (these those : List LayoutEvent) → turns_in (calls_in (these ++ those)) ≡ turns_in (calls_in these) + turns_in (calls_in those)
turns-append [] those = omega arith
turns-append (LayoutByte line byte ∷ these) those = omega (arith, turns-append these those)
turns-append (LayoutTurn missed ∷ these) those = omega (arith, turns-append these those)
turns-append (LayoutNoise node half ∷ these) those = turns-append these those

bytes_turns : (line : ℕ) (bytes : List ℕ) → turns_in (calls_in (bytes_on line bytes)) ≡ 0
bytes_turns line [] = refl
bytes_turns line (byte ∷ bytes) = omega (arith, bytes_turns line bytes)

given_turns : (client : ℕ) (message : Option (List ℕ)) → turns_in (calls_in (message_events client message)) ≡ 0
given_turns client None = refl
given_turns client (Some message) = bytes_turns client message

asked_turns : (bus : BusState) (client : ℕ) (request : Option Request) → turns_in (calls_in (message_events client (for_station bus request))) ≡ length (durations_in (outcome_of_request bus client request))
asked_turns bus client None = refl
asked_turns bus client (Some (Invalid reason)) = refl
asked_turns bus client (Some (Send message)) = given_turns client (for_station bus (Some (Send message)))
asked_turns bus client (Some (Turns count)) = refl
asked_turns bus client (Some (States things)) = refl
asked_turns bus client (Some (Place placement)) = refl
asked_turns bus client (Some (Device request)) = refl

passing_turns : (missed : ℕ) (packet : Option (List ℕ)) (ends : Bool) → turns_in (calls_in (if ends then turn_of missed else [])) ≡ length (durations_in (if ends then TurnBegan packet else Nothing))
passing_turns missed packet true = refl
passing_turns missed packet false = refl

event_turns : (bus : BusState) (event : Event) → turns_in (calls_in (layout_event bus event)) ≡ length (durations_in (outcome_of bus event))
event_turns bus (Connects client) = refl
event_turns bus (Disconnects client) = refl
event_turns bus (Receives client byte) = asked_turns bus client (request_at (client_of bus client) byte)
event_turns bus (Reports message) = refl
event_turns bus (Programs packet change) = refl
event_turns bus (Elapses micros missed) = passing_turns missed (packet_of_turn bus.station) (nat_le bus.remaining micros)
event_turns bus (Turn missed) = refl

pub turns_told : (events : List Event) (bus : BusState) → turns_in (calls_in (layout_events bus events)) ≡ length (turn_durations (outcomes_of bus events))
turns_told [] bus = refl
turns_told (event ∷ events) bus =
    let later : BusState = after_event bus event in
    omega (
      arith,
      turns-append (layout_event bus event) (layout_events later events),
      event_turns bus event,
      turns_told events later,
      length-append (durations_in (outcome_of bus event)) (turn_durations (outcomes_of later events)),
    )

-- None lasts longer than the longest packet.

abbrev IsShort : ℕ → Type 0
IsShort turn = turn ≤ 10740

asked_short : (bus : BusState) (client : ℕ) (request : Option Request) → All IsShort (durations_in (outcome_of_request bus client request))
asked_short bus client None = All-nil IsShort
asked_short bus client (Some (Invalid reason)) = All-nil IsShort
asked_short bus client (Some (Send message)) = All-nil IsShort
asked_short bus client (Some (Turns count)) = All-nil IsShort
asked_short bus client (Some (States things)) = All-nil IsShort
asked_short bus client (Some (Place placement)) = All-nil IsShort
asked_short bus client (Some (Device request)) = All-nil IsShort

turn_short : TurnsAreBounded → (bus : BusState) → All IsShort (durations_in (TurnBegan (packet_of_turn bus.station)))
turn_short laws bus = All-cons IsShort (duration (packet_of_turn bus.station)) [] (laws.longest bus.station) (All-nil IsShort)

passing_short : TurnsAreBounded → (bus : BusState) (ends : Bool) → All IsShort (durations_in (if ends then TurnBegan (packet_of_turn bus.station) else Nothing))
passing_short laws bus true = turn_short laws bus
passing_short laws bus false = All-nil IsShort

event_short : TurnsAreBounded → (bus : BusState) (event : Event) → All IsShort (durations_in (outcome_of bus event))
event_short laws bus (Connects client) = All-nil IsShort
event_short laws bus (Disconnects client) = All-nil IsShort
event_short laws bus (Reports message) = All-nil IsShort
event_short laws bus (Programs packet change) = All-nil IsShort
event_short laws bus (Receives client byte) = asked_short bus client (request_at (client_of bus client) byte)
event_short laws bus (Elapses micros missed) = passing_short laws bus (nat_le bus.remaining micros)
event_short laws bus (Turn missed) = turn_short laws bus

pub all_short : TurnsAreBounded → (events : List Event) (bus : BusState) → All IsShort (turn_durations (outcomes_of bus events))
all_short laws [] bus = All-nil IsShort
all_short laws (event ∷ events) bus =
    All-append IsShort (durations_in (outcome_of bus event)) (turn_durations (outcomes_of (after_event bus event) events)) (event_short laws bus event) (all_short laws events (after_event bus event))

-- So a cycle of sufficient time has sufficient turns.

enough_turns : TurnsAreBounded → (bus : BusState) (cycle : List Event) (slots : ℕ) → IsInvariant bus
    → IsTimeAccount bus.remaining (micros_in bus cycle) (turn_durations (outcomes_of bus cycle)) (after_events bus cycle).remaining
    → 171840 * slots ≤ micros_in bus cycle → 16 * slots ≤ turns_in (calls_in (layout_events bus cycle))
enough_turns laws bus cycle slots h elapsed long =
    let many : 16 * slots ≤ length (turn_durations (outcomes_of bus cycle)) =
    enough bus.remaining (micros_in bus cycle) (after_events bus cycle).remaining 10740 (turn_durations (outcomes_of bus cycle)) elapsed h.longest (all_short laws cycle bus) (16 * slots) (omega (arith, long)) in
    omega (arith, many, turns_told cycle bus)

pub full : TurnsAreBounded → (slot a : ℕ) (e : Entry) (known : ThrottleView) (bus : BusState) (cycle : List Event) → IsInvariant bus
    → IsTimeAccount bus.remaining (micros_in bus cycle) (turn_durations (outcomes_of bus cycle)) (after_events bus cycle).remaining
    → IsTimedCycleOf slot a e known bus cycle → IsCycleOf slot a e known (calls_in (layout_events bus cycle))
full laws slot a e known bus cycle h elapsed timed = record {
  is_slot = timed.is_slot;
  full = record { live = timed.live; enough = enough_turns laws bus cycle (slots_refreshed known (calls_in (layout_events bus cycle))) h elapsed timed.enough };
  stands = timed.stands;
}

pub front_legal : (these those : List Event) → AreEvents (these ++ those) → AreEvents these
front_legal [] those legal = refl
front_legal (event ∷ these) those legal =
    let p = and_parts (is_event event) (list_all is_event (these ++ those)) legal in
    and_from (is_event event) (list_all is_event these) p.0 (front_legal these those p.1)

pub end_legal : (these those : List Event) → AreEvents (these ++ those) → AreEvents those
end_legal [] those legal = legal
end_legal (event ∷ these) those legal = end_legal these those ((and_parts (is_event event) (list_all is_event (these ++ those)) legal).1)

pub runs_in_time : TurnsAreBounded
    → ((bus : BusState) (events later : List Event) → layout_events bus (events ++ later) ≡ layout_events bus events ++ layout_events (after_events bus events) later)
    → ((bus : BusState) (events : List Event) → IsInvariant bus → AreEvents events → IsInvariant (after_events bus events))
    → ((bus : BusState) (events : List Event) → IsInvariant bus → AreEvents events → IsTimeAccount bus.remaining (micros_in bus events) (turn_durations (outcomes_of bus events)) (after_events bus events).remaining)
    → (start : BusState) (events : List Event) (old new : List Node) → IsInvariant start → AreEvents events
    → RunsAsWanted (known_of start.station) (layout_events start events) old new → RunsInTime start events old new
runs_in_time laws cut keeps passes start events old new h legal runs before cycle i loco none split below stands slot a e between hears timed =
    let mid : BusState = after_events start before in
    let both : AreEvents (before ++ cycle) = subst AreEvents split legal in
    let kept : IsInvariant mid = keeps start before h (front_legal before cycle both) in
    runs (layout_events start before) (layout_events mid cycle) i loco none
    (ap (layout_events start) split ∙ cut start before cycle) below stands slot a e between (quiet i before start) hears
    (full laws slot a e (known_after_all (known_of start.station) (calls_in (layout_events start before))) mid cycle kept (passes mid cycle kept (end_legal before cycle both)) timed)
