-- The turns that begin in events, and the time that elapses.
use Rattle.std.proofs.Common.{◌≡◌, ℕ, zero, suc, ◌+◌, ◌-◌, ◌<◌, ◌≤◌, Bool, true, false, List, [], ◌∷◌, length, Option, Some, None, refl, sym, subst, arith, if◌then◌else◌, nat_le}
use Rattle.std.specs.Prelude.{IsTrue}
use Rattle.std.specs.List.{list_all, slice_index_or}
use Rattle.std.proofs.lemmas.Bool.{and_parts, leb-true, leb-false}
use Rattle.loconet_tcp.specs.declared.request.Request.{Request}
use Rattle.loconet_tcp.specs.declared.request.Request.TheVariants.{Send, Invalid, Turns, States, Place, Device}
use Rattle.station_core.specs.Station.{packet_of_turn}
use Rattle.bus.specs.declared.event.Event.{Event}
use Rattle.bus.specs.declared.event.Event.TheVariants.{Connects, Receives, Disconnects, Reports, Programs, Elapses, Turn}
use Rattle.bus.specs.declared.outcome.Outcome.TheVariants.{Nothing, TurnBegan}
use Rattle.bus.specs.Below.{TurnsAreBounded}
use Rattle.bus.specs.Bus.{AreEvents, BusState, after_event, after_events, request_at, client_of, is_event, duration, outcome_of_request, outcome_of, outcomes_of, after_turn_boundary}
use Rattle.bus.specs.Course.{durations_in, micros_in, micros_of, turn_durations}
use Rattle.bus.specs.Invariant.{IsInvariant}
use Rattle.bus.specs.Time.{IsTimeAccount}
use Rattle.bus.proofs.Account.{adds_up, begins, nothing, passes}

-- Each of the events is an event of the bus.

pub first_legal : (event : Event) (events : List Event) → AreEvents (event ∷ events) → is_event event ≡ true
first_legal event events legal = (and_parts (is_event event) (list_all is_event events) legal).0

pub rest_legal : (event : Event) (events : List Event) → AreEvents (event ∷ events) → AreEvents events
rest_legal event events legal = (and_parts (is_event event) (list_all is_event events) legal).1

pub legal_at : (events : List Event) (i : ℕ) (d : Event) → i < length events → AreEvents events → IsTrue (is_event (slice_index_or events i d))
legal_at [] i d below legal = absurd (omega arith)
legal_at (event ∷ events) zero d below legal = first_legal event events legal
legal_at (event ∷ events) (suc i) d below legal = legal_at events i d (omega arith) ((and_parts (is_event event) (list_all is_event events) legal).1)

pub one_legal : (event : Event) → is_event event ≡ true → AreEvents (event ∷ [])
one_legal event legal = rw legal refl

-- One event.

asked_lasting : (bus : BusState) (client : ℕ) (request : Option Request) → durations_in (outcome_of_request bus client request) ≡ []
asked_lasting bus client None = refl
asked_lasting bus client (Some (Invalid reason)) = refl
asked_lasting bus client (Some (Send message)) = refl
asked_lasting bus client (Some (Turns count)) = refl
asked_lasting bus client (Some (States things)) = refl
asked_lasting bus client (Some (Place placement)) = refl
asked_lasting bus client (Some (Device request)) = refl

no_time : (remaining : ℕ) (turns : List ℕ) → 0 < remaining → turns ≡ [] → IsTimeAccount remaining 0 turns remaining
no_time remaining turns some none = subst (λ (t : List ℕ). IsTimeAccount remaining 0 t remaining) (sym none) (nothing remaining some)

turn_passed : TurnsAreBounded → (bus : BusState) (micros : ℕ) → bus.remaining ≤ micros → micros ≤ bus.remaining + 5795 → IsTimeAccount bus.remaining micros (duration (packet_of_turn bus.station) ∷ []) (after_turn_boundary bus micros).remaining
turn_passed laws bus micros ends soon = begins bus.remaining micros (duration (packet_of_turn bus.station)) ends (omega (arith, laws.shortest bus.station, soon))

micros_passed : TurnsAreBounded → (bus : BusState) (micros : ℕ) (ends : Bool) → nat_le bus.remaining micros ≡ ends → micros ≤ 5796 → 0 < bus.remaining
    → IsTimeAccount bus.remaining micros (durations_in (if ends then TurnBegan (packet_of_turn bus.station) else Nothing)) (if ends then after_turn_boundary bus micros else record bus { remaining = bus.remaining - micros }).remaining
micros_passed laws bus micros true e short some = turn_passed laws bus micros (leb-true bus.remaining micros e) (omega (arith, short, some))
micros_passed laws bus micros false e short some = passes bus.remaining micros (leb-false bus.remaining micros e)

passed_by : TurnsAreBounded → (bus : BusState) (event : Event) → IsInvariant bus → is_event event ≡ true
    → IsTimeAccount bus.remaining (micros_of bus event) (durations_in (outcome_of bus event)) (after_event bus event).remaining
passed_by laws bus (Connects client) h legal = nothing bus.remaining h.under_way
passed_by laws bus (Disconnects client) h legal = nothing bus.remaining h.under_way
passed_by laws bus (Receives client byte) h legal = no_time bus.remaining _ h.under_way (asked_lasting bus client (request_at (client_of bus client) byte))
passed_by laws bus (Reports message) h legal = nothing bus.remaining h.under_way
passed_by laws bus (Programs packet change) h legal = nothing bus.remaining h.under_way
passed_by laws bus (Turn missed) h legal = turn_passed laws bus bus.remaining (omega arith) (omega arith)
passed_by laws bus (Elapses micros missed) h legal = micros_passed laws bus micros (nat_le bus.remaining micros) refl (leb-true micros 5796 legal) h.under_way

-- All of them.

pub all_passed : TurnsAreBounded → ((bus : BusState) (events : List Event) → IsInvariant bus → AreEvents events → IsInvariant (after_events bus events))
    → (events : List Event) (bus : BusState) → IsInvariant bus → AreEvents events
    → IsTimeAccount bus.remaining (micros_in bus events) (turn_durations (outcomes_of bus events)) (after_events bus events).remaining
all_passed laws keeps [] bus h legal = nothing bus.remaining h.under_way
all_passed laws keeps (event ∷ events) bus h legal =
    let later : BusState = after_event bus event in
    let here : is_event event ≡ true = first_legal event events legal in
    adds_up bus.remaining (micros_of bus event) later.remaining (micros_in later events) (after_events later events).remaining
    (durations_in (outcome_of bus event)) (turn_durations (outcomes_of later events))
    (passed_by laws bus event h here)
    (all_passed laws keeps events later (keeps bus (event ∷ []) h (one_legal event here)) (rest_legal event events legal))
