-- The connected clients: those that connected and have not disconnected since.
use Rattle.std.proofs.Common.{◌≡◌, ℕ, ◌-◌, ◌<◌, Bool, true, false, List, [], ◌∷◌, length, Option, Some, None, refl, ap, sym, ◌∙◌, inl, inr, arith, if◌then◌else◌, nat_le, ◌&&◌, ◌||◌, not}
use Rattle.std.specs.Prelude.{◌==◌, is_some}
use Rattle.std.specs.List.{list_all, slice_index_or}
use Rattle.std.proofs.lemmas.Bool.{and_parts, cases_lt, ltb-true, eqb-true}
use Rattle.std.proofs.lemmas.List.{length-set, get_or-replicate, get_or_past}
use Rattle.loconet_tcp.specs.declared.request.Request.{Request}
use Rattle.loconet_tcp.specs.declared.request.Request.TheVariants.{Send, Invalid, Turns, States, Place, Device}
use Rattle.station_core.specs.Station.{packet_of_turn}
use Rattle.bus.specs.declared.event.Event.{Event}
use Rattle.bus.specs.declared.options.BusOptions.{BusOptions}
use Rattle.bus.specs.declared.event.Event.TheVariants.{Connects, Receives, Disconnects, Reports, Programs, Elapses, Turn}
use Rattle.bus.specs.declared.outcome.Outcome.{Outcome}
use Rattle.bus.specs.declared.outcome.Outcome.TheVariants.{Nothing, TurnBegan}
use Rattle.bus.specs.Bus.{AreEvents, BusState, after_event, after_events, request_at, client_of, first_bus, is_event, pending_text_at, outcome_of_request, outcome_of, outcomes_of}
use Rattle.bus.specs.Since.{is_connecting, is_disconnecting, is_nonempty, has_connected, changes_connection, since_connected, stays_connected}
use Rattle.bus.proofs.Own.{place, same_clients}

-- whether a client is connected after an event, by whether one was before

or_true : (a : Bool) → (a || true) ≡ true
or_true true = refl
or_true false = refl

later_still : (joins leaves stay now next : Bool) (outcome : Outcome) (later since : List Outcome) → next ≡ (if joins || leaves then joins else now)
    → (is_nonempty since || (stay && next)) ≡ (is_nonempty (if joins && stay then outcome ∷ later else since) || ((not (joins || leaves) && stay) && now))
later_still true leaves true now next outcome later since e = ap (λ (b : Bool). is_nonempty since || b) e ∙ or_true (is_nonempty since)
later_still true leaves false now next outcome later since e = refl
later_still false true true now next outcome later since e = ap (λ (b : Bool). is_nonempty since || b) e
later_still false true false now next outcome later since e = refl
later_still false false stay now next outcome later since e = ap (λ (b : Bool). is_nonempty since || (stay && b)) e

-- the effect of each event on the connected clients

joins_place : (own : Bool) (kept : Option (List ℕ)) → is_some (if own then Some [] else kept) ≡ (if own || false then own else is_some kept)
joins_place true kept = refl
joins_place false kept = refl

leaves_place : (own : Bool) (kept : Option (List ℕ)) → is_some (if own then None else kept) ≡ (if own then false else is_some kept)
leaves_place true kept = refl
leaves_place false kept = refl

reads_on : (kept : Option (List ℕ)) (byte : ℕ) → is_some (pending_text_at kept byte) ≡ is_some kept
reads_on None byte = refl
reads_on (Some kept) byte = refl

hears_place : (own : Bool) (read kept : Option (List ℕ)) → is_some read ≡ is_some kept → is_some (if own then read else kept) ≡ is_some kept
hears_place true read kept e = e
hears_place false read kept e = refl

asked_stays : (i c : ℕ) (bus : BusState) (request : Option Request) → changes_connection i (outcome_of_request bus c request) ≡ false
asked_stays i c bus None = refl
asked_stays i c bus (Some (Invalid reason)) = refl
asked_stays i c bus (Some (Send message)) = refl
asked_stays i c bus (Some (Turns count)) = refl
asked_stays i c bus (Some (States things)) = refl
asked_stays i c bus (Some (Place placement)) = refl
asked_stays i c bus (Some (Device request)) = refl

time_stays : (i : ℕ) (ends : Bool) (packet : Option (List ℕ)) → changes_connection i (if ends then TurnBegan packet else Nothing) ≡ false
time_stays i true packet = refl
time_stays i false packet = refl

unmoved : (i : ℕ) (outcome : Outcome) (now next : Bool) → changes_connection i outcome ≡ false → next ≡ now → next ≡ (if changes_connection i outcome then is_connecting i outcome else now)
unmoved i outcome now next m e = e ∙ ap (λ (b : Bool). if b then is_connecting i outcome else now) (sym m)

own_reads : (bus : BusState) (c i byte : ℕ) → c < length bus.clients → is_some (client_of (after_event bus (Receives c byte)) i) ≡ is_some (client_of bus i)
own_reads bus c i byte within =
    ap is_some (place bus.clients c i (pending_text_at (client_of bus c) byte) within)
    ∙ reads_or (c == i) refl
  where
    reads_or : (own : Bool) → (c == i) ≡ own → is_some (if own then pending_text_at (client_of bus c) byte else client_of bus i) ≡ is_some (client_of bus i)
    reads_or true e = reads_on (client_of bus c) byte ∙ ap (λ (k : ℕ). is_some (client_of bus k)) (eqb-true c i e)
    reads_or false e = refl

pub next_there : (bus : BusState) (event : Event) (i : ℕ) → is_event event ≡ true → length bus.clients ≡ 8
    → is_some (client_of (after_event bus event) i) ≡ (if changes_connection i (outcome_of bus event) then is_connecting i (outcome_of bus event) else is_some (client_of bus i))
next_there bus (Connects c) i legal eight =
    ap is_some (place bus.clients c i (Some []) (omega (arith, ltb-true c 8 legal, eight))) ∙ joins_place (c == i) (client_of bus i)
next_there bus (Disconnects c) i legal eight =
    ap is_some (place bus.clients c i None (omega (arith, ltb-true c 8 legal, eight))) ∙ leaves_place (c == i) (client_of bus i)
next_there bus (Receives c byte) i legal eight =
    unmoved i (outcome_of bus (Receives c byte)) (is_some (client_of bus i)) (is_some (client_of (after_event bus (Receives c byte)) i))
    (asked_stays i c bus (request_at (client_of bus c) byte))
    (own_reads bus c i byte (omega (arith, ltb-true c 8 legal, eight)))
next_there bus (Elapses micros missed) i legal eight =
    let ends : Bool = nat_le bus.remaining micros in
    unmoved i (outcome_of bus (Elapses micros missed)) (is_some (client_of bus i)) (is_some (client_of (after_event bus (Elapses micros missed)) i))
    (time_stays i ends (packet_of_turn bus.station))
    (ap (λ (clients : List (Option (List ℕ))). is_some (slice_index_or clients i None)) (same_clients ends bus micros (bus.remaining - micros)))
next_there bus (Reports message) i legal eight = refl
next_there bus (Programs packet change) i legal eight = refl
next_there bus (Turn missed) i legal eight = refl

kept_eight : (bus : BusState) (event : Event) → length bus.clients ≡ 8 → length (after_event bus event).clients ≡ 8
kept_eight bus (Connects c) eight = length-set bus.clients c (Some []) ∙ eight
kept_eight bus (Disconnects c) eight = length-set bus.clients c None ∙ eight
kept_eight bus (Receives c byte) eight = length-set bus.clients c (pending_text_at (client_of bus c) byte) ∙ eight
kept_eight bus (Elapses micros missed) eight = ap length (same_clients (nat_le bus.remaining micros) bus micros (bus.remaining - micros)) ∙ eight
kept_eight bus (Reports message) eight = eight
kept_eight bus (Programs packet change) eight = eight
kept_eight bus (Turn missed) eight = eight

-- event by event

pub still_there : (events : List Event) (bus : BusState) (i : ℕ) → AreEvents events → length bus.clients ≡ 8
    → is_some (client_of (after_events bus events) i) ≡ (has_connected i (outcomes_of bus events) || (stays_connected i (outcomes_of bus events) && is_some (client_of bus i)))
still_there [] bus i legal eight = refl
still_there (event ∷ events) bus i legal eight =
    let p = and_parts (is_event event) (list_all is_event events) legal in
    let outcome : Outcome = outcome_of bus event in
    let next : BusState = after_event bus event in
    let later : List Outcome = outcomes_of next events in
    still_there events next i p.1 (kept_eight bus event eight)
    ∙ later_still (is_connecting i outcome) (is_disconnecting i outcome) (stays_connected i later) (is_some (client_of bus i)) (is_some (client_of next i)) outcome later (since_connected i later)
    (next_there bus event i p.0 eight)

-- on a new bus every connected client has connected

nobody : (options : BusOptions) (i : ℕ) → is_some (client_of (first_bus options) i) ≡ false
nobody options i = elim (cases_lt i 8) [
  | inl below ↦ ap is_some (get_or-replicate 8 i None None below)
  | inr past ↦ ap is_some (get_or_past (first_bus options).clients i None past)
]

no_more : (there stay : Bool) → (there || (stay && false)) ≡ there
no_more true stay = refl
no_more false true = refl
no_more false false = refl

pub who_is_there : (options : BusOptions) (events : List Event) (i : ℕ) → AreEvents events
    → is_some (client_of (after_events (first_bus options) events) i) ≡ has_connected i (outcomes_of (first_bus options) events)
who_is_there options events i legal =
    let outcomes : List Outcome = outcomes_of (first_bus options) events in
    still_there events (first_bus options) i legal refl
    ∙ ap (λ (b : Bool). has_connected i outcomes || (stays_connected i outcomes && b)) (nobody options i)
    ∙ no_more (has_connected i outcomes) (stays_connected i outcomes)
