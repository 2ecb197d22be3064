-- What each event preserves of a bus, and its effect on the layout.
use Rattle.std.proofs.Common.{◌≡◌, ℕ, ◌+◌, ◌-◌, ◌<◌, ◌≤◌, Bool, true, false, List, [], Option, Some, None, refl, ap, sym, subst, ◌∙◌, arith, inl, inr, if◌then◌else◌, replicate}
use Rattle.std.specs.Prelude.{IfSome, slice_set}
use Rattle.std.proofs.lemmas.Bool.{cases_lt, ltb-true, leb-true, le-leb, lt-leb}
use Rattle.std.proofs.lemmas.List.{length-set}
use Rattle.ln_frame.specs.Message.{IsWhole}
use Rattle.loconet_tcp.specs.declared.request.Request.{Request}
use Rattle.loconet_tcp.specs.declared.request.Request.TheVariants.{Send, Invalid, Turns, States, Place, Device}
use Rattle.station_core.specs.Station.{after_message}
use Rattle.station_core.specs.Seen.{Seen}
use Rattle.layout_core.specs.declared.event.Event.{Event as LayoutEvent}
use Rattle.layout_core.specs.Played.{after_events as played}
use Rattle.bus.specs.declared.event.Event.{Event}
use Rattle.bus.specs.declared.event.Event.TheVariants.{Connects, Receives, Disconnects, Reports, Programs, Elapses, Turn}
use Rattle.bus.specs.Below.{StationMoves, TurnsAreBounded}
use Rattle.bus.specs.Bus.{BusState, after_event, for_station, request_at, client_of, is_event, is_for_devices, pending_text_at, station_after, after_turn_boundary}
use Rattle.bus.specs.Invariant.{IsInvariant}
use Rattle.bus.specs.Layout.{message_events, layout_event, turn_of}
use Rattle.bus.proofs.Whole.{whole_after}

-- The station receives a whole message of a request, or nothing.

abbrev SendsWhole : Option Request → Type 0
SendsWhole request = (message : List ℕ) → request ≡ Some (Send message) → IsWhole message

whole_request : StationMoves → (kept : Option (List ℕ)) (byte : ℕ) → SendsWhole (request_at kept byte)
whole_request laws None byte = λ message is. cc
whole_request laws (Some kept) byte = laws.requested kept byte

whole_unless : (answered : Bool) (message : List ℕ) → IsWhole message → IfSome (if answered then None else Some message) IsWhole
whole_unless true message whole = tt
whole_unless false message whole = whole

whole_given : (bus : BusState) (request : Option Request) → SendsWhole request → IfSome (for_station bus request) IsWhole
whole_given bus None whole = tt
whole_given bus (Some (Invalid reason)) whole = tt
whole_given bus (Some (Turns count)) whole = tt
whole_given bus (Some (States things)) whole = tt
whole_given bus (Some (Place placement)) whole = tt
whole_given bus (Some (Device request)) whole = tt
whole_given bus (Some (Send message)) whole = whole_unless (is_for_devices bus.options message) message (whole message refl)

-- A time in which the current turn ends, and one in which it does not.

passes_on : (bus : BusState) (micros missed : ℕ) → micros < bus.remaining → after_event bus (Elapses micros missed) ≡ record bus { remaining = bus.remaining - micros }
passes_on bus micros missed less = rw (lt-leb bus.remaining micros less) refl

passes_over : (bus : BusState) (micros missed : ℕ) → bus.remaining ≤ micros → after_event bus (Elapses micros missed) ≡ after_turn_boundary bus micros
passes_over bus micros missed ends = rw (le-leb bus.remaining micros ends) refl

waits_for : (bus : BusState) (micros missed : ℕ) → micros < bus.remaining → layout_event bus (Elapses micros missed) ≡ []
waits_for bus micros missed less = rw (lt-leb bus.remaining micros less) refl

turns_in_it : (bus : BusState) (micros missed : ℕ) → bus.remaining ≤ micros → layout_event bus (Elapses micros missed) ≡ turn_of missed
turns_in_it bus micros missed ends = rw (le-leb bus.remaining micros ends) refl

-- What an event preserves.

kept_clients : (bus : BusState) (station : Seen) (client : ℕ) (kept : Option (List ℕ)) → IsInvariant bus → station.lines ≡ bus.station.lines
    → IsInvariant (record bus { station = station; clients = slice_set bus.clients client kept })
kept_clients bus station client kept h lines = record {
  idle = lines ∙ h.idle;
  client_count = length-set bus.clients client kept ∙ h.client_count;
  under_way = h.under_way;
  longest = h.longest;
}

asked_lines : (station : Seen) (message : Option (List ℕ)) → (after_message station message).lines ≡ station.lines
asked_lines station None = refl
asked_lines station (Some message) = refl

kept_turned : TurnsAreBounded → (bus : BusState) (micros : ℕ) → IsInvariant bus → bus.remaining ≤ micros → micros ≤ bus.remaining + 5795 → IsInvariant (after_turn_boundary bus micros)
kept_turned laws bus micros h ends soon = record {
  idle = h.idle;
  client_count = h.client_count;
  under_way = omega (arith, laws.shortest bus.station, ends, soon);
  longest = omega (arith, laws.longest bus.station, ends);
}

kept_waiting : (bus : BusState) (micros : ℕ) → IsInvariant bus → micros < bus.remaining → IsInvariant (record bus { remaining = bus.remaining - micros })
kept_waiting bus micros h less = record { idle = h.idle; client_count = h.client_count; under_way = omega (arith, less); longest = omega (arith, h.longest) }

pub keeps : TurnsAreBounded → (bus : BusState) (event : Event) → IsInvariant bus → is_event event ≡ true → IsInvariant (after_event bus event)
keeps laws bus (Connects client) h legal = kept_clients bus bus.station client (Some []) h refl
keeps laws bus (Disconnects client) h legal = kept_clients bus bus.station client None h refl
keeps laws bus (Receives client byte) h legal =
    let request : Option Request = request_at (client_of bus client) byte in
    kept_clients bus (station_after bus request) client (pending_text_at (client_of bus client) byte) h (asked_lines bus.station (for_station bus request))
keeps laws bus (Reports message) h legal = h
keeps laws bus (Programs packet change) h legal = h
keeps laws bus (Turn missed) h legal = kept_turned laws bus bus.remaining h (omega arith) (omega arith)
keeps laws bus (Elapses micros missed) h legal = elim (cases_lt micros bus.remaining) [
  | inl less ↦ subst IsInvariant (sym (passes_on bus micros missed less)) (kept_waiting bus micros h less)
  | inr ends ↦ subst IsInvariant (sym (passes_over bus micros missed ends)) (kept_turned laws bus micros h ends (omega (arith, leb-true micros 5796 legal, h.under_way)))
]

-- Its effect on the layout.

asked_station : StationMoves → (station : Seen) (client : ℕ) (message : Option (List ℕ)) → station.lines ≡ replicate 8 [] → client < 8 → IfSome message IsWhole
    → played station (message_events client message) ≡ after_message station message
asked_station laws station client None idle below whole = refl
asked_station laws station client (Some message) idle below whole = whole_after laws station client message idle below whole

pub plays : StationMoves → (bus : BusState) (event : Event) → IsInvariant bus → is_event event ≡ true → played bus.station (layout_event bus event) ≡ (after_event bus event).station
plays laws bus (Connects client) h legal = refl
plays laws bus (Disconnects client) h legal = refl
plays laws bus (Receives client byte) h legal =
    let request : Option Request = request_at (client_of bus client) byte in
    asked_station laws bus.station client (for_station bus request) h.idle (ltb-true client 8 legal) (whole_given bus request (whole_request laws (client_of bus client) byte))
plays laws bus (Reports message) h legal = refl
plays laws bus (Programs packet change) h legal = refl
plays laws bus (Turn missed) h legal = laws.turn bus.station
plays laws bus (Elapses micros missed) h legal = elim (cases_lt micros bus.remaining) [
  | inl less ↦ ap (λ (events : List LayoutEvent). played bus.station events) (waits_for bus micros missed less) ∙ sym (ap (λ (b : BusState). b.station) (passes_on bus micros missed less))
  | inr ends ↦ ap (λ (events : List LayoutEvent). played bus.station events) (turns_in_it bus micros missed ends) ∙ laws.turn bus.station ∙ sym (ap (λ (b : BusState). b.station) (passes_over bus micros missed ends))
]
