-- A line carries the messages of its own client only.
use Rattle.std.proofs.Common.{◌≡◌, ℕ, ◌-◌, ◌<◌, Bool, true, false, List, [], ◌∷◌, ◌++◌, length, Option, Some, None, refl, ap, ap₂, sym, ◌∙◌, inl, inr, arith, if◌then◌else◌, nat_lt, nat_le, not, append-nil, append_assoc, eq-eqb}
use Rattle.std.specs.Prelude.{◌==◌, slice_set}
use Rattle.std.specs.List.{list_all, slice_index_or}
use Rattle.std.specs.Option.{option_to_list}
use Rattle.std.proofs.lemmas.Bool.{and_parts, cases_Bool, eqb-true, eqb-false, ltb-true}
use Rattle.std.proofs.lemmas.List.{length-set, get_or-set_same, get_or-set_other}
use Rattle.ln_frame.specs.Message.{is_whole}
use Rattle.service_mode.specs.Spelling.{is_legal_packet}
use Rattle.loconet_tcp.specs.declared.request.Request.{Request}
use Rattle.loconet_tcp.specs.declared.request.Request.TheVariants.{Send, Invalid, Turns, States, Place, Device}
use Rattle.loconet_tcp.specs.Reading.{request_of_byte, requests_along, requests_of, kept_after}
use Rattle.station_core.specs.Station.{packet_of_turn}
use Rattle.bus.specs.declared.event.Event.{Event}
use Rattle.bus.specs.declared.event.Event.TheVariants.{Connects, Receives, Disconnects, Reports, Programs, Elapses, Turn}
use Rattle.bus.specs.declared.outcome.Outcome.TheVariants.{Nothing, TurnBegan}
use Rattle.bus.specs.Bus.{AreEvents, BusState, after_event, request_at, client_of, is_event, pending_text_at, outcome_of_request, outcomes_of, after_turn_boundary}
use Rattle.bus.specs.Own.{stays_connected_in, message_on, messages_on, own_requests, messages_to_send, text_from}

-- ---- the bytes kept of the text of client i, once those of client c are these

place-same : (clients : List (Option (List ℕ))) (c i : ℕ) (kept : Option (List ℕ)) → c < length clients → (c == i) ≡ true → slice_index_or (slice_set clients c kept) i None ≡ kept
place-same clients c i kept within e =
    ap (λ (k : ℕ). slice_index_or (slice_set clients c kept) k None) (sym (eqb-true c i e)) ∙ get_or-set_same clients c kept None within

place-other : (clients : List (Option (List ℕ))) (c i : ℕ) (kept : Option (List ℕ)) → (c == i) ≡ false → slice_index_or (slice_set clients c kept) i None ≡ slice_index_or clients i None
place-other clients c i kept e = get_or-set_other clients c i kept None (λ same. eqb-false c i e (sym same))

pub place : (clients : List (Option (List ℕ))) (c i : ℕ) (kept : Option (List ℕ)) → c < length clients → slice_index_or (slice_set clients c kept) i None ≡ (if c == i then kept else slice_index_or clients i None)
place clients c i kept within = elim (cases_Bool (c == i)) [
  | inl e ↦ rw e (place-same clients c i kept within e)
  | inr e ↦ rw e (place-other clients c i kept e)
]

-- ---- the effect of a request on a line

on_own : (bus : BusState) (c i : ℕ) (request : Option Request) → (c == i) ≡ true → message_on i (outcome_of_request bus c request) ≡ messages_to_send (option_to_list request)
on_own bus c i None e = refl
on_own bus c i (Some (Invalid reason)) e = refl
on_own bus c i (Some (Send message)) e = rw e refl
on_own bus c i (Some (Turns count)) e = refl
on_own bus c i (Some (States things)) e = refl
on_own bus c i (Some (Place placement)) e = refl
on_own bus c i (Some (Device request)) e = refl

on_other : (bus : BusState) (c i : ℕ) (request : Option Request) → (c == i) ≡ false → message_on i (outcome_of_request bus c request) ≡ []
on_other bus c i None e = refl
on_other bus c i (Some (Invalid reason)) e = refl
on_other bus c i (Some (Send message)) e = rw e refl
on_other bus c i (Some (Turns count)) e = refl
on_other bus c i (Some (States things)) e = refl
on_other bus c i (Some (Place placement)) e = refl
on_other bus c i (Some (Device request)) e = refl

sends-more : (request : Option Request) (requests : List Request) → messages_to_send (option_to_list request ++ requests) ≡ messages_to_send (option_to_list request) ++ messages_to_send requests
sends-more None requests = refl
sends-more (Some (Invalid reason)) requests = refl
sends-more (Some (Send message)) requests = refl
sends-more (Some (Turns count)) requests = refl
sends-more (Some (States things)) requests = refl
sends-more (Some (Place placement)) requests = refl
sends-more (Some (Device request)) requests = refl

-- ---- time puts nothing on a line, and changes no client

no_message : (ends : Bool) (i : ℕ) (packet : Option (List ℕ)) → message_on i (if ends then TurnBegan packet else Nothing) ≡ []
no_message true i packet = refl
no_message false i packet = refl

pub same_clients : (ends : Bool) (bus : BusState) (micros remaining : ℕ) → (if ends then after_turn_boundary bus micros else record bus { remaining = remaining }).clients ≡ bus.clients
same_clients true bus micros remaining = refl
same_clients false bus micros remaining = refl

-- ---- event by event

own-same : (i c byte : ℕ) (kept : Option (List ℕ)) (events : List Event) → (c == i) ≡ true
    → own_requests i kept (Receives c byte ∷ events) ≡ option_to_list (request_at kept byte) ++ own_requests i (pending_text_at kept byte) events
own-same i c byte kept events e = rw e refl

own-other : (i c byte : ℕ) (kept : Option (List ℕ)) (events : List Event) → (c == i) ≡ false → own_requests i kept (Receives c byte ∷ events) ≡ own_requests i kept events
own-other i c byte kept events e = rw e refl

pub own : (events : List Event) (bus : BusState) (i : ℕ) → AreEvents events → length bus.clients ≡ 8
    → messages_on i (outcomes_of bus events) ≡ messages_to_send (own_requests i (client_of bus i) events)
own [] bus i legal eight = refl
own (Connects c ∷ events) bus i legal eight =
    let p = and_parts (nat_lt c 8) (list_all is_event events) legal in
    let within : c < length bus.clients = omega (arith, ltb-true c 8 p.0, eight) in
    own events (after_event bus (Connects c)) i p.1 (length-set bus.clients c (Some []) ∙ eight)
    ∙ ap (λ (kept : Option (List ℕ)). messages_to_send (own_requests i kept events)) (place bus.clients c i (Some []) within)
own (Disconnects c ∷ events) bus i legal eight =
    let p = and_parts (nat_lt c 8) (list_all is_event events) legal in
    let within : c < length bus.clients = omega (arith, ltb-true c 8 p.0, eight) in
    own events (after_event bus (Disconnects c)) i p.1 (length-set bus.clients c None ∙ eight)
    ∙ ap (λ (kept : Option (List ℕ)). messages_to_send (own_requests i kept events)) (place bus.clients c i None within)
own (Receives c byte ∷ events) bus i legal eight =
    let p = and_parts (nat_lt c 8) (list_all is_event events) legal in
    let within : c < length bus.clients = omega (arith, ltb-true c 8 p.0, eight) in
    let kept : Option (List ℕ) = client_of bus c in
    let later = own events (after_event bus (Receives c byte)) i p.1 (length-set bus.clients c (pending_text_at kept byte) ∙ eight) in
    elim (cases_Bool (c == i)) [
      | inl e ↦
          ap₂ (λ (these those : List (List ℕ)). these ++ those) (on_own bus c i (request_at kept byte) e)
          (later ∙ ap (λ (k : Option (List ℕ)). messages_to_send (own_requests i k events)) (place-same bus.clients c i (pending_text_at kept byte) within e))
          ∙ sym (sends-more (request_at kept byte) (own_requests i (pending_text_at kept byte) events))
          ∙ ap (λ (k : ℕ). messages_to_send (option_to_list (request_at (client_of bus k) byte) ++ own_requests i (pending_text_at (client_of bus k) byte) events)) (eqb-true c i e)
          ∙ ap messages_to_send (sym (own-same i c byte (client_of bus i) events e))
      | inr e ↦
          ap₂ (λ (these those : List (List ℕ)). these ++ those) (on_other bus c i (request_at kept byte) e)
          (later ∙ ap (λ (k : Option (List ℕ)). messages_to_send (own_requests i k events)) (place-other bus.clients c i (pending_text_at kept byte) e))
          ∙ ap messages_to_send (sym (own-other i c byte (client_of bus i) events e))
    ]
own (Elapses micros missed ∷ events) bus i legal eight =
    let p = and_parts (nat_le micros 5796) (list_all is_event events) legal in
    let ends : Bool = nat_le bus.remaining micros in
    let same = same_clients ends bus micros (bus.remaining - micros) in
    ap₂ (λ (these those : List (List ℕ)). these ++ those) (no_message ends i (packet_of_turn bus.station))
    (own events (after_event bus (Elapses micros missed)) i p.1 (ap length same ∙ eight))
    ∙ ap (λ (clients : List (Option (List ℕ))). messages_to_send (own_requests i (slice_index_or clients i None) events)) same
own (Reports message ∷ events) bus i legal eight = own events bus i (and_parts (is_whole message) (list_all is_event events) legal).1 eight
own (Programs packet change ∷ events) bus i legal eight = own events bus i (and_parts (is_legal_packet packet) (list_all is_event events) legal).1 eight
own (Turn missed ∷ events) bus i legal eight = own events (after_event bus (Turn missed)) i legal eight

-- ---- from connecting to disconnecting

-- the bytes kept at last
abbrev kept_along : List ℕ → List ℕ → List ℕ
kept_along kept [] = kept
kept_along kept (byte ∷ text) = kept_along (kept_after kept byte) text

stays_put : (i c : ℕ) (put kept : Option (List ℕ)) (events : List Event) → not (c == i) ≡ true → own_requests i (if c == i then put else kept) events ≡ own_requests i kept events
stays_put i c put kept events e = elim (cases_Bool (c == i)) [
  | inl same ↦ let no : not true ≡ true = ap not (sym same) ∙ e in cc
  | inr other ↦ ap (λ (b : Bool). own_requests i (if b then put else kept) events) other
]

-- a byte of its own or of another
abbrev byte_when : Bool → ℕ → List ℕ
byte_when own byte = if own then byte ∷ [] else []

abbrev asks_when : Bool → ℕ → List ℕ → List ℕ → List Request
asks_when own byte kept text = requests_along kept (byte_when own byte ++ text)

pub visit : (i : ℕ) (events rest : List Event) (kept : List ℕ) → stays_connected_in i events ≡ true
    → own_requests i (Some kept) (events ++ rest) ≡ requests_along kept (text_from i events) ++ own_requests i (Some (kept_along kept (text_from i events))) rest
visit i [] rest kept stays_connected = refl
visit i (Connects c ∷ events) rest kept stays_connected =
    let p = and_parts (not (c == i)) (stays_connected_in i events) stays_connected in
    stays_put i c (Some []) (Some kept) (events ++ rest) p.0 ∙ visit i events rest kept p.1
visit i (Disconnects c ∷ events) rest kept stays_connected =
    let p = and_parts (not (c == i)) (stays_connected_in i events) stays_connected in
    stays_put i c None (Some kept) (events ++ rest) p.0 ∙ visit i events rest kept p.1
visit i (Receives c byte ∷ events) rest kept stays_connected =
    let text : List ℕ = text_from i events in
    elim (cases_Bool (c == i)) [
      | inl e ↦ rw e (
          ap (λ (requests : List Request). option_to_list (request_of_byte kept byte) ++ requests) (visit i events rest (kept_after kept byte) stays_connected)
          ∙ sym (append_assoc (option_to_list (request_of_byte kept byte)) (requests_along (kept_after kept byte) text) (own_requests i (Some (kept_along (kept_after kept byte) text)) rest)))
      | inr e ↦ rw e (visit i events rest kept stays_connected)
    ]
visit i (Elapses micros missed ∷ events) rest kept stays_connected = visit i events rest kept stays_connected
visit i (Reports message ∷ events) rest kept stays_connected = visit i events rest kept stays_connected
visit i (Programs packet change ∷ events) rest kept stays_connected = visit i events rest kept stays_connected
visit i (Turn missed ∷ events) rest kept stays_connected = visit i events rest kept stays_connected

joined : (i : ℕ) (kept : Option (List ℕ)) (events : List Event) → own_requests i kept (Connects i ∷ events) ≡ own_requests i (Some []) events
joined i kept events = ap (λ (b : Bool). own_requests i (if b then Some [] else kept) events) (eq-eqb i i refl)

remaining : (i : ℕ) (kept : Option (List ℕ)) (events : List Event) → own_requests i kept (Disconnects i ∷ events) ≡ own_requests i None events
remaining i kept events = ap (λ (b : Bool). own_requests i (if b then None else kept) events) (eq-eqb i i refl)

module _ (any_cut : (text : List ℕ) → requests_along [] text ≡ requests_of text) where
  pub whole_visit : (i : ℕ) (kept : Option (List ℕ)) (events rest : List Event) → stays_connected_in i events ≡ true
      → own_requests i kept (Connects i ∷ (events ++ Disconnects i ∷ rest)) ≡ requests_of (text_from i events) ++ own_requests i None rest
  whole_visit i kept events rest stays_connected =
      joined i kept (events ++ Disconnects i ∷ rest)
      ∙ visit i events (Disconnects i ∷ rest) [] stays_connected
      ∙ ap₂ (λ (these those : List Request). these ++ those) (any_cut (text_from i events)) (remaining i (Some (kept_along [] (text_from i events))) rest)

  pub visit_so_far : (i : ℕ) (kept : Option (List ℕ)) (events : List Event) → stays_connected_in i events ≡ true
      → own_requests i kept (Connects i ∷ events) ≡ requests_of (text_from i events)
  visit_so_far i kept events stays_connected =
      ap (λ (all : List Event). own_requests i kept (Connects i ∷ all)) (sym (append-nil events))
      ∙ joined i kept (events ++ [])
      ∙ visit i events [] [] stays_connected
      ∙ append-nil (requests_along [] (text_from i events))
      ∙ any_cut (text_from i events)
