-- Where no decoder is to miss anything, none misses a turn.
use Rattle.std.proofs.Common.{◌≡◌, ℕ, Bool, true, false, if◌then◌else◌, nat_le, List, [], ◌∷◌, Option, Some, None, refl, ap, ◌∙◌, eq-eqb}
use Rattle.std.specs.Prelude.{◌==◌, MatchBool}
use Rattle.std.specs.List.{list_all}
use Rattle.std.proofs.lemmas.Bool.{and_from}
use Rattle.std.proofs.lemmas.List.Folds.{list_all-append}
use Rattle.layout_core.specs.declared.event.Event.{Event as LayoutEvent}
use Rattle.bus.specs.declared.event.Event.{Event}
use Rattle.bus.specs.declared.event.Event.TheVariants.{Connects, Receives, Disconnects, Reports, Programs, Elapses, Turn}
use Rattle.bus.specs.Bus.{BusState, for_station, after_event, client_of, request_at}
use Rattle.bus.specs.Layout.{bytes_on, layout_event, layout_events, message_events, turn_of}
use Rattle.bus_server.specs.declared.losses.Losses.{Losses}
use Rattle.bus_server.specs.ServerState.{IsDrawn}
use Rattle.bus_server.specs.Generator.{loses_none}
use Rattle.bus_server.specs.Losses.{IsDraw}
use Rattle.bus_server.specs.Running.{AreDrawn, is_missed_by_none}

bytes_heard : (line : ℕ) (bytes : List ℕ) → list_all is_missed_by_none (bytes_on line bytes) ≡ true
bytes_heard line [] = refl
bytes_heard line (byte ∷ bytes) = bytes_heard line bytes

message_heard : (client : ℕ) (message : Option (List ℕ)) → list_all is_missed_by_none (message_events client message) ≡ true
message_heard client None = refl
message_heard client (Some message) = bytes_heard client message

-- a turn that is heard by all, and the shares stay
record Heard (events : List LayoutEvent) (new : Losses) : Type 0 where
  all : list_all is_missed_by_none events ≡ true
  none : loses_none new.shares.items ≡ true

turn_heard : (nodes missed : ℕ) (old new : Losses) → IsDraw nodes missed old new → loses_none old.shares.items ≡ true → Heard (turn_of missed) new
turn_heard nodes missed old new h lose = record { all = and_from (missed == 0) true (eq-eqb missed 0 (h.none lose)) refl; none = ap (λ shares. loses_none shares.items) h.shares ∙ lose }

elapsed_heard : (begins : Bool) (nodes missed : ℕ) (old new : Losses) → MatchBool begins (IsDraw nodes missed old new) ((missed ≡ 0) × (new ≡ old)) → loses_none old.shares.items ≡ true → Heard (if begins then turn_of missed else []) new
elapsed_heard true nodes missed old new h lose = turn_heard nodes missed old new h lose
elapsed_heard false nodes missed old new h lose = record { all = refl; none = ap (λ (l : Losses). loses_none l.shares.items) h.1 ∙ lose }

event_heard : (event : Event) (bus : BusState) (nodes : ℕ) (old new : Losses) → IsDrawn event bus nodes old new → loses_none old.shares.items ≡ true → Heard (layout_event bus event) new
event_heard (Connects client) bus nodes old new h lose = record { all = refl; none = ap (λ (l : Losses). loses_none l.shares.items) h ∙ lose }
event_heard (Disconnects client) bus nodes old new h lose = record { all = refl; none = ap (λ (l : Losses). loses_none l.shares.items) h ∙ lose }
event_heard (Receives client byte) bus nodes old new h lose = record { all = message_heard client (for_station bus (request_at (client_of bus client) byte)); none = ap (λ (l : Losses). loses_none l.shares.items) h ∙ lose }
event_heard (Elapses micros missed) bus nodes old new h lose = elapsed_heard (nat_le bus.remaining micros) nodes missed old new h lose
event_heard (Reports message) bus nodes old new h lose = record { all = refl; none = ap (λ (l : Losses). loses_none l.shares.items) h ∙ lose }
event_heard (Programs packet change) bus nodes old new h lose = record { all = refl; none = ap (λ (l : Losses). loses_none l.shares.items) h ∙ lose }
event_heard (Turn missed) bus nodes old new h lose = turn_heard nodes missed old new h lose

pub all_heard : (events : List Event) (bus : BusState) (nodes : ℕ) (old new : Losses) → AreDrawn events bus nodes old new → loses_none old.shares.items ≡ true → list_all is_missed_by_none (layout_events bus events) ≡ true
all_heard [] bus nodes old new h lose = refl
all_heard (event ∷ events) bus nodes old new h lose =
    let one = event_heard event bus nodes old h.0 h.1 lose in
    list_all-append is_missed_by_none (layout_event bus event) (layout_events (after_event bus event) events)
    ∙ and_from (list_all is_missed_by_none (layout_event bus event)) (list_all is_missed_by_none (layout_events (after_event bus event) events)) one.all
    (all_heard events (after_event bus event) nodes h.0 new h.2 one.none)
