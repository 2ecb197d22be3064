-- What nodes hear of events, one after another.
use Rattle.std.proofs.Common.{◌≡◌, ℕ, ◌<◌, ◌≤◌, Bool, true, false, if◌then◌else◌, nat_eq, List, [], ◌∷◌, ◌++◌, length, take, drop, drop_of_length-le, zero, suc, refl, ap, sym, subst, ◌∙◌, arith}
use Rattle.std.proofs.lemmas.List.{append-nil, take_all}
use Rattle.std.proofs.lemmas.Bool.{and_parts}
use Rattle.std.specs.List.{slice_index_or}
use Rattle.std.specs.Prelude.{IsTrue}
use Rattle.station_core.specs.declared.call.Call.TheVariants.{Turn as TurnCall}
use Rattle.station_core.specs.declared.call.Step.{Step}
use Rattle.station_core.specs.declared.call.Step.TheVariants.{Quiet, Reply, Packet, Off}
use Rattle.station_core.specs.Runs.{answer_of}
use Rattle.station_core.specs.Seen.{Seen}
use Rattle.layout_core.specs.declared.event.Event.{Event}
use Rattle.layout_core.specs.declared.event.Event.TheVariants.{Byte, Turn, Noise}
use Rattle.layout_core.specs.declared.node.Node.{Node}
use Rattle.layout_core.specs.Heard.{HearsAll, Single, sounds_at, sounds_in, sounds_of_turn}
use Rattle.layout_core.specs.Hearing.{AfterPacket}
use Rattle.layout_core.specs.Nodes.{is_missed}
use Rattle.layout_core.specs.Played.{AreEvents, after_event, after_events, answer_to, answers_to, is_event}
use Rattle.layout_core.specs.World.{AfterEvent, AfterHalf, AfterTurn, HaveHeard, HaveObeyed}
use Rattle.layout_core.proofs.Heard.{all_more, sounds-append, sounds_are_whole, whole_obeyed}

pub nothing_heard : (seen : Seen) (nodes : List Node) → HaveHeard seen [] nodes nodes
nothing_heard seen nodes = record { count = refl; each = λ i none below. refl }

same_at : (old new : List Node) (i : ℕ) (none : Node) → new ≡ old → slice_index_or new i none ≡ slice_index_or old i none
same_at old new i none same = ap (λ (nodes : List Node). slice_index_or nodes i none) same

packet_sounds : (b : Bool) (packet : List ℕ) (old new : Node) → AfterPacket b packet old new → HearsAll (sounds_of_turn b (Packet packet)) old new
packet_sounds true packet old new same = same
packet_sounds false packet old new hears = (new, hears, refl)

silent_turn : (b : Bool) (step : Step) (old new : Node) → sounds_of_turn false step ≡ [] → new ≡ old → HearsAll (sounds_of_turn b step) old new
silent_turn true step old new none same = same
silent_turn false step old new none same = subst (λ sounds. HearsAll sounds old new) (sym none) same

half_sounds : (b : Bool) (half : ℕ) (old new : Node) → AfterHalf b half old new → HearsAll (if b then Single half ∷ [] else []) old new
half_sounds true half old new hears = (new, hears, refl)
half_sounds false half old new same = same

turn_count : (missed : ℕ) (step : Step) (old new : List Node) → AfterTurn missed step old new → length new ≡ length old
turn_count missed (Packet packet) old new after = after.count
turn_count missed (Reply reply) old new same = ap length same
turn_count missed Quiet old new same = ap length same
turn_count missed Off old new same = ap length same

turn_heard : (i missed : ℕ) (step : Step) (old new : List Node) (none : Node) → i < length old → AfterTurn missed step old new → HearsAll (sounds_of_turn (is_missed missed i) step) (slice_index_or old i none) (slice_index_or new i none)
turn_heard i missed (Packet packet) old new none below after =
    packet_sounds (is_missed missed i) packet (slice_index_or old i none) (slice_index_or new i none) (after.each i none below)
turn_heard i missed (Reply reply) old new none below same = silent_turn (is_missed missed i) (Reply reply) _ _ refl (same_at old new i none same)
turn_heard i missed Quiet old new none below same = silent_turn (is_missed missed i) Quiet _ _ refl (same_at old new i none same)
turn_heard i missed Off old new none below same = silent_turn (is_missed missed i) Off _ _ refl (same_at old new i none same)

event_count : (event : Event) (step : Step) (old new : List Node) → AfterEvent event step old new → length new ≡ length old
event_count (Byte line byte) step old new same = ap length same
event_count (Turn missed) step old new after = turn_count missed step old new after
event_count (Noise node half) step old new after = after.count

event_heard : (i : ℕ) (seen : Seen) (event : Event) (old new : List Node) (none : Node) → i < length old → AfterEvent event (answer_to seen event) old new → HearsAll (sounds_at i seen event) (slice_index_or old i none) (slice_index_or new i none)
event_heard i seen (Byte line byte) old new none below same = same_at old new i none same
event_heard i seen (Turn missed) old new none below after = turn_heard i missed (answer_of seen TurnCall) old new none below after
event_heard i seen (Noise node half) old new none below after =
    half_sounds (nat_eq node i) half (slice_index_or old i none) (slice_index_or new i none) (after.each i none below)

-- an event and those after it
pub next_heard : (seen : Seen) (event : Event) (events : List Event) (old mid new : List Node) → AfterEvent event (answer_to seen event) old mid → HaveHeard (after_event seen event) events mid new → HaveHeard seen (event ∷ events) old new
next_heard seen event events old mid new after rest =
    let count : length mid ≡ length old = event_count event (answer_to seen event) old mid after in
    record {
      count = rest.count ∙ count;
      each = λ i none below.
          all_more (sounds_at i seen event) (sounds_in i (after_event seen event) events) (slice_index_or old i none) (slice_index_or mid i none) (slice_index_or new i none)
          (event_heard i seen event old mid none below after) (rest.each i none (omega (arith, below, count)));
    }

-- events, and then more
pub both_heard : (seen : Seen) (events later : List Event) (old mid new : List Node) → HaveHeard seen events old mid → HaveHeard (after_events seen events) later mid new → HaveHeard seen (events ++ later) old new
both_heard seen events later old mid new first second = record {
  count = second.count ∙ first.count;
  each = λ i none below.
      subst (λ sounds. HearsAll sounds (slice_index_or old i none) (slice_index_or new i none)) (sym (sounds-append i seen events later))
      (all_more (sounds_in i seen events) (sounds_in i (after_events seen events) later) (slice_index_or old i none) (slice_index_or mid i none) (slice_index_or new i none)
      (first.each i none below) (second.each i none (omega (arith, below, first.count))));
}

-- a node that no noise names obeys
pub heard_obeyed : (seen : Seen) (events : List Event) (old new : List Node) → HaveHeard seen events old new → HaveObeyed seen events old new
heard_obeyed seen events old new has i none below quiet between =
    whole_obeyed (sounds_in i seen events) (slice_index_or old i none) (slice_index_or new i none) (sounds_are_whole i seen events quiet) (has.each i none below) between

pub event_at : (lines nodes : ℕ) (events : List Event) (i : ℕ) (d : Event) → i < length events → AreEvents lines nodes events → IsTrue (is_event lines nodes (slice_index_or events i d))
event_at lines nodes [] i d below are = absurd (omega arith)
event_at lines nodes (event ∷ events) zero d below are = (and_parts _ _ are).0
event_at lines nodes (event ∷ events) (suc i) d below are = event_at lines nodes events i d (omega arith) (and_parts _ _ are).1

-- where no events are left, all are played and answered
module _ (start now : Seen) (events : List Event) (i : ℕ) (past : length events ≤ i) where
  pub all_played : after_events now (drop i events) ≡ after_events start events → now ≡ after_events start events
  all_played rest = sym (ap (after_events now) (drop_of_length-le events past)) ∙ rest

  pub all_answered : (steps : List Step) → length events ≡ length steps → take i steps ++ answers_to now (drop i events) ≡ answers_to start events → steps ≡ answers_to start events
  all_answered steps places written =
      sym (take_all i steps (omega (arith, past, places)))
      ∙ sym (append-nil (take i steps))
      ∙ sym (ap (λ (es : List Event). take i steps ++ answers_to now es) (drop_of_length-le events past))
      ∙ written
