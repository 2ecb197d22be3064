-- The events of the lines of a run (own).
use Rattle.std.specs.Prelude.{ℕ, ◌≡◌, ◌||◌, Bool, true, false, nat_eq, List, Option, Some, None, codes}
use Rattle.std.specs.List.{starts_with}
use Rattle.trace.specs.Node.{is_of_node, node_of}
use Rattle.trace.specs.Traffic.{IsOfTurn, is_gap, is_of_turn}
use Rattle.timeline.specs.declared.event.Event.{Event}
use Rattle.timeline.specs.declared.event.Event.TheVariants.{TurnBegan, Shown, Message}

-- a message in the log of `lbserver`, or a reply of `station`
abbrev pub is_of_message : List ℕ → Bool
is_of_message line = starts_with nat_eq line (codes "message ") || starts_with nat_eq line (codes "reply ")

-- A line has an event if it is printed of that event: a turn, the state of a decoder, or a message.
-- It has none if its first word is none of these, and neither if lines were lost before it.
abbrev pub Shows : List ℕ → Option Event → Type 0
Shows line (Some (TurnBegan turn)) = (is_of_turn line ≡ true) × IsOfTurn line turn
Shows line (Some (Shown seen)) = (is_of_turn line ≡ false) × (is_of_node line ≡ true) × (node_of line ≡ Some seen)
Shows line (Some Message) = (is_of_turn line ≡ false) × (is_of_node line ≡ false) × (is_of_message line ≡ true)
Shows line None = (is_of_turn line ≡ false) × (is_of_node line ≡ false) × (is_of_message line ≡ false) × (is_gap line ≡ false)
