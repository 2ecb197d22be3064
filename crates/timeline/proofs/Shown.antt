-- The event of a line, and no other.
use Rattle.std.proofs.Common.{◌≡◌, ℕ, List, Option, Some, None, true, false, Result, Ok, ap, sym, ◌∙◌}
use Rattle.trace.specs.Traffic.{IsOfTurn, is_of_turn}
use Rattle.trace.specs.declared.turn.Turn.{Turn}
use Rattle.timeline.specs.declared.event.Event.{Event}
use Rattle.timeline.specs.declared.event.Event.TheVariants.{TurnBegan, Shown, Message}
use Rattle.timeline.specs.Run.{Shows}

pub of_turn : {E : Type 0} (line : List ℕ) (result : Result Turn E) (turn : Turn) (reported : Option Event) → is_of_turn line ≡ true → ((t : Turn) → IsOfTurn line t → result ≡ Ok t) → result ≡ Ok turn → Shows line reported
    → Some (TurnBegan turn) ≡ reported
of_turn line result turn (Some (TurnBegan t)) as_turn exact is shows = let same : result ≡ Ok t = exact t shows.1 in let one : turn ≡ t = cc in ap (λ (u : Turn). Some (TurnBegan u)) one
of_turn line result turn (Some (Shown seen)) as_turn exact is shows = absurd (let both : true ≡ false = sym as_turn ∙ shows.0 in cc)
of_turn line result turn (Some Message) as_turn exact is shows = absurd (let both : true ≡ false = sym as_turn ∙ shows.0 in cc)
of_turn line result turn None as_turn exact is shows = absurd (let both : true ≡ false = sym as_turn ∙ shows.0 in cc)

pub of_none : (line : List ℕ) (reported : Option Event) → is_of_turn line ≡ true → ((t : Turn) → IsOfTurn line t → ⊥) → Shows line reported → ⊥
of_none line (Some (TurnBegan t)) as_turn none shows = none t shows.1
of_none line (Some (Shown seen)) as_turn none shows = let both : true ≡ false = sym as_turn ∙ shows.0 in cc
of_none line (Some Message) as_turn none shows = let both : true ≡ false = sym as_turn ∙ shows.0 in cc
of_none line None as_turn none shows = let both : true ≡ false = sym as_turn ∙ shows.0 in cc
