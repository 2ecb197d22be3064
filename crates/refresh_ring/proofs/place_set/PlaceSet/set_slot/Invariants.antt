use Rattle.std.proofs.Common.{◌≡◌, ℕ, ◌≤◌, ◌*◌}
use Rattle.refresh_ring.specs.Places.{IsPlace, slot_count, slot_of}
use Rattle.refresh_ring.specs.Words.{is_in}
use Rattle.refresh_ring.proofs.place_set.PlaceSet.set_slot.Given as goal

-- the slot's places of the kinds so far say so, and the others what they said
abbrev pub invariant-loop-kind : goal.invariant-loop-kind
invariant-loop-kind l = record {
  own : (place : ℕ) → IsPlace place → place ≤ slot_count * l.kind → slot_of place ≡ l.slot → is_in l.self place ≡ l.on;
  others : (n : ℕ) → ¬ (IsPlace n × (slot_of n ≡ l.slot)) → is_in l.self n ≡ is_in l.initial.self n;
}
