-- Sets of places as words of bits: place p is bit p % 64 of word p / 64. No public clause cites
-- these.
use Rattle.std.specs.Prelude.{ℕ, ◌≡◌, ◌+◌, ◌/◌, ◌%◌, ◌==◌, Bool, false, List, map, slice_index_or}
use Rattle.std.specs.Int.{bit_at}
use Rattle.std.specs.List.{range_with_len}
use Rattle.refresh_ring.specs.Places.{IsPlace, slot_count, last_place, slot_of}

-- as many words as the last place asks for
abbrev pub word_count : ℕ
word_count = last_place / 64 + 1

abbrev pub bit_of : List ℕ → ℕ → ℕ
bit_of words place = bit_at (slice_index_or words (place / 64) 0) (place % 64)

abbrev pub is_in : List ℕ → ℕ → Bool
is_in words place = bit_of words place == 1

-- for each of the slots 1 to 119, whether its first place is in
unfoldable pub slots_in : List ℕ → List Bool
slots_in words = map (is_in words) (range_with_len 1 slot_count)

-- the places of a slot are in or out together, and nothing but places is in
pub record IsSpread (words : List ℕ) : Type 0 where
  pub together : (place : ℕ) → IsPlace place → is_in words place ≡ is_in words (slot_of place)
  pub places : (n : ℕ) → ¬ IsPlace n → is_in words n ≡ false
