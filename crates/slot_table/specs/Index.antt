-- The index of a slot table: the slots that are not free with their addresses, and a word of the
-- free ones. No public clause cites these.
use Rattle.std.specs.Prelude.{ℕ, ◌≡◌, ◌<◌, ◌&&◌, Bool, true, false, List, map, length, Option, Some, None, is_none, find, slice_index_or}
use Rattle.std.specs.Int.{bit_at}
use Rattle.std.specs.Ordering.{nat_cmp}
use Rattle.std.specs.FinMap.{FinMap, get, insert, remove, from_entries}
use Rattle.ln_ops.specs.Slot.{is_slot}
use Rattle.slot_table.specs.Entry.{IsSlot}
use Rattle.slot_table.specs.Reading.{all_slots, is_same}
use Rattle.slot_table.specs.declared.pairs.Pair.{Pair}

-- the address in each slot that a pair names
unfoldable pub addresses_of : List Pair → FinMap nat_cmp ℕ
addresses_of pairs = from_entries (map (λ pair. (pair.slot, pair.address)) pairs)

-- pair i of the list, and zeros outside it
abbrev pub pair_at : List Pair → ℕ → Pair
pair_at pairs i = slice_index_or pairs i (record { address = 0; slot = 0 })

-- the addresses ascend
abbrev pub IsRising : List Pair → Type 0
IsRising pairs = (i j : ℕ) → i < j → j < length pairs → (pair_at pairs i).address < (pair_at pairs j).address

abbrev pub bit_of : Bool → ℕ
bit_of true = 1
bit_of false = 0

-- the pairs ascend, each names a different slot, and the bits of the word are the slots that none
-- names
pub record IsIndex (pairs : List Pair) (free : ℕ) : Type 0 where
  pub rising : IsRising pairs
  pub slots : (i : ℕ) → i < length pairs → IsSlot (pair_at pairs i).slot
  pub apart : (i j : ℕ) → i < length pairs → j < length pairs → (pair_at pairs i).slot ≡ (pair_at pairs j).slot → i ≡ j
  pub bits : (n : ℕ) → n < 128 → bit_at free n ≡ bit_of (is_slot n && is_none (get (addresses_of pairs) n))

-- the least bit that is set
pub record IsLeastBit (word n : ℕ) : Type 0 where
  pub within : n < 128
  pub here : bit_at word n ≡ 1
  pub below : (i : ℕ) → i < n → bit_at word i ≡ 0

-- the slot of an address, and the least slot that has none
abbrev pub slot_with : FinMap nat_cmp ℕ → ℕ → Option ℕ
slot_with addresses a = find (λ n. is_same (get addresses n) a) all_slots

abbrev pub first_free : FinMap nat_cmp ℕ → Option ℕ
first_free addresses = find (λ n. is_none (get addresses n)) all_slots

-- the slot has this address, or none, instead of the one that it had
abbrev pub with_address : FinMap nat_cmp ℕ → ℕ → Option ℕ → FinMap nat_cmp ℕ
with_address addresses n None = remove addresses n
with_address addresses n (Some a) = insert (remove addresses n) n a
