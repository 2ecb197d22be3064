-- What the slots of a desk read as.
use Rattle.std.proofs.Common.{◌≡◌, ◌<◌, ◌==◌, ℕ, true, Option, Some, None, IsSome, IsSomeAnd, refl, ap, arith}
use Rattle.std.proofs.lemmas.Bool.{cond_both}
use Rattle.std.specs.Ordering.{nat_cmp}
use Rattle.std.specs.FinMap.{FinMap, get}
use Rattle.ln_ops.specs.Slot.{is_held}
use Rattle.slot_table.specs.Entry.{Entry, IsAddress, IsEntry, IsRow, row_with}
use Rattle.slot_table.specs.Desk.{Desk, IsDesk}
use Rattle.slot_table.specs.Reading.{row_of, row_at, entry_at, slot_of}
use Rattle.slot_table.specs.Writes.{kept_more}
use Rattle.slot_table.specs.Laws.{Holds, RowsAreLegal}
use Rattle.slot_table.proofs.Legal.{legal_row, free_row-IsRow}
use Rattle.slot_table.proofs.Desks.{slot_of-at, slot_of-none}

row_legal : (place : Option ℕ) (asked : FinMap nat_cmp Entry) → ((a : ℕ) → place ≡ Some a → IsAddress a × IsSomeAnd (get asked a) IsEntry) → IsRow (row_at place (entry_at place asked))
row_legal None asked h = free_row-IsRow
row_legal (Some a) asked h = let known = h a refl in by_entry (get asked a) known.1
  where
    by_entry : (o : Option Entry) → IsSomeAnd o IsEntry → IsRow (row_at (Some a) o)
    by_entry None is = absurd is
    by_entry (Some e) is = legal_row (row_with a e) is.held (h a refl).0 is

-- a row that is not free is that of a place
row_placed : (place : Option ℕ) (o : Option Entry) (a : ℕ) → is_held (row_at place o).state ≡ true → (row_at place o).address ≡ a → place ≡ Some a
row_placed None o a held at = cc
row_placed (Some b) None a held at = cc
row_placed (Some b) (Some e) a held at = ap Some at

-- and a place has a row that is not free
placed_row : (place : Option ℕ) (o : Option Entry) (a : ℕ) → place ≡ Some a → IsSomeAnd o IsEntry → (is_held (row_at place o).state ≡ true) × ((row_at place o).address ≡ a)
placed_row None o a at is = cc
placed_row (Some b) None a at is = absurd is
placed_row (Some b) (Some e) a at is = let same : b ≡ a = cc in (is.held, same)

module _ (desk : Desk) (is : IsDesk desk) where
  placed : (n a : ℕ) → Holds desk n a → get desk.place n ≡ Some a
  placed n a h = row_placed (get desk.place n) (entry_at (get desk.place n) desk.asked) a h.0 h.1

  entry_there : (n a : ℕ) → get desk.place n ≡ Some a → IsSomeAnd (entry_at (get desk.place n) desk.asked) IsEntry
  entry_there n a at = rw at (is.has_entry n a at)

  holds : (n a : ℕ) → get desk.place n ≡ Some a → Holds desk n a
  holds n a at = placed_row (get desk.place n) (entry_at (get desk.place n) desk.asked) a at (entry_there n a at)

  some_place : (n : ℕ) (o : Option ℕ) → get desk.place n ≡ o → IsSome o → is_held (row_of desk n).state ≡ true
  some_place n None e h = cc
  some_place n (Some a) e h = (holds n a e).0

  found_there : (n a : ℕ) (o : Option ℕ) → slot_of desk a ≡ o → get desk.place n ≡ Some a → o ≡ Some n
  found_there n a None e at = absurd (slot_of-none desk a is e n at)
  found_there n a (Some m) e at = ap Some (is.one_place m n a (slot_of-at desk a m e).1 at)

  pub rows_are_legal : RowsAreLegal desk
  rows_are_legal = record {
    legal = λ n. row_legal (get desk.place n) desk.asked (λ a at. ((is.slots n a at).1, is.has_entry n a at));
    one_slot = λ m n a h k. is.one_place m n a (placed m a h) (placed n a k);
    found = λ n a. (λ e. holds n a (slot_of-at desk a n e).1, λ h. found_there n a (slot_of desk a) refl (placed n a h));
    marked = λ n e. some_place n (get desk.place n) refl (is.marked n e);
  }

  -- F9 to F12 that a slot keeps are four bits
  pub kept-bits : (n a : ℕ) → kept_more desk n a < 16
  kept-bits n a = cond_both ((row_of desk n).address == a) (row_of desk n).more 0 (λ k. k < 16) (λ same. (rows_are_legal.legal n).more) (λ other. omega arith)
