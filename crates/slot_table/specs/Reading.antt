-- What a desk shows: the row of a slot, the slot of an address, the least free slot.
use Rattle.std.specs.Prelude.{ℕ, ◌==◌, Bool, false, List, Option, Some, None, is_none, is_some, find}
use Rattle.std.specs.List.{range_with_len}
use Rattle.std.specs.Ordering.{nat_cmp}
use Rattle.std.specs.FinMap.{FinMap, get}
use Rattle.ln_ops.specs.declared.row.Row.{Row}
use Rattle.ln_ops.specs.Slot.{free_row}
use Rattle.slot_table.specs.Entry.{Entry, row_with}
use Rattle.slot_table.specs.Desk.{Desk}

-- the slots 1 to 119, in order
unfoldable pub all_slots : List ℕ
all_slots = range_with_len 1 119

abbrev pub is_same : Option ℕ → ℕ → Bool
is_same None a = false
is_same (Some b) a = b == a

-- the slot of an address
abbrev pub slot_of : Desk → ℕ → Option ℕ
slot_of desk a = find (λ n. is_same (get desk.place n) a) all_slots

-- the least free slot
abbrev pub free_slot : Desk → Option ℕ
free_slot desk = find (λ n. is_none (get desk.place n)) all_slots

-- whether a slot is not free
abbrev pub is_placed : Desk → ℕ → Bool
is_placed desk n = is_some (get desk.place n)

-- the entry of a slot's address
abbrev pub entry_at : Option ℕ → FinMap nat_cmp Entry → Option Entry
entry_at None asked = None
entry_at (Some a) asked = get asked a

abbrev pub row_at : Option ℕ → Option Entry → Row
row_at (Some a) (Some e) = row_with a e
row_at (Some a) None = free_row
row_at None e = free_row

-- what a slot reads as
abbrev pub row_of : Desk → ℕ → Row
row_of desk n = row_at (get desk.place n) (entry_at (get desk.place n) desk.asked)
