-- Legal rows and entries.
use Rattle.std.proofs.Common.{◌≡◌, ℕ, ◌<◌, ◌==◌, ◌&&◌, true, nat_lt, ◌/◌, ◌%◌, refl, arith}
use Rattle.std.proofs.lemmas.Bool.{and_parts}
use Rattle.std.proofs.lemmas.Bool.Decides.{nat_tests}
use Rattle.ln_ops.specs.declared.row.Row.{Row}
use Rattle.ln_ops.specs.Slot.{is_held, is_kind, is_stat, kind_of, free_row}
use Rattle.slot_table.specs.Entry.{IsAddress, IsEntry, IsRow, entry_of}

pub kind_below : (kind : ℕ) → is_kind kind ≡ true → kind < 8
kind_below kind h = grind (arith, nat_tests)

pub stat-kind : (stat : ℕ) → is_stat stat ≡ true → is_kind (kind_of stat) ≡ true
stat-kind stat h = (and_parts (nat_lt stat 64 && (stat / 8 % 2 == 0)) (is_kind (kind_of stat)) h).1

-- the row of a slot that is not free
pub legal_row : (row : Row) → is_held row.state ≡ true → IsAddress row.address → IsEntry (entry_of row) → IsRow row
legal_row row held address is = record {
  kind = is.kind;
  kind_bits = kind_below row.kind is.kind;
  address = address.1;
  spd = is.spd;
  dirf = omega (arith, is.dirf);
  snd = omega (arith, is.snd);
  more = omega (arith, is.more);
  ss2 = is.ss2;
  id1 = is.id1;
  id2 = is.id2;
  held = λ h. address;
  free = λ h. cc;
}

pub free_row-IsRow : IsRow free_row
free_row-IsRow = record {
  kind = refl;
  kind_bits = omega arith;
  address = omega arith;
  spd = omega arith;
  dirf = omega arith;
  snd = omega arith;
  more = omega arith;
  ss2 = omega arith;
  id1 = omega arith;
  id2 = omega arith;
  held = λ h. cc;
  free = λ h. refl;
}

-- what a legal row that is not free holds
pub legal_entry : (row : Row) → IsRow row → is_held row.state ≡ true → IsEntry (entry_of row)
legal_entry row is held = record { held = held; kind = is.kind; spd = is.spd; dirf = is.dirf; snd = is.snd; more = is.more; ss2 = is.ss2; id1 = is.id1; id2 = is.id2 }
