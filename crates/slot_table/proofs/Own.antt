-- What a call makes of the rows of the slots that it concerns.
use Rattle.std.proofs.Common.{◌≡◌, ◌≢◌, ℕ, ◌&&◌, not, Bool, true, false, Option, Some, None, is_ok, is_some, refl, ap, sym, subst, ◌∙◌}
use Rattle.std.proofs.lemmas.Bool.{and_parts, both_ways}
use Rattle.std.specs.Ordering.{nat_cmp}
use Rattle.std.specs.FinMap.{FinMap, get, insert, remove}
use Rattle.ln_ops.specs.declared.row.Row.{Row}
use Rattle.ln_ops.specs.declared.row.State.TheVariants.{Common, InUse}
use Rattle.ln_ops.specs.Fields.{SlotBytes}
use Rattle.ln_ops.specs.Slot.{is_held, is_slot, is_address, state_of, address_of, free_row}
use Rattle.slot_table.specs.declared.field.Field.{Field}
use Rattle.slot_table.specs.declared.field.Field.TheVariants.{Speed, Dirf, Snd, More, Stat}
use Rattle.slot_table.specs.Entry.{Entry, entry_of, row_with}
use Rattle.slot_table.specs.Desk.{Desk, IsDesk}
use Rattle.slot_table.specs.Reading.{row_of, row_at, entry_at, slot_of, free_slot, is_placed}
use Rattle.slot_table.specs.Changes.{entered, cleared, changed}
use Rattle.slot_table.specs.Writes.{after_take, new_entry, is_legal_field, keeps_slot, with_field, can_field, after_field, write_answer, written_entry, after_write}
use Rattle.slot_table.specs.Moves.{after_null_move, after_dispatch_put, dispatch_get_at, after_dispatch_get, may_move, can_shift, after_shift}
use Rattle.slot_table.specs.Laws.{Becomes, Holds, OwnSlots}
use Rattle.slot_table.proofs.Maps.{insert_at, insert_off, remove_at}
use Rattle.slot_table.proofs.Desks.{taken, changed-at, cleared-none}
use Rattle.slot_table.proofs.Removing.{the_entry}
use Rattle.slot_table.proofs.Shown.{rows_are_legal}

-- the row of a slot, by its place and the entry there
pub row_is : (desk : Desk) (n a : ℕ) (e : Entry) → get desk.place n ≡ Some a → get desk.asked a ≡ Some e → row_of desk n ≡ row_with a e
row_is desk n a e place asked = rw (place, asked) refl

row_free : (desk : Desk) (n : ℕ) → get desk.place n ≡ None → row_of desk n ≡ free_row
row_free desk n place = rw place refl

row-entered : (desk : Desk) (n a : ℕ) (e : Entry) → row_of (entered desk n a e) n ≡ row_with a e
row-entered desk n a e = row_is (entered desk n a e) n a e (insert_at desk.place n n a refl) (insert_at desk.asked a a e refl)

-- the address and the entry of a slot that is not free
pub record IsRowOf (desk : Desk) (n a : ℕ) (e : Entry) : Type 0 where
  pub place : get desk.place n ≡ Some a
  pub asked : get desk.asked a ≡ Some e

there : (desk : Desk) (n : ℕ) → IsDesk desk → (o : Option ℕ) → get desk.place n ≡ o → is_some o ≡ true → (a : ℕ) × ((e : Entry) × IsRowOf desk n a e)
there desk n is None at some = cc
there desk n is (Some a) at some = let found = the_entry (get desk.asked a) (is.has_entry n a at) in (a, (found.0, record { place = at; asked = found.1.0 }))

module _ (desk : Desk) (is : IsDesk desk) where
  -- the row of a changed entry
  row-changed : (n : ℕ) (f : Entry → Entry) → is_placed desk n ≡ true → (a : ℕ) × ((e : Entry) × ((row_of desk n ≡ row_with a e) × (row_of (changed desk n f) n ≡ row_with a (f e))))
  row-changed n f some =
      let at = there desk n is (get desk.place n) refl some in
      let a = at.0 in
      let e = at.1.0 in
      let known = at.1.1 in (
        a,
        (
          e,
          (
            row_is desk n a e known.place known.asked,
            ap (λ (d : Desk). row_of d n) (changed-at desk n a e f known.place known.asked)
                ∙ row_is (record desk { asked = insert desk.asked a (f e) }) n a (f e) known.place (insert_at desk.asked a a (f e) refl),
          ),
        ),
      )

  own-field : (n : ℕ) (field : Field) → can_field desk n field ≡ true → keeps_slot field ≡ true → Becomes desk (after_field desk n field) n (λ row. row_with row.address (with_field field (entry_of row)))
  own-field n field can keeps =
      let k = row-changed n (with_field field) (and_parts (is_legal_field field) (is_placed desk n) can).1 in
      rw (can, keeps) (k.1.1.1 ∙ ap (λ (row : Row). row_with row.address (with_field field (entry_of row))) (sym k.1.1.0))

  own-null_move : (n : ℕ) → is_placed desk n ≡ true → Becomes desk (after_null_move desk n) n (λ row. record row { state = InUse })
  own-null_move n some = let k = row-changed n (λ e. record e { state = InUse }) some in k.1.1.1 ∙ ap (λ (row : Row). record row { state = InUse }) (sym k.1.1.0)

  own-stat_free : (n stat : ℕ) → can_field desk n (Stat stat) ≡ true → is_held (state_of stat) ≡ false → row_of (after_field desk n (Stat stat)) n ≡ free_row
  own-stat_free n stat can free = rw (can, free) (row_free (cleared desk n) n (cleared-none desk n))

  own-dispatch_put : (n : ℕ) → is_placed desk n ≡ true → Becomes desk (after_dispatch_put desk n) n (λ row. record row { state = Common })
  own-dispatch_put n some =
      let k = row-changed n (λ e. record e { state = Common }) some in
      rw some (k.1.1.1 ∙ ap (λ (row : Row). record row { state = Common }) (sym k.1.1.0))

  own-dispatch_get : (n : ℕ) → desk.mark ≡ Some n → Becomes desk (after_dispatch_get desk) n (λ row. record row { state = InUse })
  own-dispatch_get n mark = by_mark desk.mark mark
    where
      by_mark : (o : Option ℕ) → o ≡ Some n → Becomes desk (dispatch_get_at desk o) n (λ row. record row { state = InUse })
      by_mark None e = cc
      by_mark (Some m) e =
          let same : m ≡ n = cc in
          subst (λ (k : ℕ). Becomes desk (dispatch_get_at desk (Some k)) n (λ row. record row { state = InUse })) (sym same) (own-null_move n (is.marked n mark))

  own-take_unknown : (a n : ℕ) → is_address a ≡ true → slot_of desk a ≡ None → free_slot desk ≡ Some n → row_of (after_take desk a) n ≡ row_with a new_entry
  own-take_unknown a n legal none free = ap (λ (d : Desk). row_of d n) (taken desk a n none free legal) ∙ row-entered desk n a new_entry

  own-take_held : (a n : ℕ) → is_address a ≡ true → Holds desk n a → after_take desk a ≡ desk
  own-take_held a n legal holds = let found : slot_of desk a ≡ Some n = ((rows_are_legal desk is).found n a).1 holds in rw (legal, found) refl

  own-write : (f : SlotBytes) → is_ok (write_answer desk f) ≡ true → is_held (state_of f.stat) ≡ true → row_of (after_write desk f) f.slot ≡ row_with (address_of f) (written_entry desk f)
  own-write f ok held = rw (ok, held) (row-entered (cleared desk f.slot) f.slot (address_of f) (written_entry desk f))

  own-write_free : (f : SlotBytes) → is_ok (write_answer desk f) ≡ true → is_held (state_of f.stat) ≡ false → row_of (after_write desk f) f.slot ≡ free_row
  own-write_free f ok free = rw (ok, free) (row_free (cleared desk f.slot) f.slot (cleared-none desk f.slot))

  -- a slot that may move has a place, and goes to one that has none
  movable : (src dest : ℕ) → can_shift desk src dest ≡ true → (is_placed desk src ≡ true) × (is_placed desk dest ≡ false)
  movable src dest can =
      let first = and_parts (may_move (row_of desk src).state && is_slot dest) (not (is_placed desk dest)) can in
      let second = and_parts (may_move (row_of desk src).state) (is_slot dest) first.0 in
      (moves (get desk.place src) (entry_at (get desk.place src) desk.asked) second.0, off (is_placed desk dest) first.1)
    where
      moves : (o : Option ℕ) (e : Option Entry) → may_move (row_at o e).state ≡ true → is_some o ≡ true
      moves None e h = cc
      moves (Some a) e h = refl

      off : (b : Bool) → not b ≡ true → b ≡ false
      off true h = cc
      off false h = refl

  shifted : (src dest a : ℕ) → can_shift desk src dest ≡ true → get desk.place src ≡ Some a → (after_shift desk src dest).place ≡ insert (remove desk.place src) dest a
  shifted src dest a can at = rw (can, at) refl

  shifted-asked : (src dest a : ℕ) → can_shift desk src dest ≡ true → get desk.place src ≡ Some a → (after_shift desk src dest).asked ≡ desk.asked
  shifted-asked src dest a can at = rw (can, at) refl

  own-shift_dest : (src dest : ℕ) → can_shift desk src dest ≡ true → row_of (after_shift desk src dest) dest ≡ row_of desk src
  own-shift_dest src dest can =
      let at = there desk src is (get desk.place src) refl (movable src dest can).0 in
      let a = at.0 in
      let e = at.1.0 in
      let known = at.1.1 in
      row_is (after_shift desk src dest) dest a e
      (ap (λ (m : FinMap nat_cmp ℕ). get m dest) (shifted src dest a can known.place) ∙ insert_at (remove desk.place src) dest dest a refl)
      (ap (λ (m : FinMap nat_cmp Entry). get m a) (shifted-asked src dest a can known.place) ∙ known.asked)
      ∙ sym (row_is desk src a e known.place known.asked)

  own-shift_src : (src dest : ℕ) → can_shift desk src dest ≡ true → row_of (after_shift desk src dest) src ≡ free_row
  own-shift_src src dest can =
      let both = movable src dest can in
      let at = there desk src is (get desk.place src) refl both.0 in
      let apart : src ≢ dest = λ same. both_ways (is_placed desk dest) both.1 (ap (is_placed desk) (sym same) ∙ both.0) in
      row_free (after_shift desk src dest) src
      (ap (λ (m : FinMap nat_cmp ℕ). get m src) (shifted src dest at.0 can at.1.1.place)
      ∙ insert_off (remove desk.place src) dest src at.0 apart
      ∙ remove_at desk.place src src refl)

  pub own_slots : OwnSlots desk
  own_slots = record {
    take_held = own-take_held;
    take_unknown = own-take_unknown;
    speed = λ n spd placed. own-field n (Speed spd) placed refl;
    dirf = λ n dirf placed. own-field n (Dirf dirf) placed refl;
    snd = λ n snd placed. own-field n (Snd snd) placed refl;
    more = λ n more placed. own-field n (More more) placed refl;
    stat = λ n stat. own-field n (Stat stat);
    stat_free = own-stat_free;
    write = own-write;
    write_free = own-write_free;
    null_move = own-null_move;
    dispatch_put = own-dispatch_put;
    dispatch_get = own-dispatch_get;
    shift_dest = own-shift_dest;
    shift_src = own-shift_src;
  }
