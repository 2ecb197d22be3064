-- What a call makes of the mark.
use Rattle.std.proofs.Common.{◌≡◌, ◌≢◌, ℕ, ◌==◌, ◌&&◌, not, Bool, true, false, if◌then◌else◌, Option, Some, None, is_ok, refl, ap, ◌∙◌, eqb-true, eq-eqb}
use Rattle.std.proofs.lemmas.Bool.{and_parts, cond_both}
use Rattle.std.specs.FinMap.{FinMap, get, insert}
use Rattle.std.specs.Ordering.{nat_cmp}
use Rattle.ln_ops.specs.Fields.{SlotBytes}
use Rattle.ln_ops.specs.Slot.{is_held, is_address, is_slot, state_of, address_of}
use Rattle.slot_table.specs.declared.field.Field.{Field}
use Rattle.slot_table.specs.Entry.{Entry}
use Rattle.slot_table.specs.Desk.{Desk}
use Rattle.slot_table.specs.Reading.{row_of, row_at, entry_at, slot_of, free_slot, is_placed}
use Rattle.slot_table.specs.Changes.{entered, changed, change_at, change_entry, cleared, unmarked}
use Rattle.slot_table.specs.Writes.{take_at, after_take, keeps_slot, with_field, can_field, after_field, write_answer, written_entry, after_write}
use Rattle.slot_table.specs.Moves.{dispatch_get_at, after_dispatch_get, may_move, can_shift, move_place, moved_mark, after_shift}
use Rattle.slot_table.specs.Laws.{LosesMark, MarkFollows}

-- what a change leaves alone: whatever does not look at what is asked
pub unasked : {X : Type 0} (part : Desk → X) (desk : Desk) (n : ℕ) (f : Entry → Entry) → ((asked : FinMap nat_cmp Entry) → part (record desk { asked = asked }) ≡ part desk) → part (changed desk n f) ≡ part desk
unasked part desk n f stays = by_place (get desk.place n)
  where
    by_entry : (a : ℕ) (o : Option Entry) → part (change_entry desk a f o) ≡ part desk
    by_entry a None = refl
    by_entry a (Some e) = stays (insert desk.asked a (f e))

    by_place : (o : Option ℕ) → part (change_at desk f o) ≡ part desk
    by_place None = refl
    by_place (Some a) = by_entry a (get desk.asked a)

pub mark-changed : (desk : Desk) (n : ℕ) (f : Entry → Entry) → (changed desk n f).mark ≡ desk.mark
mark-changed desk n f = unasked (λ d. d.mark) desk n f (λ asked. refl)

mark-take : (desk : Desk) (a : ℕ) → (after_take desk a).mark ≡ desk.mark
mark-take desk a = cond_both (is_address a) (take_at desk a (slot_of desk a) (free_slot desk)) desk (λ d. d.mark ≡ desk.mark) (λ legal. by_slots (slot_of desk a) (free_slot desk)) (λ not. refl)
  where
    by_slots : (found free : Option ℕ) → (take_at desk a found free).mark ≡ desk.mark
    by_slots (Some n) free = refl
    by_slots None None = refl
    by_slots None (Some n) = refl

-- a mark is this slot or another
other_mark : (k n : ℕ) → Some k ≢ Some n → (k == n) ≡ false
other_mark k n ne = by_test (k == n) refl
  where
    by_test : (b : Bool) → (k == n) ≡ b → b ≡ false
    by_test true e = absurd (ne (ap Some (eqb-true k n e)))
    by_test false e = refl

absent : (o : Option ℕ) (n : ℕ) → o ≡ Some n → unmarked o n ≡ None
absent None n h = cc
absent (Some k) n h = let same : k ≡ n = cc in rw (eq-eqb k n same) refl

stays : (o : Option ℕ) (n : ℕ) → o ≢ Some n → unmarked o n ≡ o
stays None n ne = refl
stays (Some k) n ne = rw (other_mark k n ne) refl

loses : (desk : Desk) (n : ℕ) → LosesMark desk (cleared desk n) n
loses desk n = (absent desk.mark n, stays desk.mark n)

carried : (o : Option ℕ) (src dest : ℕ) → o ≡ Some src → moved_mark o src dest ≡ Some dest
carried None src dest h = cc
carried (Some k) src dest h = let same : k ≡ src = cc in rw (eq-eqb k src same) refl

kept : (o : Option ℕ) (src dest : ℕ) → o ≢ Some src → moved_mark o src dest ≡ o
kept None src dest ne = refl
kept (Some k) src dest ne = rw (other_mark k src ne) refl

module _ (desk : Desk) where
  mark-field : (n : ℕ) (field : Field) → keeps_slot field ≡ true → (after_field desk n field).mark ≡ desk.mark
  mark-field n field keeps = rw keeps (cond_both (can_field desk n field) (changed desk n (with_field field)) desk (λ d. d.mark ≡ desk.mark) (λ can. mark-changed desk n (with_field field)) (λ not. refl))

  mark-field_free : (n : ℕ) (field : Field) → can_field desk n field ≡ true → keeps_slot field ≡ false → LosesMark desk (after_field desk n field) n
  mark-field_free n field can free = rw (can, free) (loses desk n)

  mark-write : (f : SlotBytes) → is_ok (write_answer desk f) ≡ true → LosesMark desk (after_write desk f) f.slot
  mark-write f ok = rw ok (by_state (is_held (state_of f.stat)))
    where
      by_state : (b : Bool) → LosesMark desk (let bare = cleared desk f.slot in if b then entered bare f.slot (address_of f) (written_entry desk f) else bare) f.slot
      by_state true = loses desk f.slot
      by_state false = loses desk f.slot

  mark-get : (after_dispatch_get desk).mark ≡ None
  mark-get = by_mark desk.mark refl
    where
      by_mark : (o : Option ℕ) → desk.mark ≡ o → (dispatch_get_at desk o).mark ≡ None
      by_mark None e = e
      by_mark (Some n) e = refl

  -- a slot that may be moved has an address, and the move makes this of the mark
  mark-shift : (src dest : ℕ) → can_shift desk src dest ≡ true → (after_shift desk src dest).mark ≡ moved_mark desk.mark src dest
  mark-shift src dest can = rw can (by_place (get desk.place src) (and_parts (may_move (row_of desk src).state) (is_slot dest) (and_parts (may_move (row_of desk src).state && is_slot dest) (not (is_placed desk dest)) can).0).0)
    where
      by_place : (o : Option ℕ) → may_move (row_at o (entry_at o desk.asked)).state ≡ true → (move_place desk src dest o).mark ≡ moved_mark desk.mark src dest
      by_place None may = cc
      by_place (Some a) may = refl

  pub mark_follows : MarkFollows desk
  mark_follows = record {
    take = mark-take desk;
    field = mark-field;
    field_free = mark-field_free;
    write = mark-write;
    null_move = λ n. mark-changed desk n _;
    dispatch_put = λ n placed. rw placed refl;
    dispatch_get = mark-get;
    shift = λ src dest can marked. mark-shift src dest can ∙ carried desk.mark src dest marked;
    shift_other = λ src dest can off. mark-shift src dest can ∙ kept desk.mark src dest off;
  }
