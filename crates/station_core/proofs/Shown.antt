-- What OPC_RQ_SL_DATA is answered for a slot, by the row of the slot.
use Rattle.std.proofs.Common.{◌≡◌, ◌≢◌, ℕ, zero, suc, ◌<◌, ◌≤◌, ◌+◌, ◌*◌, ◌/◌, ◌%◌, ◌==◌, ◌&&◌, ◌||◌, nat_lt, nat_le, Bool, true, false, not, if◌then◌else◌, List, [], ◌∷◌, Option, Some, None, Result, Ok, Err, is_some, is_none, is_ok, IsSomeAnd, refl, ap, sym, subst, ◌∙◌, arith, eqb-true, eq-eqb, ne_eqb, le-leb}
use Rattle.std.proofs.lemmas.Bool.{and_parts, and_from, both_ways, leb-true, eqb-false}
use Rattle.std.proofs.lemmas.Bool.Decides.{nat_tests}
use Rattle.std.specs.Prelude.{slice_index, slice_set, find}
use Rattle.std.specs.FinMap.{get}
use Rattle.ln_ops.specs.Fields.{SlotBytes, AreData}
use Rattle.ln_ops.specs.Reply.{body_of}
use Rattle.ln_ops.specs.Slot.{address_of, address_with, free_row, is_address, is_held, is_kind, is_slot, is_stat, kind_of, stat_with, state_number, state_of}
use Rattle.ln_ops.specs.declared.op.Op.{Op}
use Rattle.ln_ops.specs.declared.op.Op.TheVariants.{PowerOff, PowerOn, ForceIdle, Speed, Dirf, Snd, SwReq, SwAck, SlotStat, Move, SlotRead, LocoAddr, SlotWrite, Imm}
use Rattle.ln_ops.specs.declared.reply.Reply.TheVariants as reply
use Rattle.ln_ops.specs.declared.row.Row.{Row}
use Rattle.ln_ops.specs.declared.row.State.{State}
use Rattle.ln_ops.specs.declared.row.State.TheVariants.{Free, Common, Idle, InUse}
use Rattle.slot_table.specs.Changes.{changed, cleared, slot_if}
use Rattle.slot_table.specs.Desk.{Desk, IsDesk}
use Rattle.slot_table.specs.Entry.{Entry, IsEntry, IsSlot, row_with}
use Rattle.slot_table.specs.Laws.{OthersStay, OwnSlots, RowsAreLegal, ReadsAs}
use Rattle.slot_table.specs.Moves.{after_null_move, after_dispatch_put, after_dispatch_get, after_shift, can_shift, dispatch_get_at, dispatch_get_answer, may_move}
use Rattle.slot_table.specs.Reading.{all_slots, entry_at, free_slot, is_placed, row_at, row_of, slot_of}
use Rattle.slot_table.specs.Writes.{after_take, after_field, after_write, can_field, new_entry, with_field, take_answer, take_answer_at, take_at, write_answer, written_entry}
use Rattle.slot_table.specs.declared.field.Field.{Field}
use Rattle.slot_table.specs.declared.field.Field.TheVariants as field
use Rattle.slot_table.specs.declared.fault.SlotFault.{SlotFault}
use Rattle.slot_table.specs.declared.fault.SlotFault.TheVariants.{Illegal}
use Rattle.refresh_ring.specs.declared.pick.Power.{Power}
use Rattle.refresh_ring.specs.declared.pick.Power.TheVariants.{Off, Running, Paused}
use Rattle.station_core.specs.After.{after, after_move, paused}
use Rattle.station_core.specs.Answer.{answer, move_answer, more_reply, slot_bytes, slot_or_refusal, track_status, write_reply}
use Rattle.station_core.specs.Immediate.{more_of, with_more}
use Rattle.station_core.specs.declared.immediate.More.{More}
use Rattle.station_core.specs.Powered.{PoweredDesk}
use Rattle.station_core.proofs.Anew.{unplaced}
use Rattle.station_core.specs.Reads.{byte_read, gives, is_data_of, is_field, is_used, names, read_of, stat_at, stat_in_state, trk_at, Frees, PreservesRead, Writes, WritesItsBytes}

-- the bytes of a slot's data, by the row
abbrev shown : Power → ℕ → Row → List ℕ
shown power slot row = body_of (reply.SlotData (slot_bytes power slot row))

-- STAT1 and its parts
kind_below : (kind : ℕ) → is_kind kind ≡ true → kind < 8
kind_below kind h = grind (arith, nat_tests)

state_back : (s : State) (k : ℕ) → k < 8 → state_of (stat_with s k) ≡ s
state_back Free k h = let e : (16 * 0 + k) / 16 % 4 ≡ 0 = omega (arith, h) in rw e refl
state_back Common k h = let e : (16 * 1 + k) / 16 % 4 ≡ 1 = omega (arith, h) in rw e refl
state_back Idle k h = let e : (16 * 2 + k) / 16 % 4 ≡ 2 = omega (arith, h) in rw e refl
state_back InUse k h = let e : (16 * 3 + k) / 16 % 4 ≡ 3 = omega (arith, h) in rw e refl

number_of : (n : ℕ) → n < 4 → state_number (if n == 0 then Free else (if n == 1 then Common else (if n == 2 then Idle else InUse))) ≡ n
number_of zero h = refl
number_of (suc zero) h = refl
number_of (suc (suc zero)) h = refl
number_of (suc (suc (suc zero))) h = refl
number_of (suc (suc (suc (suc n)))) h = absurd (omega (arith, h))

pub stat_back : (stat : ℕ) → is_stat stat ≡ true → stat_with (state_of stat) (kind_of stat) ≡ stat
stat_back stat h =
    let number : state_number (state_of stat) ≡ stat / 16 % 4 = number_of (stat / 16 % 4) (omega arith) in
    let parts = and_parts (nat_lt stat 64) (stat / 8 % 2 == 0) (and_parts (nat_lt stat 64 && (stat / 8 % 2 == 0)) (is_kind (kind_of stat)) h).0 in
    let below : stat < 64 = grind (arith, nat_tests) in
    let clear : stat / 8 % 2 ≡ 0 = eqb-true (stat / 8 % 2) 0 parts.1 in
    omega (arith, number, below, clear)

-- what is found passes the test
find_at : (p : ℕ → Bool) (x n : ℕ) (rest : Option ℕ) (b : Bool) → p x ≡ b → (rest ≡ Some n → p n ≡ true) → (if b then Some x else rest) ≡ Some n → p n ≡ true
find_at p x n rest true e later h = let same : x ≡ n = cc in ap p (sym same) ∙ e
find_at p x n rest false e later h = later h

find_passes : (p : ℕ → Bool) (xs : List ℕ) (n : ℕ) → find p xs ≡ Some n → p n ≡ true
find_passes p [] n h = cc
find_passes p (x ∷ xs) n h = find_at p x n (find p xs) (p x) refl (find_passes p xs n) h

-- what follows for an operation from an answer that is slot data, and from one that is not
given : (slot opc : ℕ) (new : PoweredDesk) (r : Result ℕ SlotFault) → is_data_of (Some (slot_or_refusal opc new r)) slot ≡ true → r ≡ Ok slot
given slot opc new (Ok n) h = ap Ok (eqb-true n slot h)
given slot opc new (Err fault) h = absurd cc

not_given : (slot opc : ℕ) (new : PoweredDesk) (r : Result ℕ SlotFault) → is_data_of (Some (slot_or_refusal opc new r)) slot ≡ false → r ≢ Ok slot
not_given slot opc new (Ok n) h e = let same : n ≡ slot = cc in both_ways (n == slot) h (eq-eqb n slot same)
not_given slot opc new (Err fault) h e = cc

failed : (opc ack : ℕ) (new : PoweredDesk) (r : Result ℕ SlotFault) → Some (slot_or_refusal opc new r) ≡ Some (reply.LongAck ack 0) → is_ok r ≡ false
failed opc ack new (Ok n) h = absurd cc
failed opc ack new (Err fault) h = refl

written : (r : Result (Unit {0}) SlotFault) → Some (write_reply r) ≡ Some (reply.LongAck 0x6F 0x7F) → is_ok r ≡ true
written (Ok done) h = refl
written (Err fault) h = absurd cc

unwritten : (ack : ℕ) (r : Result (Unit {0}) SlotFault) → Some (write_reply r) ≡ Some (reply.LongAck ack 0) → is_ok r ≡ false
unwritten ack (Ok done) h = absurd cc
unwritten ack (Err fault) h = refl

slot_is : (b : Bool) (n m : ℕ) → slot_if b n ≡ Ok m → b ≡ true
slot_is true n m h = refl
slot_is false n m h = absurd cc

no_slot : (b : Bool) (n : ℕ) → is_ok (slot_if b n) ≡ false → b ≡ false
no_slot true n h = absurd cc
no_slot false n h = refl

test_true : (b : Bool) (x : Result (Unit {0}) SlotFault) → is_ok (if b then x else Err Illegal) ≡ true → b ≡ true
test_true true x h = refl
test_true false x h = absurd cc

marked : (o : Option ℕ) (n : ℕ) → dispatch_get_answer o ≡ Ok n → o ≡ Some n
marked None n h = absurd cc
marked (Some m) n h = let same : m ≡ n = cc in ap Some same

inside_of : (n : ℕ) → IsSlot n → is_slot n ≡ true
inside_of n h = and_from (nat_le 1 n) (nat_le n 119) (le-leb 1 n h.0) (le-leb n 119 h.1)

-- what is refused leaves the desk
move_refused : (desk : Desk) (src dest : ℕ) → is_ok (move_answer desk src dest) ≡ false → after_move desk src dest ≡ desk
move_refused desk src dest = by_tests (src == 0) (src == dest) (dest == 0)
  where
    by_mark : (mark : Option ℕ) → is_ok (dispatch_get_answer mark) ≡ false → dispatch_get_at desk mark ≡ desk
    by_mark None h = refl
    by_mark (Some n) h = absurd cc

    by_tests : (a b c : Bool) → is_ok (if a then dispatch_get_answer desk.mark else (if b then slot_if (is_placed desk src) src else (if c then slot_if (is_placed desk src) src else slot_if (can_shift desk src dest) dest))) ≡ false
        → (if a then after_dispatch_get desk else (if b then after_null_move desk src else (if c then after_dispatch_put desk src else after_shift desk src dest))) ≡ desk
    by_tests true b c h = by_mark desk.mark h
    by_tests false true c h = unplaced desk src _ (no_slot (is_placed desk src) src h)
    by_tests false false true h = rw (no_slot (is_placed desk src) src h) refl
    by_tests false false false h = rw (no_slot (can_shift desk src dest) dest h) refl

take_refused : (desk : Desk) (a : ℕ) → is_ok (take_answer desk a) ≡ false → after_take desk a ≡ desk
take_refused desk a = by_tests (is_address a) (slot_of desk a) (free_slot desk)
  where
    by_tests : (legal : Bool) (held free : Option ℕ) → is_ok (if legal then take_answer_at held free else Err Illegal) ≡ false → (if legal then take_at desk a held free else desk) ≡ desk
    by_tests false held free h = refl
    by_tests true (Some n) free h = refl
    by_tests true None None h = refl
    by_tests true None (Some n) h = absurd cc

write_refused : (desk : Desk) (f : SlotBytes) → is_ok (write_answer desk f) ≡ false → after_write desk f ≡ desk
write_refused desk f h = rw h refl

more_refused : (desk : Desk) (ack : ℕ) (more : Option More) → Some (more_reply more) ≡ Some (reply.LongAck ack 0) → with_more desk more ≡ desk
more_refused desk ack None h = refl
more_refused desk ack (Some more) h = absurd cc

module _ (slot : ℕ) (inside : is_slot slot ≡ true) where
  read_is : (powered : PoweredDesk) → read_of powered slot ≡ shown powered.power slot (row_of powered.desk slot)
  read_is powered = rw inside refl

  byte_is : (powered : PoweredDesk) (at : ℕ) → byte_read powered slot at ≡ slice_index (shown powered.power slot (row_of powered.desk slot)) at
  byte_is powered at = ap (λ (xs : List ℕ). slice_index xs at) (read_is powered)

  -- STAT1 shows whether a slot has a place
  used_is : (powered : PoweredDesk) → IsDesk powered.desk → is_used powered slot ≡ is_placed powered.desk slot
  used_is powered desk = ap (λ (byte : ℕ). is_held (state_of byte)) (byte_is powered stat_at) ∙ by_place (get powered.desk.place slot) refl
    where
      by_entry : (a : ℕ) (o : Option Entry) → IsSomeAnd o IsEntry → is_held (state_of (stat_with (row_at (Some a) o).state (row_at (Some a) o).kind)) ≡ true
      by_entry a None is = absurd is
      by_entry a (Some e) is = ap is_held (state_back e.state e.kind (kind_below e.kind is.kind)) ∙ is.held

      by_place : (o : Option ℕ) → get powered.desk.place slot ≡ o → is_held (state_of (stat_with (row_at o (entry_at o powered.desk.asked)).state (row_at o (entry_at o powered.desk.asked)).kind)) ≡ is_some o
      by_place None e = refl
      by_place (Some a) e = by_entry a (get powered.desk.asked a) (desk.has_entry slot a e)

  keeps : (old : PoweredDesk) (desk : Desk) → ReadsAs old.desk desk slot → read_of (record { power = old.power; desk = desk }) slot ≡ read_of old slot
  keeps old desk e = read_is (record { power = old.power; desk = desk }) ∙ ap (shown old.power slot) e ∙ sym (read_is old)

  writes : (old new : PoweredDesk) (at byte : ℕ) (row : Row) → row_of new.desk slot ≡ row → shown new.power slot row ≡ slice_set (shown old.power slot (row_of old.desk slot)) at byte → read_of new slot ≡ slice_set (read_of old slot) at byte
  writes old new at byte row e same = read_is new ∙ ap (shown new.power slot) e ∙ same ∙ ap (λ (xs : List ℕ). slice_set xs at byte) (sym (read_is old))

  frees : (old : PoweredDesk) (desk : Desk) → row_of desk slot ≡ free_row → read_of (record { power = old.power; desk = desk }) slot ≡ 0xE7 ∷ 0x0E ∷ slot ∷ 0 ∷ 0 ∷ 0 ∷ 0 ∷ byte_read old slot trk_at ∷ 0 ∷ 0 ∷ 0 ∷ 0 ∷ 0 ∷ []
  frees old desk e = read_is (record { power = old.power; desk = desk }) ∙ ap (shown old.power slot) e ∙ ap (λ (trk : ℕ). 0xE7 ∷ 0x0E ∷ slot ∷ 0 ∷ 0 ∷ 0 ∷ 0 ∷ trk ∷ 0 ∷ 0 ∷ 0 ∷ 0 ∷ 0 ∷ []) (sym (byte_is old trk_at))

module _ (slot : ℕ) (inside : is_slot slot ≡ true) (powered : PoweredDesk) (is : IsDesk powered.desk) (rows : RowsAreLegal powered.desk) (stay : OthersStay powered.desk slot) (own : OwnSlots powered.desk) where
  abbrev row : Row
  row = row_of powered.desk slot

  has_place : is_used powered slot ≡ true → is_placed powered.desk slot ≡ true
  has_place h = sym (used_is slot inside powered is) ∙ h

  no_place : is_used powered slot ≡ false → is_placed powered.desk slot ≡ false
  no_place h = sym (used_is slot inside powered is) ∙ h

  -- one field of the slot
  own-speed : (spd : ℕ) → is_used powered slot ≡ true → Writes powered (Speed slot spd) slot 5 spd
  own-speed spd used = writes slot inside powered (after powered (Speed slot spd)) 5 spd _ (own.speed slot spd (has_place used)) refl

  own-dirf : (dirf : ℕ) → is_used powered slot ≡ true → Writes powered (Dirf slot dirf) slot 6 (dirf % 64)
  own-dirf dirf used = writes slot inside powered (after powered (Dirf slot dirf)) 6 (dirf % 64) _ (own.dirf slot dirf (has_place used)) refl

  own-snd : (snd : ℕ) → is_used powered slot ≡ true → Writes powered (Snd slot snd) slot 10 (snd % 16)
  own-snd snd used = writes slot inside powered (after powered (Snd slot snd)) 10 (snd % 16) _ (own.snd slot snd (has_place used)) refl

  can_stat : (stat : ℕ) → is_used powered slot ≡ true → is_stat stat ≡ true → can_field powered.desk slot (field.Stat stat) ≡ true
  can_stat stat used legal = and_from (is_stat stat) (is_placed powered.desk slot) legal (has_place used)

  own-stat : (stat : ℕ) → is_used powered slot ≡ true → is_stat stat ≡ true → is_held (state_of stat) ≡ true → Writes powered (SlotStat slot stat) slot 3 stat
  own-stat stat used legal held =
      writes slot inside powered (after powered (SlotStat slot stat)) 3 stat _ (own.stat slot stat (can_stat stat used legal) held)
      (ap (λ (byte : ℕ). slice_set (shown powered.power slot (row_of powered.desk slot)) 3 byte) (stat_back stat legal))

  own-stat_free : (stat : ℕ) → is_used powered slot ≡ true → is_stat stat ≡ true → is_held (state_of stat) ≡ false → Frees powered (SlotStat slot stat) slot
  own-stat_free stat used legal free = frees slot inside powered (after_field powered.desk slot (field.Stat stat)) (own.stat_free slot stat (can_stat stat used legal) free)

  stat_illegal : (stat : ℕ) → is_stat stat ≡ false → PreservesRead powered (SlotStat slot stat) slot
  stat_illegal stat illegal = keeps slot inside powered (after_field powered.desk slot (field.Stat stat)) (rw illegal refl)

  -- a field of a slot that is free, and of another slot
  no_field : (written : Field) → is_placed powered.desk slot ≡ false → ReadsAs powered.desk (after_field powered.desk slot written) slot
  no_field (field.Speed spd) h = rw h refl
  no_field (field.Dirf dirf) h = rw h refl
  no_field (field.Snd snd) h = rw h refl
  no_field (field.More more) h = rw h refl
  no_field (field.Stat stat) h = by_legal (is_stat stat) (is_placed powered.desk slot) h where
    by_legal : (b placed : Bool) → placed ≡ false → ReadsAs powered.desk (if b && placed then (if is_held (state_of stat) then changed powered.desk slot (with_field (field.Stat stat)) else cleared powered.desk slot) else powered.desk) slot
    by_legal true true e = absurd cc
    by_legal true false e = refl
    by_legal false placed e = refl

  other_field : (n : ℕ) (written : Field) → (n == slot) ≡ false → ReadsAs powered.desk (after_field powered.desk n written) slot
  other_field n written ne = stay.field n written (λ same. both_ways (n == slot) ne (eq-eqb n slot (sym same)))

  one_field : (n : ℕ) (written : Field) → is_used powered slot ≡ false → read_of (record { power = powered.power; desk = after_field powered.desk n written }) slot ≡ read_of powered slot
  one_field n written free = keeps slot inside powered (after_field powered.desk n written) (by_slot (n == slot) refl)
    where
      by_slot : (b : Bool) → (n == slot) ≡ b → ReadsAs powered.desk (after_field powered.desk n written) slot
      by_slot true e = subst (λ (m : ℕ). ReadsAs powered.desk (after_field powered.desk m written) slot) (sym (eqb-true n slot e)) (no_field written (no_place free))
      by_slot false e = other_field n written e

  unused : (op : Op) → is_field op ≡ true → is_used powered slot ≡ false → PreservesRead powered op slot
  unused (Speed n spd) is_one free = one_field n (field.Speed spd) free
  unused (Dirf n dirf) is_one free = one_field n (field.Dirf dirf) free
  unused (Snd n snd) is_one free = one_field n (field.Snd snd) free
  unused (SlotStat n stat) is_one free = one_field n (field.Stat stat) free
  unused _ is_one free = absurd cc

  -- OPC_MOVE_SLOTS
  in_state : (state : ℕ) → 16 * state + row.kind ≡ stat_in_state powered slot state
  in_state state = let byte : byte_read powered slot 3 ≡ 16 * state_number row.state + row.kind = byte_is slot inside powered 3 in omega (arith, byte, (rows.legal slot).kind_bits)

  changes_state : (desk : Desk) (state : State) → row_of desk slot ≡ record row { state = state } → read_of (record { power = powered.power; desk = desk }) slot ≡ slice_set (read_of powered slot) 3 (stat_in_state powered slot (state_number state))
  changes_state desk state e =
      writes slot inside powered (record { power = powered.power; desk = desk }) 3 (stat_in_state powered slot (state_number state)) (record row { state = state }) e
      (ap (λ (byte : ℕ). slice_set (shown powered.power slot row) 3 byte) (in_state (state_number state)))

  not_zero : (slot == 0) ≡ false
  not_zero = ne_eqb slot 0 (λ e. let first : 1 ≤ slot = leb-true 1 slot (and_parts (nat_le 1 slot) (nat_le slot 119) inside).0 in omega (arith, first, e))

  own-get : (dest : ℕ) → gives powered (Move 0 dest) slot ≡ true → Writes powered (Move 0 dest) slot 3 (stat_in_state powered slot 3)
  own-get dest h = changes_state (after_dispatch_get powered.desk) InUse (own.dispatch_get slot (marked powered.desk.mark slot (given slot 0x3A (after powered (Move 0 dest)) (dispatch_get_answer powered.desk.mark) h)))

  own-null : gives powered (Move slot slot) slot ≡ true → Writes powered (Move slot slot) slot 3 (stat_in_state powered slot 3)
  own-null h =
      let after_is : after_move powered.desk slot slot ≡ after_null_move powered.desk slot = rw (not_zero, eq-eqb slot slot refl) refl in
      let answer_is : move_answer powered.desk slot slot ≡ slot_if (is_placed powered.desk slot) slot = rw (not_zero, eq-eqb slot slot refl) refl in
      let placed : is_placed powered.desk slot ≡ true = slot_is (is_placed powered.desk slot) slot slot (sym answer_is ∙ given slot 0x3A (after powered (Move slot slot)) (move_answer powered.desk slot slot) h) in
      changes_state (after_move powered.desk slot slot) InUse (ap (λ (d : Desk). row_of d slot) after_is ∙ own.null_move slot placed)

  own-put : gives powered (Move slot 0) slot ≡ true → Writes powered (Move slot 0) slot 3 (stat_in_state powered slot 1)
  own-put h =
      let after_is : after_move powered.desk slot 0 ≡ after_dispatch_put powered.desk slot = rw not_zero refl in
      let answer_is : move_answer powered.desk slot 0 ≡ slot_if (is_placed powered.desk slot) slot = rw not_zero refl in
      let placed : is_placed powered.desk slot ≡ true = slot_is (is_placed powered.desk slot) slot slot (sym answer_is ∙ given slot 0x3A (after powered (Move slot 0)) (move_answer powered.desk slot 0) h) in
      changes_state (after_move powered.desk slot 0) Common (ap (λ (d : Desk). row_of d slot) after_is ∙ own.dispatch_put slot placed)

  shift_is : (src dest : ℕ) → src ≢ 0 → src ≢ dest → dest ≢ 0 → after_move powered.desk src dest ≡ after_shift powered.desk src dest
  shift_is src dest a b c = rw (ne_eqb src 0 a, ne_eqb src dest b, ne_eqb dest 0 c) refl

  can_move : (src dest : ℕ) → src ≢ 0 → src ≢ dest → dest ≢ 0 → gives powered (Move src dest) dest ≡ true → can_shift powered.desk src dest ≡ true
  can_move src dest a b c h =
      let answer_is : move_answer powered.desk src dest ≡ slot_if (can_shift powered.desk src dest) dest = rw (ne_eqb src 0 a, ne_eqb src dest b, ne_eqb dest 0 c) refl in
      slot_is (can_shift powered.desk src dest) dest dest (sym answer_is ∙ given dest 0x3A (after powered (Move src dest)) (move_answer powered.desk src dest) h)

  inside_src : (src dest : ℕ) → can_shift powered.desk src dest ≡ true → is_slot src ≡ true
  inside_src src dest can =
      let may = (and_parts (may_move (row_of powered.desk src).state) (is_slot dest) (and_parts (may_move (row_of powered.desk src).state && is_slot dest) (not (is_placed powered.desk dest)) can).0).0 in
      by_place (get powered.desk.place src) refl may
    where
      by_place : (o : Option ℕ) → get powered.desk.place src ≡ o → may_move (row_at o (entry_at o powered.desk.asked)).state ≡ true → is_slot src ≡ true
      by_place None e h = absurd cc
      by_place (Some a) e h = inside_of src (is.slots src a e).0

  own-move_to : (src : ℕ) → src ≢ 0 → src ≢ slot → gives powered (Move src slot) slot ≡ true → read_of (after powered (Move src slot)) slot ≡ slice_set (read_of powered src) 2 slot
  own-move_to src a b h =
      let c : slot ≢ 0 = eqb-false slot 0 not_zero in
      let can = can_move src slot a b c h in
      let row_is : row_of (after_move powered.desk src slot) slot ≡ row_of powered.desk src = ap (λ (d : Desk). row_of d slot) (shift_is src slot a b c) ∙ own.shift_dest src slot can in
      read_is slot inside (after powered (Move src slot)) ∙ ap (shown powered.power slot) row_is ∙ ap (λ (xs : List ℕ). slice_set xs 2 slot) (sym (read_is src (inside_src src slot can) powered))

  own-move_from : (dest : ℕ) → dest ≢ 0 → slot ≢ dest → gives powered (Move slot dest) dest ≡ true → Frees powered (Move slot dest) slot
  own-move_from dest c b h =
      let a : slot ≢ 0 = eqb-false slot 0 not_zero in
      frees slot inside powered (after_move powered.desk slot dest) (ap (λ (d : Desk). row_of d slot) (shift_is slot dest a b c) ∙ own.shift_src slot dest (can_move slot dest a b c h))

  -- OPC_LOCO_ADR
  held_place : is_held row.state ≡ true → is_placed powered.desk slot ≡ true
  held_place = by_place (get powered.desk.place slot) (entry_at (get powered.desk.place slot) powered.desk.asked)
    where
      by_place : (o : Option ℕ) (e : Option Entry) → is_held (row_at o e).state ≡ true → is_some o ≡ true
      by_place None e h = absurd cc
      by_place (Some a) e h = refl

  taken : (high low : ℕ) → gives powered (LocoAddr high low) slot ≡ true → take_answer powered.desk (address_with high low) ≡ Ok slot
  taken high low = given slot 0x3F (after powered (LocoAddr high low)) (take_answer powered.desk (address_with high low))

  loads : (a : ℕ) → take_answer powered.desk a ≡ Ok slot → is_placed powered.desk slot ≡ false → row_of (after_take powered.desk a) slot ≡ row_with a new_entry
  loads a took free = by_tests (is_address a) (slot_of powered.desk a) (free_slot powered.desk) refl refl refl took
    where
      by_tests : (legal : Bool) (held first : Option ℕ) → is_address a ≡ legal → slot_of powered.desk a ≡ held → free_slot powered.desk ≡ first → (if legal then take_answer_at held first else Err Illegal) ≡ Ok slot → row_of (after_take powered.desk a) slot ≡ row_with a new_entry
      by_tests false held first l e f h = absurd cc
      by_tests true (Some n) first l e f h = let same : n ≡ slot = cc in absurd (both_ways (is_placed powered.desk slot) free (held_place ((rows.found slot a).0 (e ∙ ap Some same)).0))
      by_tests true None None l e f h = absurd cc
      by_tests true None (Some n) l e f h = let same : n ≡ slot = cc in own.take_unknown a slot l e (f ∙ ap Some same)

  finds : (a : ℕ) → take_answer powered.desk a ≡ Ok slot → is_placed powered.desk slot ≡ true → after_take powered.desk a ≡ powered.desk
  finds a took placed = by_tests (is_address a) (slot_of powered.desk a) (free_slot powered.desk) refl took
    where
      off : is_none (get powered.desk.place slot) ≡ true → is_some (get powered.desk.place slot) ≡ true → ⊥
      off = by_place (get powered.desk.place slot)
        where
          by_place : (o : Option ℕ) → is_none o ≡ true → is_some o ≡ true → ⊥
          by_place None h k = cc
          by_place (Some n) h k = cc

      by_tests : (legal : Bool) (held first : Option ℕ) → free_slot powered.desk ≡ first → (if legal then take_answer_at held first else Err Illegal) ≡ Ok slot → (if legal then take_at powered.desk a held first else powered.desk) ≡ powered.desk
      by_tests false held first f h = absurd cc
      by_tests true (Some n) first f h = refl
      by_tests true None None f h = absurd cc
      by_tests true None (Some n) f h = let same : n ≡ slot = cc in absurd (off (find_passes (λ m. is_none (get powered.desk.place m)) all_slots slot (f ∙ ap Some same)) placed)

  own-load : (high low : ℕ) → low < 128 → gives powered (LocoAddr high low) slot ≡ true → is_used powered slot ≡ false
      → read_of (after powered (LocoAddr high low)) slot ≡ 0xE7 ∷ 0x0E ∷ slot ∷ 0x23 ∷ low ∷ 0 ∷ 0 ∷ byte_read powered slot 7 ∷ 0 ∷ high ∷ 0 ∷ 0 ∷ 0 ∷ []
  own-load high low below h free =
      let first : (high * 128 + low) % 128 ≡ low = omega (arith, below) in
      let second : (high * 128 + low) / 128 ≡ high = omega (arith, below) in
      read_is slot inside (after powered (LocoAddr high low)) ∙ ap (shown powered.power slot) (loads (address_with high low) (taken high low h) (no_place free))
      ∙ ap (λ (n : ℕ). 0xE7 ∷ 0x0E ∷ slot ∷ 0x23 ∷ n ∷ 0 ∷ 0 ∷ track_status powered.power ∷ 0 ∷ (high * 128 + low) / 128 ∷ 0 ∷ 0 ∷ 0 ∷ []) first
      ∙ ap (λ (n : ℕ). 0xE7 ∷ 0x0E ∷ slot ∷ 0x23 ∷ low ∷ 0 ∷ 0 ∷ track_status powered.power ∷ 0 ∷ n ∷ 0 ∷ 0 ∷ 0 ∷ []) second
      ∙ ap (λ (n : ℕ). 0xE7 ∷ 0x0E ∷ slot ∷ 0x23 ∷ low ∷ 0 ∷ 0 ∷ n ∷ 0 ∷ high ∷ 0 ∷ 0 ∷ 0 ∷ []) (sym (byte_is slot inside powered 7))

  own-load_held : (high low : ℕ) → gives powered (LocoAddr high low) slot ≡ true → is_used powered slot ≡ true → PreservesRead powered (LocoAddr high low) slot
  own-load_held high low h used =
      keeps slot inside powered (after_take powered.desk (address_with high low)) (ap (λ (d : Desk). row_of d slot) (finds (address_with high low) (taken high low h) (has_place used)))

  -- OPC_WR_SL_DATA
  legal_write : (f : SlotBytes) → is_ok (write_answer powered.desk f) ≡ true → is_stat f.stat ≡ true
  legal_write f ok =
      let all = test_true (is_slot f.slot && is_stat f.stat && (not (is_held (state_of f.stat)) || is_address (address_of f))) _ ok in
      (and_parts (is_slot f.slot) (is_stat f.stat) (and_parts (is_slot f.slot && is_stat f.stat) (not (is_held (state_of f.stat)) || is_address (address_of f)) all).0).1

  own-write : (f : SlotBytes) → AreData f → f.slot ≡ slot → answer powered (SlotWrite f) 0 ≡ Some (reply.LongAck 0x6F 0x7F) → is_held (state_of f.stat) ≡ true
      → read_of (after powered (SlotWrite f)) slot ≡ 0xE7 ∷ 0x0E ∷ slot ∷ f.stat ∷ f.adr ∷ f.spd ∷ f.dirf % 64 ∷ byte_read powered slot 7 ∷ f.ss2 ∷ f.adr2 ∷ f.snd % 16 ∷ f.id1 ∷ f.id2 ∷ []
  own-write f bytes e answered held =
      let ok = written (write_answer powered.desk f) answered in
      let row_is : row_of (after_write powered.desk f) slot ≡ row_with (address_of f) (written_entry powered.desk f) = subst (λ (n : ℕ). row_of (after_write powered.desk f) n ≡ row_with (address_of f) (written_entry powered.desk f)) e (own.write f ok held) in
      let low : (f.adr2 * 128 + f.adr) % 128 ≡ f.adr = omega (arith, bytes.adr) in
      let high : (f.adr2 * 128 + f.adr) / 128 ≡ f.adr2 = omega (arith, bytes.adr) in
      read_is slot inside (after powered (SlotWrite f)) ∙ ap (shown powered.power slot) row_is
      ∙ ap (λ (n : ℕ). 0xE7 ∷ 0x0E ∷ slot ∷ n ∷ (f.adr2 * 128 + f.adr) % 128 ∷ f.spd ∷ f.dirf % 64 ∷ track_status powered.power ∷ f.ss2 ∷ (f.adr2 * 128 + f.adr) / 128 ∷ f.snd % 16 ∷ f.id1 ∷ f.id2 ∷ []) (stat_back f.stat (legal_write f ok))
      ∙ ap (λ (n : ℕ). 0xE7 ∷ 0x0E ∷ slot ∷ f.stat ∷ n ∷ f.spd ∷ f.dirf % 64 ∷ track_status powered.power ∷ f.ss2 ∷ (f.adr2 * 128 + f.adr) / 128 ∷ f.snd % 16 ∷ f.id1 ∷ f.id2 ∷ []) low
      ∙ ap (λ (n : ℕ). 0xE7 ∷ 0x0E ∷ slot ∷ f.stat ∷ f.adr ∷ f.spd ∷ f.dirf % 64 ∷ track_status powered.power ∷ f.ss2 ∷ n ∷ f.snd % 16 ∷ f.id1 ∷ f.id2 ∷ []) high
      ∙ ap (λ (n : ℕ). 0xE7 ∷ 0x0E ∷ slot ∷ f.stat ∷ f.adr ∷ f.spd ∷ f.dirf % 64 ∷ n ∷ f.ss2 ∷ f.adr2 ∷ f.snd % 16 ∷ f.id1 ∷ f.id2 ∷ []) (sym (byte_is slot inside powered 7))

  own-write_free : (f : SlotBytes) → f.slot ≡ slot → answer powered (SlotWrite f) 0 ≡ Some (reply.LongAck 0x6F 0x7F) → is_held (state_of f.stat) ≡ false → Frees powered (SlotWrite f) slot
  own-write_free f e answered free =
      frees slot inside powered (after_write powered.desk f) (subst (λ (n : ℕ). row_of (after_write powered.desk f) n ≡ free_row) e (own.write_free f (written (write_answer powered.desk f) answered) free))

  -- TRK
  own-off : Writes powered PowerOff slot 7 6
  own-off = writes slot inside powered (after powered PowerOff) 7 6 row refl refl

  own-on : Writes powered PowerOn slot 7 7
  own-on = writes slot inside powered (after powered PowerOn) 7 7 row refl refl

  own-idle : byte_read powered slot 7 ≡ 7 → Writes powered ForceIdle slot 7 5
  own-idle h = writes slot inside powered (after powered ForceIdle) 7 5 row refl (by_power powered.power (sym (byte_is slot inside powered 7) ∙ h))
    where
      by_power : (power : Power) → track_status power ≡ 7 → shown (paused power) slot row ≡ slice_set (shown power slot row) 7 5
      by_power Off e = absurd (omega (arith, e))
      by_power Running e = refl
      by_power Paused e = absurd (omega (arith, e))

  own-idle_else : byte_read powered slot 7 ≢ 7 → PreservesRead powered ForceIdle slot
  own-idle_else h = read_is slot inside (after powered ForceIdle) ∙ by_power powered.power (λ e. h (byte_is slot inside powered 7 ∙ e)) ∙ sym (read_is slot inside powered)
    where
      by_power : (power : Power) → track_status power ≢ 7 → shown (paused power) slot row ≡ shown power slot row
      by_power Off e = refl
      by_power Running e = absurd (e refl)
      by_power Paused e = refl

  -- what is refused
  same_desk : (desk : Desk) → desk ≡ powered.desk → read_of (record { power = powered.power; desk = desk }) slot ≡ read_of powered slot
  same_desk desk e = keeps slot inside powered desk (ap (λ (d : Desk). row_of d slot) e)

  refused : (op : Op) (opc waiting : ℕ) → answer powered op waiting ≡ Some (reply.LongAck opc 0) → PreservesRead powered op slot
  refused (Move src dest) opc waiting h = same_desk (after_move powered.desk src dest) (move_refused powered.desk src dest (failed 0x3A opc (after powered (Move src dest)) (move_answer powered.desk src dest) h))
  refused (LocoAddr high low) opc waiting h = same_desk (after_take powered.desk (address_with high low)) (take_refused powered.desk (address_with high low) (failed 0x3F opc (after powered (LocoAddr high low)) (take_answer powered.desk (address_with high low)) h))
  refused (SlotWrite f) opc waiting h = same_desk (after_write powered.desk f) (write_refused powered.desk f (unwritten opc (write_answer powered.desk f) h))
  refused (Imm count im1 im2 im3 im4 im5) opc waiting h = same_desk (with_more powered.desk (more_of powered.desk count im1 im2 im3 im4 im5)) (more_refused powered.desk opc (more_of powered.desk count im1 im2 im3 im4 im5) h)
  refused (SwReq number closed on) opc waiting h = refl
  refused (SwAck number closed on) opc waiting h = refl
  refused (SlotRead n) opc waiting h = refl
  refused _ opc waiting h = absurd cc

  -- a message for another slot
  away : (n : ℕ) → (n == slot) ≡ false → slot ≢ n
  away n e same = both_ways (n == slot) e (eq-eqb n slot (sym same))

  other_shift : (src dest : ℕ) → (src == slot) ≡ false → slot_if (can_shift powered.desk src dest) dest ≢ Ok slot → ReadsAs powered.desk (after_shift powered.desk src dest) slot
  other_shift src dest e = by_test (can_shift powered.desk src dest) refl
    where
      by_test : (b : Bool) → can_shift powered.desk src dest ≡ b → slot_if b dest ≢ Ok slot → ReadsAs powered.desk (after_shift powered.desk src dest) slot
      by_test true can not = stay.shift src dest (away src e) (λ same. not (ap Ok (sym same)))
      by_test false can not = rw can refl

  other_move : (src dest : ℕ) → (src == slot) ≡ false → move_answer powered.desk src dest ≢ Ok slot → ReadsAs powered.desk (after_move powered.desk src dest) slot
  other_move src dest e = by_tests (src == 0) (src == dest) (dest == 0)
    where
      by_tests : (x y z : Bool) → (if x then dispatch_get_answer powered.desk.mark else (if y then slot_if (is_placed powered.desk src) src else (if z then slot_if (is_placed powered.desk src) src else slot_if (can_shift powered.desk src dest) dest))) ≢ Ok slot
          → ReadsAs powered.desk (if x then after_dispatch_get powered.desk else (if y then after_null_move powered.desk src else (if z then after_dispatch_put powered.desk src else after_shift powered.desk src dest))) slot
      by_tests true y z not = stay.dispatch_get (λ marked_so. not (ap dispatch_get_answer marked_so))
      by_tests false true z not = stay.null_move src (away src e)
      by_tests false false true not = stay.dispatch_put src (away src e)
      by_tests false false false not = other_shift src dest e not

  -- no byte shows F9 to F12
  more_hidden : (more : Option More) → read_of (record { power = powered.power; desk = with_more powered.desk more }) slot ≡ read_of powered slot
  more_hidden None = refl
  more_hidden (Some more) = by_slot (more.slot == slot) refl (is_placed powered.desk slot) refl
    where
      at_slot : is_placed powered.desk slot ≡ true → read_of (record { power = powered.power; desk = after_field powered.desk slot (field.More more.bits) }) slot ≡ read_of powered slot
      at_slot placed = read_is slot inside (record { power = powered.power; desk = after_field powered.desk slot (field.More more.bits) }) ∙ ap (shown powered.power slot) (own.more slot more.bits placed) ∙ sym (read_is slot inside powered)

      by_slot : (b : Bool) → (more.slot == slot) ≡ b → (placed : Bool) → is_placed powered.desk slot ≡ placed → read_of (record { power = powered.power; desk = after_field powered.desk more.slot (field.More more.bits) }) slot ≡ read_of powered slot
      by_slot false e placed p = keeps slot inside powered (after_field powered.desk more.slot (field.More more.bits)) (other_field more.slot (field.More more.bits) e)
      by_slot true e true p = subst (λ (n : ℕ). read_of (record { power = powered.power; desk = after_field powered.desk n (field.More more.bits) }) slot ≡ read_of powered slot) (sym (eqb-true more.slot slot e)) (at_slot p)
      by_slot true e false p = keeps slot inside powered (after_field powered.desk more.slot (field.More more.bits)) (subst (λ (n : ℕ). ReadsAs powered.desk (after_field powered.desk n (field.More more.bits)) slot) (sym (eqb-true more.slot slot e)) (no_field (field.More more.bits) p))

  others : (op : Op) → names op slot ≡ false → gives powered op slot ≡ false → PreservesRead powered op slot
  others (Speed n spd) ne none = keeps slot inside powered (after_field powered.desk n (field.Speed spd)) (other_field n (field.Speed spd) ne)
  others (Dirf n dirf) ne none = keeps slot inside powered (after_field powered.desk n (field.Dirf dirf)) (other_field n (field.Dirf dirf) ne)
  others (Snd n snd) ne none = keeps slot inside powered (after_field powered.desk n (field.Snd snd)) (other_field n (field.Snd snd) ne)
  others (SlotStat n stat) ne none = keeps slot inside powered (after_field powered.desk n (field.Stat stat)) (other_field n (field.Stat stat) ne)
  others (Move src dest) ne none =
      keeps slot inside powered (after_move powered.desk src dest) (other_move src dest ne (not_given slot 0x3A (after powered (Move src dest)) (move_answer powered.desk src dest) none))
  others (LocoAddr high low) ne none =
      keeps slot inside powered (after_take powered.desk (address_with high low)) (stay.take (address_with high low) (not_given slot 0x3F (after powered (LocoAddr high low)) (take_answer powered.desk (address_with high low)) none))
  others (SlotWrite f) ne none = keeps slot inside powered (after_write powered.desk f) (stay.write f (λ same. both_ways (f.slot == slot) ne (eq-eqb f.slot slot (sym same))))
  others (Imm count im1 im2 im3 im4 im5) ne none = more_hidden (more_of powered.desk count im1 im2 im3 im4 im5)
  others PowerOff ne none = absurd cc
  others PowerOn ne none = absurd cc
  others ForceIdle ne none = absurd cc
  others _ ne none = refl

  writes_its_bytes : WritesItsBytes powered slot
  writes_its_bytes = record {
    speed = own-speed;
    dirf = own-dirf;
    snd = own-snd;
    stat = own-stat;
    stat_free = own-stat_free;
    stat_illegal = stat_illegal;
    unused = unused;
    get = own-get;
    null_move = own-null;
    put = own-put;
    move_to = own-move_to;
    move_from = own-move_from;
    load = own-load;
    load_held = own-load_held;
    write = own-write;
    write_free = own-write_free;
    off = own-off;
    on = own-on;
    idle = own-idle;
    idle_else = own-idle_else;
    refused = refused;
    read = λ n. refl;
    others = others;
  }

pub messages_write_their_bytes : (powered : PoweredDesk) (slot : ℕ) → IsDesk powered.desk → IsSlot slot → RowsAreLegal powered.desk → OthersStay powered.desk slot → OwnSlots powered.desk → WritesItsBytes powered slot
messages_write_their_bytes powered slot is inside rows stay own = writes_its_bytes slot (inside_of slot inside) powered is rows stay own
