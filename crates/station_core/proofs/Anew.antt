-- Where a message makes something new of a slot, it names the place.
use Rattle.std.proofs.Common.{◌≡◌, ◌≢◌, ◌⊎◌, ℕ, ◌/◌, ◌%◌, ◌*◌, ◌+◌, ◌==◌, Bool, true, false, if◌then◌else◌, List, [], ◌∷◌, Option, Some, None, Result, Ok, Err, is_some, refl, ap, sym, subst, ◌∙◌, inl, inr, arith}
use Rattle.std.proofs.lemmas.Bool.{cases_eq}
use Rattle.std.specs.Prelude.{Contains}
use Rattle.std.specs.FinMap.{get}
use Rattle.ln_ops.specs.Fields.{SlotBytes}
use Rattle.ln_ops.specs.Slot.{address_with, is_address, free_row}
use Rattle.ln_ops.specs.declared.op.Op.{Op}
use Rattle.ln_ops.specs.declared.op.Op.TheVariants.{Speed, Dirf, Snd, SlotStat, Move, LocoAddr, SlotWrite, Imm}
use Rattle.ln_ops.specs.declared.row.Row.{Row}
use Rattle.dcc_packet.specs.Form.{to_decoder}
use Rattle.dcc_packet.specs.Sent.{group_one_bits, group_two_bits, group_three_bits}
use Rattle.slot_table.specs.Changes.{changed, change_at, slot_if}
use Rattle.slot_table.specs.Desk.{Desk}
use Rattle.slot_table.specs.Entry.{Entry, entry_of, row_with}
use Rattle.slot_table.specs.Laws.{OthersStay, OwnSlots, ReadsAs, Becomes}
use Rattle.slot_table.specs.Moves.{after_null_move, after_dispatch_put, after_dispatch_get, after_shift, can_shift, dispatch_get_at, dispatch_get_answer}
use Rattle.slot_table.specs.Reading.{is_placed, row_of, slot_of, free_slot}
use Rattle.slot_table.specs.Writes.{after_take, after_field, after_write, can_field, new_entry, take_answer, write_answer}
use Rattle.slot_table.specs.declared.field.Field.{Field}
use Rattle.slot_table.specs.declared.field.Field.TheVariants as field
use Rattle.slot_table.specs.declared.fault.SlotFault.{SlotFault}
use Rattle.refresh_ring.specs.declared.kind.Kind.{Kind}
use Rattle.refresh_ring.specs.declared.kind.Kind.TheVariants as kind
use Rattle.station_core.specs.After.{after_move, desk_after}
use Rattle.station_core.specs.Answer.{move_answer}
use Rattle.station_core.specs.Schedule.{change_of, changed_places, of_field, of_more, of_slot, of_write, places_with}
use Rattle.station_core.specs.Entries.{functions_asked}
use Rattle.station_core.specs.Immediate.{more_of, with_more}
use Rattle.station_core.specs.Packets.{address_sent, entry_packet, place_packet}
use Rattle.station_core.specs.Refreshed.{is_driven, is_refreshed}
use Rattle.station_core.specs.declared.immediate.More.{More}
use Rattle.station_core.specs.declared.schedule.Change.TheVariants.{Speed as SpeedAlone, SpeedAndGroupOne, GroupTwo, GroupThree, All}

-- the groups of functions, each from its own byte
one_is : (e : Entry) → group_one_bits (functions_asked e) ≡ 16 * (e.dirf / 16 % 2) + e.dirf % 16
one_is e = omega arith

two_is : (e : Entry) → group_two_bits (functions_asked e) ≡ e.snd % 16
two_is e = omega arith

three_is : (e : Entry) → group_three_bits (functions_asked e) ≡ e.more % 16
three_is e = omega arith

-- the packet of a row
abbrev packet : Kind → Row → List ℕ
packet kind row = entry_packet kind row.address (entry_of row)

-- the schedule is set the same for a slot, which is refreshed as before
abbrev Same : Desk → Desk → ℕ → Kind → Type 0
Same old new slot kind = (place_packet new slot kind ≡ place_packet old slot kind) × (is_refreshed new slot ≡ is_refreshed old slot)

-- a place is named, or nothing is new
abbrev IsRequested : Desk → Desk → ℕ → Kind → List (ℕ × Kind) → Type 0
IsRequested old new slot kind places = Contains places (slot, kind) ⊎ Same old new slot kind

same_desk : (old new : Desk) (slot : ℕ) (kind : Kind) → new ≡ old → Same old new slot kind
same_desk old new slot kind e = subst (λ (d : Desk). Same old d slot kind) (sym e) (refl, refl)

reads_same : (old new : Desk) (slot : ℕ) (kind : Kind) → ReadsAs old new slot → Same old new slot kind
reads_same old new slot kind e = (ap (packet kind) e, ap (λ (row : Row). is_driven row.state) e)

-- a change of the row that neither its packet nor its state shows
row_same : (old new : Desk) (slot : ℕ) (kind : Kind) (f : Row → Row) → Becomes old new slot f → packet kind (f (row_of old slot)) ≡ packet kind (row_of old slot) → (f (row_of old slot)).state ≡ (row_of old slot).state → Same old new slot kind
row_same old new slot kind f e p s = (ap (packet kind) e ∙ p, ap (λ (row : Row). is_driven row.state) e ∙ ap is_driven s)

-- each kind is among all
pub all_of : (n : ℕ) (kind : Kind) → Contains (places_with n All) (n, kind)
all_of n kind.Speed = (0, omega arith, refl)
all_of n kind.GroupOne = (1, omega arith, refl)
all_of n kind.GroupTwo = (2, omega arith, refl)
all_of n kind.GroupThree = (3, omega arith, refl)

-- a free slot has no entry to change
pub unplaced : (desk : Desk) (n : ℕ) (f : Entry → Entry) → is_placed desk n ≡ false → changed desk n f ≡ desk
unplaced desk n f = by_place (get desk.place n) where
  by_place : (place : Option ℕ) → is_some place ≡ false → change_at desk f place ≡ desk
  by_place None e = refl
  by_place (Some a) e = absurd cc

module _ (desk : Desk) (slot : ℕ) (kind : Kind) where
  -- a message that is for one slot, and is accepted or not
  one : (new : Desk) (n : ℕ) (places : List (ℕ × Kind)) (b : Bool) → (b ≡ false → new ≡ desk) → (slot ≢ n → ReadsAs desk new slot) → (b ≡ true → IsRequested desk new n kind places) → IsRequested desk new slot kind (if b then places else [])
  one new n places false none others at = inr (same_desk desk new slot kind (none refl))
  one new n places true none others at = elim (cases_eq slot n) [
    | inl e ↦ subst (λ (m : ℕ). IsRequested desk new m kind places) (sym e) (at refl)
    | inr ne ↦ inr (reads_same desk new slot kind (others ne))
  ]

  -- and that leaves it whole
  given : (new : Desk) (n : ℕ) (b : Bool) → (b ≡ false → new ≡ desk) → (slot ≢ n → ReadsAs desk new slot) → IsRequested desk new slot kind (of_slot (slot_if b n))
  given new n false none others = inr (same_desk desk new slot kind (none refl))
  given new n true none others = elim (cases_eq slot n) [
    | inl e ↦ inl (subst (λ (m : ℕ). Contains (places_with n All) (m, kind)) (sym e) (all_of n kind))
    | inr ne ↦ inr (reads_same desk new slot kind (others ne))
  ]

speed_told : (desk : Desk) (n spd : ℕ) (kind : Kind) → OwnSlots desk → is_placed desk n ≡ true → IsRequested desk (after_field desk n (field.Speed spd)) n kind (places_with n SpeedAlone)
speed_told desk n spd kind.Speed own is = inl (0, omega arith, refl)
speed_told desk n spd kind.GroupOne own is = inr (row_same desk (after_field desk n (field.Speed spd)) n kind.GroupOne (λ row. record row { spd = spd }) (own.speed n spd is) refl refl)
speed_told desk n spd kind.GroupTwo own is = inr (row_same desk (after_field desk n (field.Speed spd)) n kind.GroupTwo (λ row. record row { spd = spd }) (own.speed n spd is) refl refl)
speed_told desk n spd kind.GroupThree own is = inr (row_same desk (after_field desk n (field.Speed spd)) n kind.GroupThree (λ row. record row { spd = spd }) (own.speed n spd is) refl refl)

-- packets of functions by their bits
two_same : (a : ℕ) (d e : Entry) → d.snd ≡ e.snd → entry_packet kind.GroupTwo a d ≡ entry_packet kind.GroupTwo a e
two_same a d e h = ap (λ (n : ℕ). to_decoder (address_sent a) ((176 + n) ∷ [])) (two_is d ∙ ap (λ (n : ℕ). n % 16) h ∙ sym (two_is e))

three_same : (a : ℕ) (d e : Entry) → d.more ≡ e.more → entry_packet kind.GroupThree a d ≡ entry_packet kind.GroupThree a e
three_same a d e h = ap (λ (n : ℕ). to_decoder (address_sent a) ((160 + n) ∷ [])) (three_is d ∙ ap (λ (n : ℕ). n % 16) h ∙ sym (three_is e))

one_same : (a : ℕ) (d e : Entry) → d.dirf ≡ e.dirf → entry_packet kind.GroupOne a d ≡ entry_packet kind.GroupOne a e
one_same a d e h = ap (λ (n : ℕ). to_decoder (address_sent a) ((128 + n) ∷ [])) (one_is d ∙ ap (λ (n : ℕ). 16 * (n / 16 % 2) + n % 16) h ∙ sym (one_is e))

dirf_told : (desk : Desk) (n dirf : ℕ) (kind : Kind) → OwnSlots desk → is_placed desk n ≡ true → IsRequested desk (after_field desk n (field.Dirf dirf)) n kind (places_with n SpeedAndGroupOne)
dirf_told desk n dirf kind.Speed own is = inl (0, omega arith, refl)
dirf_told desk n dirf kind.GroupOne own is = inl (1, omega arith, refl)
dirf_told desk n dirf kind.GroupTwo own is =
    inr (row_same desk (after_field desk n (field.Dirf dirf)) n kind.GroupTwo (λ row. record row { dirf = dirf % 64 }) (own.dirf n dirf is) (two_same (row_of desk n).address (entry_of (record (row_of desk n) { dirf = dirf % 64 })) (entry_of (row_of desk n)) refl) refl)
dirf_told desk n dirf kind.GroupThree own is =
    inr (row_same desk (after_field desk n (field.Dirf dirf)) n kind.GroupThree (λ row. record row { dirf = dirf % 64 }) (own.dirf n dirf is) (three_same (row_of desk n).address (entry_of (record (row_of desk n) { dirf = dirf % 64 })) (entry_of (row_of desk n)) refl) refl)

snd_told : (desk : Desk) (n snd : ℕ) (kind : Kind) → OwnSlots desk → is_placed desk n ≡ true → IsRequested desk (after_field desk n (field.Snd snd)) n kind (places_with n GroupTwo)
snd_told desk n snd kind.Speed own is = inr (row_same desk (after_field desk n (field.Snd snd)) n kind.Speed (λ row. record row { snd = snd % 16 }) (own.snd n snd is) refl refl)
snd_told desk n snd kind.GroupOne own is =
    inr (row_same desk (after_field desk n (field.Snd snd)) n kind.GroupOne (λ row. record row { snd = snd % 16 }) (own.snd n snd is) (one_same (row_of desk n).address (entry_of (record (row_of desk n) { snd = snd % 16 })) (entry_of (row_of desk n)) refl) refl)
snd_told desk n snd kind.GroupTwo own is = inl (0, omega arith, refl)
snd_told desk n snd kind.GroupThree own is =
    inr (row_same desk (after_field desk n (field.Snd snd)) n kind.GroupThree (λ row. record row { snd = snd % 16 }) (own.snd n snd is) (three_same (row_of desk n).address (entry_of (record (row_of desk n) { snd = snd % 16 })) (entry_of (row_of desk n)) refl) refl)

more_told : (desk : Desk) (n more : ℕ) (kind : Kind) → OwnSlots desk → is_placed desk n ≡ true → IsRequested desk (after_field desk n (field.More more)) n kind (places_with n GroupThree)
more_told desk n more kind.Speed own is = inr (row_same desk (after_field desk n (field.More more)) n kind.Speed (λ row. record row { more = more }) (own.more n more is) refl refl)
more_told desk n more kind.GroupOne own is =
    inr (row_same desk (after_field desk n (field.More more)) n kind.GroupOne (λ row. record row { more = more }) (own.more n more is) (one_same (row_of desk n).address (entry_of (record (row_of desk n) { more = more })) (entry_of (row_of desk n)) refl) refl)
more_told desk n more kind.GroupTwo own is =
    inr (row_same desk (after_field desk n (field.More more)) n kind.GroupTwo (λ row. record row { more = more }) (own.more n more is) (two_same (row_of desk n).address (entry_of (record (row_of desk n) { more = more })) (entry_of (row_of desk n)) refl) refl)
more_told desk n more kind.GroupThree own is = inl (0, omega arith, refl)

field_told : (desk : Desk) (n : ℕ) (written : Field) (kind : Kind) → OwnSlots desk → can_field desk n written ≡ true → IsRequested desk (after_field desk n written) n kind (places_with n (change_of written))
field_told desk n (field.Speed spd) kind own is = speed_told desk n spd kind own is
field_told desk n (field.Dirf dirf) kind own is = dirf_told desk n dirf kind own is
field_told desk n (field.Snd snd) kind own is = snd_told desk n snd kind own is
field_told desk n (field.More more) kind own is = more_told desk n more kind own is
field_told desk n (field.Stat stat) kind own is = inl (all_of n kind)

module _ (desk : Desk) (slot : ℕ) (kind : Kind) (stay : OthersStay desk slot) (own : OwnSlots desk) where
  one_field : (n : ℕ) (written : Field) → IsRequested desk (after_field desk n written) slot kind (of_field desk n written)
  one_field n written = one desk slot kind (after_field desk n written) n (places_with n (change_of written)) (can_field desk n written) (λ e. rw e refl) (stay.field n written) (field_told desk n written kind own)

  asked_told : (asked : Option More) → IsRequested desk (with_more desk asked) slot kind (of_more desk asked)
  asked_told None = inr (refl, refl)
  asked_told (Some more) = one_field more.slot (field.More more.bits)

  write_told : (f : SlotBytes) → IsRequested desk (after_write desk f) slot kind (of_write f.slot (write_answer desk f))
  write_told f = by_answer (write_answer desk f) refl where
    by_answer : (answer : Result (Unit {0}) SlotFault) → write_answer desk f ≡ answer → IsRequested desk (after_write desk f) slot kind (of_write f.slot answer)
    by_answer (Ok done) is = one desk slot kind (after_write desk f) f.slot (places_with f.slot All) true (λ e. absurd cc) (stay.write f) (λ e. inl (all_of f.slot kind))
    by_answer (Err fault) is = inr (same_desk desk (after_write desk f) slot kind (rw is refl))

  get_told : IsRequested desk (after_dispatch_get desk) slot kind (of_slot (dispatch_get_answer desk.mark))
  get_told = by_mark desk.mark refl where
    by_mark : (mark : Option ℕ) → desk.mark ≡ mark → IsRequested desk (dispatch_get_at desk mark) slot kind (of_slot (dispatch_get_answer mark))
    by_mark None is = inr (refl, refl)
    by_mark (Some n) is =
        given desk slot kind (dispatch_get_at desk (Some n)) n true (λ e. absurd cc)
        (λ ne. subst (λ (mark : Option ℕ). ReadsAs desk (dispatch_get_at desk mark) slot) is (stay.dispatch_get (λ e. ne cc)))

  put_told : (src : ℕ) → IsRequested desk (after_dispatch_put desk src) slot kind (of_slot (slot_if (is_placed desk src) src))
  put_told src = given desk slot kind (after_dispatch_put desk src) src (is_placed desk src) (λ e. rw e refl) (stay.dispatch_put src)

  null_told : (src : ℕ) → IsRequested desk (after_null_move desk src) slot kind (of_slot (slot_if (is_placed desk src) src))
  null_told src = given desk slot kind (after_null_move desk src) src (is_placed desk src) (unplaced desk src _) (stay.null_move src)

  shift_told : (src dest : ℕ) → is_refreshed (after_shift desk src dest) slot ≡ true → IsRequested desk (after_shift desk src dest) slot kind (of_slot (slot_if (can_shift desk src dest) dest))
  shift_told src dest live = by_test (can_shift desk src dest) refl where
    by_test : (b : Bool) → can_shift desk src dest ≡ b → IsRequested desk (after_shift desk src dest) slot kind (of_slot (slot_if b dest))
    by_test false is = inr (same_desk desk (after_shift desk src dest) slot kind (rw is refl))
    by_test true is = given desk slot kind (after_shift desk src dest) dest true (λ e. absurd cc) (λ ne. stay.shift src dest (λ e. moved_away e) ne) where
      moved_away : slot ≡ src → ⊥
      moved_away e =
          let bare : row_of (after_shift desk src dest) slot ≡ free_row = subst (λ (m : ℕ). row_of (after_shift desk src dest) m ≡ free_row) (sym e) (own.shift_src src dest is) in
          let off : is_refreshed (after_shift desk src dest) slot ≡ false = ap (λ (row : Row). is_driven row.state) bare in
          absurd cc

  move_told : (src dest : ℕ) → is_refreshed (after_move desk src dest) slot ≡ true → IsRequested desk (after_move desk src dest) slot kind (of_slot (move_answer desk src dest))
  move_told src dest = by_tests (src == 0) (src == dest) (dest == 0) where
    by_tests : (a b c : Bool) → is_refreshed (if a then after_dispatch_get desk else (if b then after_null_move desk src else (if c then after_dispatch_put desk src else after_shift desk src dest))) slot ≡ true
        → IsRequested desk (if a then after_dispatch_get desk else (if b then after_null_move desk src else (if c then after_dispatch_put desk src else after_shift desk src dest))) slot kind (of_slot (if a then dispatch_get_answer desk.mark else (if b then slot_if (is_placed desk src) src else (if c then slot_if (is_placed desk src) src else slot_if (can_shift desk src dest) dest))))
    by_tests true b c live = get_told
    by_tests false true c live = null_told src
    by_tests false false true live = put_told src
    by_tests false false false live = shift_told src dest live

  take_told : (a : ℕ) → is_refreshed (after_take desk a) slot ≡ true → IsRequested desk (after_take desk a) slot kind []
  take_told a live = by_cases (is_address a) refl (slot_of desk a) refl (free_slot desk) refl where
    by_cases : (b : Bool) → is_address a ≡ b → (held : Option ℕ) → slot_of desk a ≡ held → (free : Option ℕ) → free_slot desk ≡ free → IsRequested desk (after_take desk a) slot kind []
    by_cases false is held at free first = inr (same_desk desk (after_take desk a) slot kind (rw is refl))
    by_cases true is (Some n) at free first = inr (same_desk desk (after_take desk a) slot kind (rw (is, at) refl))
    by_cases true is None at None first = inr (same_desk desk (after_take desk a) slot kind (rw (is, at, first) refl))
    by_cases true is None at (Some n) first = elim (cases_eq slot n) [
      | inl e ↦
          let new : row_of (after_take desk a) slot ≡ row_with a new_entry = subst (λ (m : ℕ). row_of (after_take desk a) m ≡ row_with a new_entry) (sym e) (own.take_unknown a n is at first) in
          let off : is_refreshed (after_take desk a) slot ≡ false = ap (λ (row : Row). is_driven row.state) new in
          absurd cc
      | inr ne ↦
          let answer : take_answer desk a ≡ Ok n = rw (is, at, first) refl in
          inr (reads_same desk (after_take desk a) slot kind (stay.take a (λ e. ne cc)))
    ]

  pub op_told : (op : Op) → is_refreshed (desk_after desk op) slot ≡ true → IsRequested desk (desk_after desk op) slot kind (changed_places desk op)
  op_told (Speed n spd) live = one_field n (field.Speed spd)
  op_told (Dirf n dirf) live = one_field n (field.Dirf dirf)
  op_told (Snd n snd) live = one_field n (field.Snd snd)
  op_told (SlotStat n stat) live = one_field n (field.Stat stat)
  op_told (Move src dest) live = move_told src dest live
  op_told (LocoAddr high low) live = take_told (address_with high low) live
  op_told (SlotWrite fields) live = write_told fields
  op_told (Imm count im1 im2 im3 im4 im5) live = asked_told (more_of desk count im1 im2 im3 im4 im5)
  op_told _ live = inr (refl, refl)
