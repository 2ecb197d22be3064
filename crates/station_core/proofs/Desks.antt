-- From a desk every message leaves a desk.
use Rattle.std.proofs.Common.{◌≡◌, ℕ, ◌<◌, ◌==◌, ◌&&◌, nat_lt, nat_le, zero, suc, Bool, true, false, List, [], ◌∷◌, ◌++◌, Option, Some, None, IfSome, if◌then◌else◌, refl, ap, sym, ◌∙◌, arith}
use Rattle.std.proofs.lemmas.Bool.{and_parts, both_ways, ltb-true}
use Rattle.std.specs.Prelude.{slice_index}
use Rattle.ln_frame.specs.Message.{are_data, has_form, is_whole}
use Rattle.ln_frame.specs.Stream.{message_at_end}
use Rattle.ln_ops.specs.Fields.{SlotBytes, AreData}
use Rattle.ln_ops.specs.Message.{op_of, four_of, fields_of, imm_of}
use Rattle.ln_ops.specs.declared.op.Op.{Op}
use Rattle.ln_ops.specs.declared.op.Op.TheVariants.{PowerOff, PowerOn, ForceIdle, Speed, Dirf, Snd, SwReq, SwAck, LongAck, SlotStat, Move, SlotRead, LocoAddr, SlotData, SlotWrite, Imm, Other}
use Rattle.ln_ops.specs.Slot.{address_with}
use Rattle.slot_table.specs.Desk.{Desk, IsDesk}
use Rattle.slot_table.specs.declared.field.Field.TheVariants as field
use Rattle.slot_table.specs.Laws.{LeavesDesk}
use Rattle.slot_table.specs.Moves.{after_null_move, after_dispatch_put, after_dispatch_get, after_shift}
use Rattle.station_core.specs.declared.call.Call.{Call}
use Rattle.station_core.specs.declared.call.Call.TheVariants.{Byte, Turn}
use Rattle.station_core.specs.After.{desk_after}
use Rattle.station_core.specs.Immediate.{more_of, with_more}
use Rattle.station_core.specs.declared.immediate.More.{More}
use Rattle.station_core.proofs.Functions.{more_of-below}
use Rattle.station_core.specs.ThrottleView.{ThrottleView, bytes_of, carried_out, known_after}
use Rattle.station_core.specs.Moments.{AtEveryMoment}
use Rattle.station_core.specs.Powered.{PoweredDesk, HasDesk}

-- a whole message has only data after its opcode
data_at : (xs : List ℕ) (i : ℕ) → are_data xs ≡ true → slice_index xs i < 128
data_at [] i h = omega arith
data_at (x ∷ xs) zero h = ltb-true x 128 (and_parts (nat_lt x 128) (are_data xs) h).0
data_at (x ∷ xs) (suc i) h = data_at xs i (and_parts (nat_lt x 128) (are_data xs) h).1

behind_opcode : (m : List ℕ) (i : ℕ) → is_whole m ≡ true → slice_index m (suc i) < 128
behind_opcode [] i h = omega arith
behind_opcode (opcode ∷ []) i h = omega arith
behind_opcode (opcode ∷ second ∷ rest) i h =
    let form = (and_parts (has_form (opcode ∷ second ∷ rest)) _ h).0 in
    data_at (second ∷ rest) i (and_parts _ (are_data (second ∷ rest)) form).1

ends_by : (b : Bool) (w m : List ℕ) (later : Option (List ℕ)) → is_whole w ≡ b → (later ≡ Some m → is_whole m ≡ true) → (if b then Some w else later) ≡ Some m → is_whole m ≡ true
ends_by true w m later is rest same = let it : w ≡ m = cc in ap is_whole (sym it) ∙ is
ends_by false w m later is rest same = rest same

ends_whole : (bytes m : List ℕ) → message_at_end bytes ≡ Some m → is_whole m ≡ true
ends_whole [] m e = cc
ends_whole (byte ∷ bytes) m e = ends_by (is_whole (byte ∷ bytes)) (byte ∷ bytes) m (message_at_end bytes) refl (ends_whole bytes m) e

-- what a desk needs of the data of an operation
record Fits (op : Op) : Type 0 where
  speed : (slot spd : ℕ) → op ≡ Speed slot spd → spd < 128
  write : (fields : SlotBytes) → op ≡ SlotWrite fields → AreData fields

abbrev is_plain : Op → Bool
is_plain (Speed slot spd) = false
is_plain (SlotWrite fields) = false
is_plain _ = true

plain : (op : Op) → is_plain op ≡ true → Fits op
plain op h = record {
  speed = λ slot spd e. absurd (both_ways (is_plain op) (ap is_plain e) h);
  write = λ fields e. absurd (both_ways (is_plain op) (ap is_plain e) h);
}

fits_speed : (slot spd : ℕ) → spd < 128 → Fits (Speed slot spd)
fits_speed slot spd low = record { speed = λ s v e. let same : spd ≡ v = cc in omega (arith, low, same); write = λ fields e. cc }

fits_write : (fields : SlotBytes) → AreData fields → Fits (SlotWrite fields)
fits_write fields bytes = record { speed = λ s v e. cc; write = λ other e. let same : fields ≡ other = cc in subst_data other same }
  where
    subst_data : (other : SlotBytes) → fields ≡ other → AreData other
    subst_data other same = rw (← same) bytes

either : (b : Bool) (x y : Op) → Fits x → Fits y → Fits (if b then x else y)
either true x y h k = h
either false x y h k = k

four_fits : (opcode first second : ℕ) → second < 128 → Fits (four_of opcode first second)
four_fits opcode first second low = search (plain, fits_speed, either, refl) depth 14

fields_fit : (m : List ℕ) → is_whole m ≡ true → AreData (fields_of m)
fields_fit m h = record {
  slot = behind_opcode m 1 h;
  stat = behind_opcode m 2 h;
  adr = behind_opcode m 3 h;
  spd = behind_opcode m 4 h;
  dirf = behind_opcode m 5 h;
  trk = behind_opcode m 6 h;
  ss2 = behind_opcode m 7 h;
  adr2 = behind_opcode m 8 h;
  snd = behind_opcode m 9 h;
  id1 = behind_opcode m 10 h;
  id2 = behind_opcode m 11 h;
}

op_fits : (m : List ℕ) → is_whole m ≡ true → Fits (op_of m)
op_fits m h =
    let is_imm : Bool = (slice_index m 0 == 0xED) && ((slice_index m 1 == 11) && (slice_index m 2 == 127)) in
    let rest : Op = if is_imm then imm_of m else Other in
    let fit : Fits rest = either is_imm (imm_of m) Other (plain (imm_of m) refl) (plain Other refl) in
    let rest0 : Op = if (slice_index m 0 == 0xEF) && (slice_index m 1 == 14) then SlotWrite (fields_of m) else rest in
    let fit0 : Fits rest0 = either ((slice_index m 0 == 0xEF) && (slice_index m 1 == 14)) (SlotWrite (fields_of m)) rest (fits_write (fields_of m) (fields_fit m h)) (fit) in
    let rest1 : Op = if (slice_index m 0 == 0xE7) && (slice_index m 1 == 14) then SlotData (fields_of m) else rest0 in
    let fit1 : Fits rest1 = either ((slice_index m 0 == 0xE7) && (slice_index m 1 == 14)) (SlotData (fields_of m)) rest0 (plain (SlotData (fields_of m)) refl) (fit0) in
    let rest2 : Op = if nat_le 160 (slice_index m 0) && nat_le (slice_index m 0) 191 then four_of (slice_index m 0) (slice_index m 1) (slice_index m 2) else rest1 in
    let fit2 : Fits rest2 = either (nat_le 160 (slice_index m 0) && nat_le (slice_index m 0) 191) (four_of (slice_index m 0) (slice_index m 1) (slice_index m 2)) rest1 (four_fits (slice_index m 0) (slice_index m 1) (slice_index m 2) (behind_opcode m 1 h)) (fit1) in
    let rest3 : Op = if slice_index m 0 == 0x85 then ForceIdle else rest2 in
    let fit3 : Fits rest3 = either (slice_index m 0 == 0x85) (ForceIdle) rest2 (plain ForceIdle refl) (fit2) in
    let rest4 : Op = if slice_index m 0 == 0x83 then PowerOn else rest3 in
    let fit4 : Fits rest4 = either (slice_index m 0 == 0x83) (PowerOn) rest3 (plain PowerOn refl) (fit3) in
    let rest5 : Op = if slice_index m 0 == 0x82 then PowerOff else rest4 in
    let fit5 : Fits rest5 = either (slice_index m 0 == 0x82) (PowerOff) rest4 (plain PowerOff refl) (fit4) in
    fit5

one_desk : (b : Bool) (x y : Desk) → IsDesk x → IsDesk y → IsDesk (if b then x else y)
one_desk true x y h k = h
one_desk false x y h k = k

module _ (leaves : (desk : Desk) → IsDesk desk → LeavesDesk desk) where
  more_leaves : (desk : Desk) → IsDesk desk → (more : Option More) → IfSome more (λ m. m.bits < 16) → IsDesk (with_more desk more)
  more_leaves desk is None below = is
  more_leaves desk is (Some more) below = (leaves desk is).field more.slot (field.More more.bits) below

  op_leaves : (desk : Desk) (op : Op) → IsDesk desk → Fits op → IsDesk (desk_after desk op)
  op_leaves desk PowerOff is fits = is
  op_leaves desk PowerOn is fits = is
  op_leaves desk ForceIdle is fits = is
  op_leaves desk (Speed slot spd) is fits = (leaves desk is).field slot (field.Speed spd) (fits.speed slot spd refl)
  op_leaves desk (Dirf slot dirf) is fits = (leaves desk is).field slot (field.Dirf dirf) tt
  op_leaves desk (Snd slot snd) is fits = (leaves desk is).field slot (field.Snd snd) tt
  op_leaves desk (SwReq number closed on) is fits = is
  op_leaves desk (SwAck number closed on) is fits = is
  op_leaves desk (LongAck opc ack) is fits = is
  op_leaves desk (SlotStat slot stat) is fits = (leaves desk is).field slot (field.Stat stat) tt
  op_leaves desk (Move src dest) is fits =
      let left = leaves desk is in
      one_desk (src == 0) (after_dispatch_get desk) (if src == dest then after_null_move desk src else (if dest == 0 then after_dispatch_put desk src else after_shift desk src dest)) left.dispatch_get
      (one_desk (src == dest) (after_null_move desk src) (if dest == 0 then after_dispatch_put desk src else after_shift desk src dest) (left.null_move src)
      (one_desk (dest == 0) (after_dispatch_put desk src) (after_shift desk src dest) (left.dispatch_put src) (left.shift src dest)))
  op_leaves desk (SlotRead slot) is fits = is
  op_leaves desk (LocoAddr high low) is fits = (leaves desk is).take (address_with high low)
  op_leaves desk (SlotData fields) is fits = is
  op_leaves desk (SlotWrite fields) is fits = (leaves desk is).write fields (fits.write fields refl)
  op_leaves desk (Imm count im1 im2 im3 im4 im5) is fits = more_leaves desk is (more_of desk count im1 im2 im3 im4 im5) (more_of-below desk count im1 im2 im3 im4 im5)
  op_leaves desk Other is fits = is

  message_leaves : (powered : PoweredDesk) (bytes : List ℕ) (message : Option (List ℕ)) → message_at_end bytes ≡ message → HasDesk powered → HasDesk (carried_out powered message)
  message_leaves powered bytes None e is = is
  message_leaves powered bytes (Some message) e is = op_leaves powered.desk (op_of message) is (op_fits message (ends_whole bytes message e))

  call_leaves : (known : ThrottleView) (call : Call) → HasDesk known.powered → HasDesk (known_after known call).powered
  unfolding known_after
  call_leaves known (Byte line byte) is =
      message_leaves known.powered (bytes_of known line ++ byte ∷ []) (message_at_end (bytes_of known line ++ byte ∷ [])) refl is
  call_leaves known Turn is = is

  pub stays_a_desk : (known : ThrottleView) (calls : List Call) → HasDesk known.powered → AtEveryMoment HasDesk known calls
  stays_a_desk known [] is = is
  stays_a_desk known (call ∷ calls) is = (is, stays_a_desk (known_after known call) calls (call_leaves known call is))
