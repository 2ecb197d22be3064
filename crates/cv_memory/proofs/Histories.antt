-- What a decoder knows is what it heard.
use Rattle.std.proofs.Common.{◌≡◌, ℕ, ◌&&◌, Bool, true, false, if◌then◌else◌, List, [], ◌∷◌, Option, Some, None, get_or, refl, ap, ◌∙◌, get_or-set_other}
use Rattle.service_mode.specs.declared.instruction.Instruction.{Instruction}
use Rattle.service_mode.specs.declared.instruction.Instruction.TheVariants.{VerifyByte, WriteByte, VerifyBit, WriteBit}
use Rattle.service_mode.specs.declared.packet.ServicePacket.{ServicePacket}
use Rattle.service_mode.specs.declared.packet.ServicePacket.TheVariants.{Reset, Direct}
use Rattle.service_mode.specs.Spelling.{is_same}
use Rattle.cv_memory.specs.Hearing.{CvState, acknowledges, heard, is_acknowledged, is_last, is_obeyed, is_read_only, stored, values_after, with_bit}
use Rattle.cv_memory.specs.History.{address_of, after_all, in_service, resets, some_packet, was_last}

module _ (values filed : List ℕ) where
  service_is : (packets : List (Option ServicePacket)) → (after_all values filed packets).service ≡ in_service packets
  service_is [] = refl
  service_is (None ∷ packets) = refl
  service_is (Some Reset ∷ packets) = refl
  service_is (Some (Direct i) ∷ packets) = service_is packets

  -- the instruction before, in service mode
  last_in_service : (b : Bool) (last i : Instruction) → (b && is_last (if b then Some last else None) i) ≡ (b && is_same last i)
  last_in_service true last i = refl
  last_in_service false last i = refl

  obeyed_is : (packets : List (Option ServicePacket)) (i : Instruction) → is_obeyed (after_all values filed packets) i ≡ (in_service packets && was_last packets i)
  obeyed_is [] i = refl
  obeyed_is (None ∷ packets) i = refl
  obeyed_is (Some Reset ∷ packets) i = refl
  obeyed_is (Some (Direct last) ∷ packets) i =
      last_in_service (after_all values filed packets).service last i
      ∙ ap (λ (b : Bool). b && is_same last i) (service_is packets)

  pub acknowledged : (packets : List (Option ServicePacket)) (i : Instruction) → acknowledges (after_all values filed packets) (some_packet i) ≡ (in_service packets && was_last packets i && is_acknowledged (after_all values filed packets) i)
  acknowledged packets i = ap (λ (b : Bool). b && is_acknowledged (after_all values filed packets) i) (obeyed_is packets i)

-- a choice of two lists that agree at an address
either_way : (b : Bool) (xs ys : List ℕ) (address n : ℕ) → get_or xs address 0 ≡ n → get_or ys address 0 ≡ n → get_or (if b then xs else ys) address 0 ≡ n
either_way true xs ys address n e f = e
either_way false xs ys address n e f = f

stored_others : (values : List ℕ) (at value address : ℕ) → (address ≡ at → ⊥) → get_or (stored values at value) address 0 ≡ get_or values address 0
stored_others values at value address other =
    either_way (is_read_only at) values _ address _ refl (rw get_or-set_other refl)

others_after : (d : CvState) (i : Instruction) (address : ℕ) → resets i ≡ false → (address ≡ address_of i → ⊥) → get_or (values_after d i) address 0 ≡ get_or d.values address 0
others_after d (VerifyByte at value) address no_reset other = refl
others_after d (VerifyBit at bit on) address no_reset other = refl
others_after d (WriteByte at value) address no_reset other = rw no_reset (stored_others d.values at value address other)
others_after d (WriteBit at bit on) address no_reset other =
    stored_others d.values at (with_bit (get_or d.values at 0) bit on) address other

pub others : (d : CvState) (i : Instruction) (address : ℕ) → resets i ≡ false → (address ≡ address_of i → ⊥) → get_or (heard d (some_packet i)).values address 0 ≡ get_or d.values address 0
others d i address no_reset other =
    either_way (is_obeyed d i) (values_after d i) d.values address _ (others_after d i address no_reset other) refl

-- a choice of the same list
either_same : (b : Bool) (xs ys : List ℕ) → xs ≡ ys → (if b then xs else ys) ≡ ys
either_same true xs ys e = e
either_same false xs ys e = refl

kept_after : (d : CvState) (i : Instruction) → resets i ≡ false → is_read_only (address_of i) ≡ true → values_after d i ≡ d.values
kept_after d (VerifyByte at value) no_reset only = refl
kept_after d (VerifyBit at bit on) no_reset only = refl
kept_after d (WriteByte at value) no_reset only = rw (no_reset, only) refl
kept_after d (WriteBit at bit on) no_reset only = rw only refl

pub kept : (d : CvState) (i : Instruction) → resets i ≡ false → is_read_only (address_of i) ≡ true → (heard d (some_packet i)).values ≡ d.values
kept d i no_reset only = either_same (is_obeyed d i) (values_after d i) d.values (kept_after d i no_reset only)

false_true : false ≡ true → ⊥
false_true e = cc

pub reset : (d : CvState) (i : Instruction) → resets i ≡ true → is_obeyed d i ≡ true → (heard d (some_packet i)).values ≡ d.filed
reset d (VerifyByte at value) is obeyed = absurd (false_true is)
reset d (VerifyBit at bit on) is obeyed = absurd (false_true is)
reset d (WriteBit at bit on) is obeyed = absurd (false_true is)
reset d (WriteByte at value) is obeyed = rw (obeyed, is) refl

pub unnamed : (d : CvState) (p : Option ServicePacket) → ((i : Instruction) → p ≡ some_packet i → ⊥) → (heard d p).values ≡ d.values
unnamed d None no_instruction = refl
unnamed d (Some Reset) no_instruction = refl
unnamed d (Some (Direct i)) no_instruction = absurd (no_instruction i refl)

pub filed_stays : (d : CvState) (p : Option ServicePacket) → (heard d p).filed ≡ d.filed
filed_stays d None = refl
filed_stays d (Some Reset) = refl
filed_stays d (Some (Direct i)) = refl
