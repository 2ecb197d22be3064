-- The change of a packet is what becomes of the variables.
use Rattle.std.proofs.Common.{◌≡◌, ℕ, zero, suc, ◌==◌, Bool, true, false, if◌then◌else◌, List, [], ◌∷◌, Option, Some, None, get_or, set, bytes_eq, refl, ap, sym, ◌∙◌, eq-eqb, eqb-true}
use Rattle.std.proofs.lemmas.Slice.Eq.{bytes_eq-Decides}
use Rattle.service_mode.specs.declared.instruction.Instruction.{Instruction}
use Rattle.service_mode.specs.declared.instruction.Instruction.TheVariants.{VerifyByte, WriteByte, VerifyBit, WriteBit}
use Rattle.service_mode.specs.declared.packet.ServicePacket.{ServicePacket}
use Rattle.service_mode.specs.declared.packet.ServicePacket.TheVariants.{Reset, Direct}
use Rattle.cv_memory.specs.declared.cv_change.CvChange.{CvChange}
use Rattle.cv_memory.specs.declared.cv_change.CvChange.TheVariants as change
use Rattle.cv_memory.specs.Changes.{after_some_change, change_between, change_by, reset_between, stored_between}
use Rattle.cv_memory.specs.Hearing.{CvState, heard, is_obeyed, is_read_only, is_reset, stored, values_after, with_bit}
use Rattle.cv_memory.specs.History.{address_of, resets}

-- what is stored is there, if the list has the address
as_stored : (xs : List ℕ) (i v : ℕ) → set xs i (get_or (set xs i v) i 0) ≡ set xs i v
as_stored [] i v = refl
as_stored (x ∷ xs) zero v = refl
as_stored (x ∷ xs) (suc i) v = ap (λ (r : List ℕ). x ∷ r) (as_stored xs i v)

-- and what was there before changes nothing
same_stored : (xs : List ℕ) (i v : ℕ) → get_or xs i 0 ≡ get_or (set xs i v) i 0 → set xs i v ≡ xs
same_stored [] i v e = refl
same_stored (x ∷ xs) zero v e = ap (λ (y : ℕ). y ∷ xs) (sym e)
same_stored (x ∷ xs) (suc i) v e = ap (λ (r : List ℕ). x ∷ r) (same_stored xs i v e)

-- nothing changes between the same values
pub none_stored : (at : ℕ) (values : List ℕ) → stored_between at values values ≡ None
none_stored at values = rw (eq-eqb (get_or values at 0) (get_or values at 0) refl) refl

pub none_between : (i : Instruction) (values : List ℕ) → change_between i values values ≡ None
none_between i values = by_test (resets i) where
  by_test : (t : Bool) → (if t then reset_between values values else stored_between (address_of i) values values) ≡ None
  by_test true = rw ((bytes_eq-Decides values values).1 refl) refl
  by_test false = none_stored (address_of i) values

module _ (filed values : List ℕ) where
  abbrev Applies : List ℕ → Option CvChange → Type 0
  Applies after one = after ≡ after_some_change filed values one

  stored_applies : (at v : ℕ) → Applies (stored values at v) (stored_between at values (stored values at v))
  stored_applies at v = by_only (is_read_only at) where
    by_value : (t : Bool) → (get_or values at 0 == get_or (set values at v) at 0) ≡ t
        → Applies (set values at v) (if t then None else Some (change.Stored at (get_or (set values at v) at 0)))
    by_value true e = same_stored values at v (eqb-true _ _ e)
    by_value false e = sym (as_stored values at v)

    by_only : (t : Bool) → Applies (if t then values else set values at v) (stored_between at values (if t then values else set values at v))
    by_only true = rw (none_stored at values) refl
    by_only false = by_value (get_or values at 0 == get_or (set values at v) at 0) refl

  reset_applies : Applies filed (reset_between values filed)
  reset_applies = by_test (bytes_eq values filed) refl where
    by_test : (t : Bool) → bytes_eq values filed ≡ t → Applies filed (if t then None else Some change.Reset)
    by_test true e = sym ((bytes_eq-Decides values filed).0 e)
    by_test false e = refl

obeyed_applies : (d : CvState) (i : Instruction) → values_after d i ≡ after_some_change d.filed d.values (change_between i d.values (values_after d i))
obeyed_applies d (VerifyByte at v) = rw (none_stored at d.values) refl
obeyed_applies d (VerifyBit at bit on) = rw (none_stored at d.values) refl
obeyed_applies d (WriteBit at bit on) = stored_applies d.filed d.values at (with_bit (get_or d.values at 0) bit on)
obeyed_applies d (WriteByte at v) = by_test (is_reset at v) where
  by_test : (t : Bool) → Applies d.filed d.values (if t then d.filed else stored d.values at v)
      (if t then reset_between d.values (if t then d.filed else stored d.values at v) else stored_between at d.values (if t then d.filed else stored d.values at v))
  by_test true = reset_applies d.filed d.values
  by_test false = stored_applies d.filed d.values at v

pub applies : (d : CvState) (p : Option ServicePacket) → (heard d p).values ≡ after_some_change d.filed d.values (change_by d p)
applies d None = refl
applies d (Some Reset) = refl
applies d (Some (Direct i)) = by_test (is_obeyed d i) where
  by_test : (t : Bool) → (if t then values_after d i else d.values) ≡ after_some_change d.filed d.values (if t then change_between i d.values (values_after d i) else None)
  by_test true = obeyed_applies d i
  by_test false = refl

pub unchanged : (d : CvState) (p : Option ServicePacket) → (heard d p).values ≡ d.values → change_by d p ≡ None
unchanged d None e = refl
unchanged d (Some Reset) e = refl
unchanged d (Some (Direct i)) e = by_test (is_obeyed d i) e where
  by_test : (t : Bool) → (if t then values_after d i else d.values) ≡ d.values → (if t then change_between i d.values (values_after d i) else None) ≡ None
  by_test true e = ap (change_between i d.values) e ∙ none_between i d.values
  by_test false e = refl
