-- The eleven fields of slot data.
use Rattle.std.proofs.Common.{◌≡◌, ℕ, List, [], ◌∷◌, ◌++◌, length, refl, subst, sym, arith}
use Rattle.std.specs.Prelude.{slice_index}
use Rattle.ln_ops.specs.Message.{fields_of}

abbrev pub eleven : List ℕ → List ℕ
eleven fields = slice_index fields 0 ∷ slice_index fields 1 ∷ slice_index fields 2 ∷ slice_index fields 3 ∷ slice_index fields 4 ∷ slice_index fields 5 ∷ slice_index fields 6 ∷ slice_index fields 7 ∷ slice_index fields 8 ∷ slice_index fields 9 ∷ slice_index fields 10 ∷ []

pub is_eleven : (fields : List ℕ) → length fields ≡ 11 → fields ≡ eleven fields
is_eleven [] count = absurd (omega (arith, count))
is_eleven (a0 ∷ []) count = absurd (omega (arith, count))
is_eleven (a0 ∷ a1 ∷ []) count = absurd (omega (arith, count))
is_eleven (a0 ∷ a1 ∷ a2 ∷ []) count = absurd (omega (arith, count))
is_eleven (a0 ∷ a1 ∷ a2 ∷ a3 ∷ []) count = absurd (omega (arith, count))
is_eleven (a0 ∷ a1 ∷ a2 ∷ a3 ∷ a4 ∷ []) count = absurd (omega (arith, count))
is_eleven (a0 ∷ a1 ∷ a2 ∷ a3 ∷ a4 ∷ a5 ∷ []) count = absurd (omega (arith, count))
is_eleven (a0 ∷ a1 ∷ a2 ∷ a3 ∷ a4 ∷ a5 ∷ a6 ∷ []) count = absurd (omega (arith, count))
is_eleven (a0 ∷ a1 ∷ a2 ∷ a3 ∷ a4 ∷ a5 ∷ a6 ∷ a7 ∷ []) count = absurd (omega (arith, count))
is_eleven (a0 ∷ a1 ∷ a2 ∷ a3 ∷ a4 ∷ a5 ∷ a6 ∷ a7 ∷ a8 ∷ []) count = absurd (omega (arith, count))
is_eleven (a0 ∷ a1 ∷ a2 ∷ a3 ∷ a4 ∷ a5 ∷ a6 ∷ a7 ∷ a8 ∷ a9 ∷ []) count = absurd (omega (arith, count))
is_eleven (a0 ∷ a1 ∷ a2 ∷ a3 ∷ a4 ∷ a5 ∷ a6 ∷ a7 ∷ a8 ∷ a9 ∷ a10 ∷ []) count = refl
is_eleven (a0 ∷ a1 ∷ a2 ∷ a3 ∷ a4 ∷ a5 ∷ a6 ∷ a7 ∷ a8 ∷ a9 ∷ a10 ∷ more ∷ fields) count = absurd (omega (arith, count))

-- the check byte is none of them
pub without_check : (fields : List ℕ) (check : ℕ) → length fields ≡ 11 → fields_of (239 ∷ 14 ∷ (fields ++ check ∷ [])) ≡ fields_of (239 ∷ 14 ∷ fields)
without_check fields check count = subst (λ (list : List ℕ). fields_of (239 ∷ 14 ∷ (list ++ check ∷ [])) ≡ fields_of (239 ∷ 14 ∷ list)) (sym (is_eleven fields count)) refl
