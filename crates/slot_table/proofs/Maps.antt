-- Maps by numbers.
use Rattle.std.proofs.Common.{◌≡◌, ◌≢◌, ℕ, ◌==◌, true, false, Some, None, refl, ap, sym, ◌∙◌, inl, inr, arith}
use Rattle.std.proofs.lemmas.Bool.{cases_eq}
use Rattle.std.proofs.lemmas.Bool.Decides.{nat_tests}
use Rattle.std.specs.Ordering.{nat_cmp, eq_by_cmp}
use Rattle.std.specs.Cmp.{nat_cmp_total}
use Rattle.std.specs.FinMap.{FinMap, get, insert, remove, get-insert, get-remove, same_map, nat_cmp-IsAntisymmetric}

pub eq_same : (a b : ℕ) → a ≡ b → eq_by_cmp nat_cmp a b ≡ true
eq_same a b h = grind (arith, nat_tests)

pub eq_other : (a b : ℕ) → a ≢ b → eq_by_cmp nat_cmp a b ≡ false
eq_other a b h = grind (arith, nat_tests)

pub eq_test : (a b : ℕ) → eq_by_cmp nat_cmp a b ≡ (b == a)
eq_test a b = grind (arith, nat_tests)

-- maps that answer alike are equal
pub same : {X : Type 0} (m n : FinMap nat_cmp X) → ((q : ℕ) → get m q ≡ get n q) → m ≡ n
same m n h = same_map nat_cmp_total nat_cmp-IsAntisymmetric m n h

pub insert_at : {X : Type 0} (m : FinMap nat_cmp X) (k q : ℕ) (v : X) → q ≡ k → get (insert m k v) q ≡ Some v
insert_at m k q v e = get-insert nat_cmp_total m k v q ∙ rw (eq_same q k e) refl

pub insert_off : {X : Type 0} (m : FinMap nat_cmp X) (k q : ℕ) (v : X) → q ≢ k → get (insert m k v) q ≡ get m q
insert_off m k q v ne = get-insert nat_cmp_total m k v q ∙ rw (eq_other q k ne) refl

pub remove_at : {X : Type 0} (m : FinMap nat_cmp X) (k q : ℕ) → q ≡ k → get (remove m k) q ≡ None
remove_at m k q e = get-remove nat_cmp_total m k q ∙ rw (eq_same q k e) refl

pub remove_off : {X : Type 0} (m : FinMap nat_cmp X) (k q : ℕ) → q ≢ k → get (remove m k) q ≡ get m q
remove_off m k q ne = get-remove nat_cmp_total m k q ∙ rw (eq_other q k ne) refl

module _ {X : Type 0} (m : FinMap nat_cmp X) (k : ℕ) where
  pub remove-absent : get m k ≡ None → remove m k ≡ m
  remove-absent h = same (remove m k) m (λ q. get-remove nat_cmp_total m k q ∙ elim (cases_eq q k) [
    | inl e ↦ rw (eq_same q k e) (sym h ∙ ap (get m) (sym e))
    | inr ne ↦ rw (eq_other q k ne) refl
  ])

  pub insert-same : (v : X) → get m k ≡ Some v → insert m k v ≡ m
  insert-same v h = same (insert m k v) m (λ q. get-insert nat_cmp_total m k v q ∙ elim (cases_eq q k) [
    | inl e ↦ rw (eq_same q k e) (sym h ∙ ap (get m) (sym e))
    | inr ne ↦ rw (eq_other q k ne) refl
  ])

  pub insert-remove : (v : X) → insert (remove m k) k v ≡ insert m k v
  insert-remove v = same (insert (remove m k) k v) (insert m k v) (λ q. get-insert nat_cmp_total (remove m k) k v q ∙ elim (cases_eq q k) [
    | inl e ↦ rw (eq_same q k e) (sym (get-insert nat_cmp_total m k v q ∙ rw (eq_same q k e) refl))
    | inr ne ↦ rw (eq_other q k ne) (get-remove nat_cmp_total m k q ∙ rw (eq_other q k ne) (sym (get-insert nat_cmp_total m k v q ∙ rw (eq_other q k ne) refl)))
  ])
