-- The ring of words of bits.
use Rattle.std.proofs.Common.{◌≡◌, ℕ, zero, suc, ◌+◌, ◌-◌, ◌*◌, ◌<◌, ◌≤◌, nat_le, ◌%◌, ◌/◌, Bool, true, false, List, replicate, set, Option, Some, None, MatchOption, slice_index_or, refl, sym, ◌∙◌, inl, inr, arith, eq-eqb, eqb-true}
use Rattle.std.proofs.lemmas.Bool.{cases_eq, cases_lt, both_ways}
use Rattle.std.proofs.lemmas.Bool.Decides.{nat_tests}
use Rattle.std.proofs.lemmas.List.{same_lists, length-set, get_or-set_same, get_or-set_other}
use Rattle.std.proofs.lemmas.List.FromFn.{length-map-range_with_len, get_or-map-range_with_len}
use Rattle.std.proofs.lemmas.Nat.Bits.{bit_at-zero}
use Rattle.refresh_ring.specs.Places.{IsSlot, IsPlace, slot_count, last_place, IsRefreshed, IsNext, slot_of, is_refreshed, is_place_on}
use Rattle.refresh_ring.specs.Words.{word_count, bit_of, is_in, slots_in, IsSpread}

slot_bit : (words : List ℕ) (k n : ℕ) (d : Bool) → k < slot_count → 1 + k ≡ n → slice_index_or (slots_in words) k d ≡ is_in words n
unfolding slots_in
slot_bit words k n d low e = get_or-map-range_with_len (is_in words) 1 slot_count k n d low e

-- a slot is refreshed where its first place is in
pub refreshed-is : (words : List ℕ) (slot : ℕ) → IsSlot slot → is_in words slot ≡ is_refreshed (slots_in words) slot
refreshed-is words slot is =
    let low : nat_le 1 slot ≡ true = grind (arith, nat_tests) in
    sym (rw low (slot_bit words (slot - 1) slot false (omega (arith, is)) (omega (arith, is))))

-- ---- no place

no_bit : (n i : ℕ) → ◌≡◌ {A = ℕ} (slice_index_or (replicate n 0) i 0) 0
no_bit zero zero = refl
no_bit zero (suc i) = refl
no_bit (suc n) zero = refl
no_bit (suc n) (suc i) = no_bit n i

pub empty-out : (n : ℕ) → is_in (replicate word_count 0) n ≡ false
empty-out n =
    let none : bit_of (replicate word_count 0) n ≡ 0 = rw (no_bit word_count (n / 64)) (bit_at-zero (n % 64)) in
    rw none refl

pub empty-spread : IsSpread (replicate word_count 0)
empty-spread = record { together = λ place is. empty-out place ∙ sym (empty-out (slot_of place)); places = λ n not. empty-out n }

pub empty-slots : slots_in (replicate word_count 0) ≡ replicate slot_count false
unfolding slots_in
empty-slots = refl

-- ---- a slot is said to be refreshed or not

-- the places of the slot were put in or taken out, and no others
module _ (old new : List ℕ) (slot : ℕ) (on : Bool) (is : IsSlot slot)
    (own : (place : ℕ) → IsPlace place → slot_of place ≡ slot → is_in new place ≡ on)
    (others : (n : ℕ) → ¬ (IsPlace n × (slot_of n ≡ slot)) → is_in new n ≡ is_in old n) where
  pub set-spread : IsSpread old → IsSpread new
  set-spread was = record {
    together = λ q place.
        let first : IsPlace (slot_of q) = (omega arith, omega arith) in
        let same : slot_of (slot_of q) ≡ slot_of q = omega arith in
        elim (cases_eq (slot_of q) slot) [
          | inl e ↦ own q place e ∙ sym (own (slot_of q) first (same ∙ e))
          | inr ne ↦ others q (λ both. ne both.1) ∙ was.together q place ∙ sym (others (slot_of q) (λ both. ne (sym same ∙ both.1)))
        ];
    places = λ n not. others n (λ both. not both.0) ∙ was.places n not;
  }

  pub set-slots : slots_in new ≡ set (slots_in old) (slot - 1) on
  unfolding slots_in
  set-slots = same_lists (slots_in new) (set (slots_in old) (slot - 1) on)
      (length-map-range_with_len (is_in new) 1 slot_count ∙ sym (length-set (slots_in old) (slot - 1) on ∙ length-map-range_with_len (is_in old) 1 slot_count))
      (λ k d low.
      let below : k < slot_count = omega (arith, length-map-range_with_len (is_in new) 1 slot_count) in
      slot_bit new k (1 + k) d below refl ∙ elim (cases_eq k (slot - 1)) [
        | inl e ↦
            own (1 + k) (omega arith, omega arith) (omega (arith, is))
            ∙ sym (rw e (get_or-set_same (slots_in old) (slot - 1) on d (omega (arith, is, length-map-range_with_len (is_in old) 1 slot_count))))
        | inr ne ↦
            others (1 + k) (λ both. ne (omega (arith, is, both.1)))
            ∙ sym (get_or-set_other (slots_in old) (slot - 1) k on d ne ∙ slot_bit old k (1 + k) d below refl)
      ])

-- ---- the next place

module _ (words : List ℕ) (is : IsSpread words) where
  place_on : (q : ℕ) → IsPlace q → is_place_on (slots_in words) q ≡ is_in words q
  place_on q place = sym (refreshed-is words (slot_of q) (omega arith, omega arith)) ∙ sym (is.together q place)

  on : (q : ℕ) → bit_of words q ≡ 1 → IsRefreshed (slots_in words) q
  on q one =
      let inside : is_in words q ≡ true = eq-eqb (bit_of words q) 1 one in
      let place = place_if q inside in
      (place.0, place.1, place_on q place ∙ inside)
    where
      place_if : (q : ℕ) → is_in words q ≡ true → IsPlace q
      place_if q h = elim (cases_lt q 1) [
        | inl low ↦ absurd (both_ways (is_in words q) (is.places q (λ p. omega (arith, p.0))) h)
        | inr some ↦ elim (cases_lt last_place q) [
          | inl high ↦ absurd (both_ways (is_in words q) (is.places q (λ p. omega (arith, p.1))) h)
          | inr le ↦ (some, le)
        ]
      ]

  off : (q : ℕ) → bit_of words q ≡ 0 → ¬ IsRefreshed (slots_in words) q
  off q none refreshed =
      let inside : is_in words q ≡ true = sym (place_on q (refreshed.0, refreshed.1)) ∙ refreshed.2 in
      let one : bit_of words q ≡ 1 = eqb-true (bit_of words q) 1 inside in
      omega arith

  -- the least place from a number on
  abbrev IsLeastFrom : ℕ → Option ℕ → Type 0
  IsLeastFrom from least = MatchOption least ((q : ℕ) → from ≤ q → q < 64 * word_count → bit_of words q ≡ 0) (λ p. (from ≤ p) × (p < 64 * word_count) × (bit_of words p ≡ 1) × ((q : ℕ) → from ≤ q → q < p → bit_of words q ≡ 0))

  pub next-above : (cursor p : ℕ) → IsLeastFrom (cursor + 1) (Some p) → IsNext (slots_in words) cursor (Some p)
  next-above cursor p (from, low, one, between) = (on p one, inl (omega arith, λ q more less. off q (between q (omega arith) less)))

  pub next-around : (cursor : ℕ) (next : Option ℕ) → IsLeastFrom (cursor + 1) None → IsLeastFrom 0 next → IsNext (slots_in words) cursor next
  next-around cursor None above none = λ q refreshed. off q (none q (omega arith) (omega (arith, refreshed.1))) refreshed
  next-around cursor (Some p) above (from, low, one, before) =
      (on p one, inr (under, (λ q more refreshed. off q (above q (omega arith) (omega (arith, refreshed.1))) refreshed), λ q less. off q (before q (omega arith) less)))
    where
      under : p ≤ cursor
      under = elim (cases_lt cursor p) [
        | inl more ↦ let none : bit_of words p ≡ 0 = above p (omega arith) low in absurd (omega arith)
        | inr le ↦ le
      ]
