-- An index stays one: its word of free slots, and its room.
use Rattle.std.proofs.Common.{◌≡◌, ◌≢◌, ℕ, suc, ◌+◌, ◌-◌, ◌^◌, ◌<◌, ◌≤◌, ◌&&◌, Bool, true, false, List, [], ◌∷◌, length, map, Option, Some, None, MatchOption, is_none, slice_index_or, refl, ap, sym, subst, ◌∙◌, inl, inr, arith, if◌then◌else◌, eqb, ne_eqb, eqb-true}
use Rattle.std.proofs.lemmas.Bool.{cases_eq, cases_lt, and_parts, or_cases}
use Rattle.std.proofs.lemmas.Bool.Decides.{nat_tests}
use Rattle.std.proofs.lemmas.Nat.Bits.{bit_at-zero, bit_at_mask_below, bit_at_mask_inside, bit_at_mask_above}
use Rattle.std.proofs.lemmas.List.{get_or-map, length-map}
use Rattle.std.proofs.lemmas.Map.Keys.{IsDistinct-cons, IsDistinct-from_apart}
use Rattle.std.proofs.lemmas.Map.Steps.{length-le_from_distinct_below}
use Rattle.std.specs.Int.{bit_at}
use Rattle.std.specs.List.{AllByRecursion, IsDistinct, list_any, insert as insert_in, remove as remove_in}
use Rattle.std.specs.Ordering.{nat_cmp}
use Rattle.std.specs.FinMap.{FinMap, get, insert, remove, empty, get-empty}
use Rattle.ln_ops.specs.Slot.{is_slot}
use Rattle.slot_table.specs.Entry.{IsSlot}
use Rattle.slot_table.specs.Index.{addresses_of, pair_at, bit_of, IsIndex, IsLeastBit, first_free, with_address}
use Rattle.slot_table.specs.declared.pairs.Pair.{Pair}
use Rattle.slot_table.proofs.Maps.{insert_at, insert_off, remove_at, remove_off, remove-absent, insert-same, insert-remove}
use Rattle.slot_table.proofs.Search.{first_from-least, first_from-nothing, find-all_slots}
use Rattle.slot_table.proofs.PairAddresses.{one_address, stands, get-at, removed-rising, removed-slots, removed-apart, removed-addresses, inserted-rising, inserted-slots, inserted-apart, inserted-addresses}

-- ---- the word of free slots

bit_true : (b : Bool) → bit_of b ≡ 1 → b ≡ true
bit_true true h = refl
bit_true false h = absurd (omega arith)

bit_false : (b c : Bool) → c ≡ true → bit_of (c && b) ≡ 0 → b ≡ false
bit_false true true e h = absurd (omega arith)
bit_false false c e h = refl
bit_false true false e h = cc

in_slots : (n : ℕ) → 1 ≤ n → n ≤ 119 → is_slot n ≡ true
in_slots n low high = grind (arith, nat_tests)

slots_in : (n : ℕ) → is_slot n ≡ true → (1 ≤ n) × (n ≤ 119)
slots_in n h = grind (arith, nat_tests)

module _ (pairs : List Pair) (free : ℕ) (index : IsIndex pairs free) where
  zero_bit : (i : ℕ) → 1 ≤ i → i ≤ 119 → bit_at free i ≡ 0 → is_none (get (addresses_of pairs) i) ≡ false
  zero_bit i low high off = bit_false (is_none (get (addresses_of pairs) i)) (is_slot i) (in_slots i low high) (sym (index.bits i (omega arith)) ∙ off)

  pub least-first_free : (o : Option ℕ) → MatchOption o (free ≡ 0) (IsLeastBit free) → o ≡ first_free (addresses_of pairs)
  least-first_free None none =
      sym (find-all_slots (λ n. is_none (get (addresses_of pairs) n))
      ∙ first_from-nothing (λ n. is_none (get (addresses_of pairs) n)) 1 119 (λ i low high. zero_bit i low (omega arith) (ap (λ (w : ℕ). bit_at w i) none ∙ bit_at-zero i)))
  least-first_free (Some n) is =
      let on = bit_true (is_slot n && is_none (get (addresses_of pairs) n)) (sym (index.bits n is.within) ∙ is.here) in
      let parts = and_parts (is_slot n) (is_none (get (addresses_of pairs) n)) on in
      let slot = slots_in n parts.0 in
      sym (find-all_slots (λ n. is_none (get (addresses_of pairs) n))
      ∙ first_from-least (λ n. is_none (get (addresses_of pairs) n)) 1 119 n slot.0 (omega (arith, slot.1)) parts.1 (λ i low below. zero_bit i low (omega (arith, slot.1)) (is.below i below)))

-- a slot's bit follows its place
set-bits : (old new : FinMap nat_cmp ℕ) (free word n : ℕ) (on : Bool) → IsSlot n → is_none (get new n) ≡ on → ((q : ℕ) → q ≢ n → get new q ≡ get old q)
    → ((q : ℕ) → q < 128 → bit_at free q ≡ bit_of (is_slot q && is_none (get old q)))
    → bit_at word n ≡ (if on then 1 else 0) → ((q : ℕ) → q < 128 → q ≢ n → bit_at word q ≡ bit_at free q)
    → (q : ℕ) → q < 128 → bit_at word q ≡ bit_of (is_slot q && is_none (get new q))
set-bits old new free word n on is here away bits same others q within = elim (cases_eq q n) [
  | inl e ↦ ap (bit_at word) e ∙ same ∙ own on ∙ sym (rw (e, in_slots n is.0 is.1, here) refl)
  | inr ne ↦ others q within ne ∙ bits q within ∙ ap (λ (o : Option ℕ). bit_of (is_slot q && is_none o)) (sym (away q ne))
]
  where
    own : (b : Bool) → ◌≡◌ {A = ℕ} (if b then 1 else 0) (bit_of b)
    own true = refl
    own false = refl

-- ---- an empty index

pub empty-index : (pairs : List Pair) → pairs ≡ [] → IsIndex pairs (2 ^ 120 - 2 ^ 1)
unfolding addresses_of
empty-index pairs none = rw none (record {
  rising = λ i j lt high. absurd (omega arith);
  slots = λ i low. absurd (omega arith);
  apart = λ i j low high e. absurd (omega arith);
  bits = λ n within. elim (cases_lt n 1) [
    | inl below ↦ bit_at_mask_below 1 120 n below ∙ sym (rw (not_slot n (λ is. omega (arith, is))) refl)
    | inr low ↦ elim (cases_lt n 120) [
      | inl high ↦ bit_at_mask_inside 1 120 n low high ∙ sym (rw (in_slots n low (omega arith), nothing n) refl)
      | inr above ↦ bit_at_mask_above 1 120 n above ∙ sym (rw (not_slot n (λ is. omega (arith, is))) refl)
    ]
  ];
})
  where
    nothing : (n : ℕ) → get (addresses_of []) n ≡ None
    nothing n = get-empty nat_cmp n

    not_slot : (n : ℕ) → ¬ (IsSlot n) → is_slot n ≡ false
    not_slot n h = grind (arith, nat_tests)

pub empty-addresses : (pairs : List Pair) → pairs ≡ [] → addresses_of pairs ≡ empty
unfolding addresses_of
empty-addresses pairs none = rw none refl

-- ---- room for one more

all_slots_of : List Pair → List ℕ
all_slots_of pairs = map (λ (pair : Pair). pair.slot) pairs

module _ (pairs : List Pair) (free : ℕ) (index : IsIndex pairs free) where
  slot_in : (i d : ℕ) → i < length pairs → slice_index_or (all_slots_of pairs) i d ≡ (pair_at pairs i).slot
  unfolding all_slots_of
  slot_in i d low = get_or-map (λ (pair : Pair). pair.slot) pairs i _ d low

  length_slots : length (all_slots_of pairs) ≡ length pairs
  unfolding all_slots_of
  length_slots = length-map pairs (λ (pair : Pair). pair.slot)

  pub few : (n : ℕ) → IsSlot n → get (addresses_of pairs) n ≡ None → length pairs + 1 ≤ 119
  unfolding all_slots_of
  few n is none = omega (arith, length_slots, length-le_from_distinct_below (0 ∷ n ∷ all_slots_of pairs) 120 distinct below)
    where
      apart : IsDistinct eqb (all_slots_of pairs)
      apart = IsDistinct-from_apart eqb (all_slots_of pairs) (λ i j d lt high.
          let low_j : j < length pairs = omega (arith, length_slots) in
          let low_i : i < length pairs = omega arith in
          ne_eqb (slice_index_or (all_slots_of pairs) i d) (slice_index_or (all_slots_of pairs) j d) (λ e.
          let same : i ≡ j = index.apart i j low_i low_j (sym (slot_in i d low_i) ∙ e ∙ slot_in j d low_j) in
          omega arith))

      at_slot : (q : ℕ) → list_any (eqb q) (all_slots_of pairs) ≡ true → (i : ℕ) × (i < length pairs) × ((pair_at pairs i).slot ≡ q)
      at_slot q any = find_in pairs any
        where
          find_in : (ps : List Pair) → list_any (eqb q) (all_slots_of ps) ≡ true → (i : ℕ) × (i < length ps) × ((pair_at ps i).slot ≡ q)
          find_in [] any = cc
          find_in (p ∷ ps) any = elim (or_cases (eqb q p.slot) (list_any (eqb q) (all_slots_of ps)) any) [
            | inl e ↦ (0, omega arith, sym (eqb-true q p.slot e))
            | inr later ↦ let deep = find_in ps later in (suc deep.0, omega arith, deep.2)
          ]

      differ : (q : ℕ) → ((i : ℕ) → i < length pairs → (pair_at pairs i).slot ≢ q) → AllByRecursion (λ y. eqb q y ≡ false) (all_slots_of pairs)
      differ q other = from pairs (λ i low. other i low)
        where
          from : (ps : List Pair) → ((i : ℕ) → i < length ps → (pair_at ps i).slot ≢ q) → AllByRecursion (λ y. eqb q y ≡ false) (all_slots_of ps)
          from [] h = tt
          from (p ∷ ps) h = (ne_eqb q p.slot (λ e. h 0 (omega arith) (sym e)), from ps (λ i low. h (suc i) (omega arith)))

      distinct : IsDistinct eqb (0 ∷ n ∷ all_slots_of pairs)
      distinct =
          IsDistinct-cons eqb 0 (n ∷ all_slots_of pairs)
          (ne_eqb 0 n (λ e. omega (arith, is)), differ 0 (λ i low e. omega (arith, index.slots i low)))
          (IsDistinct-cons eqb n (all_slots_of pairs) (differ n (λ i low e.
          let there = get-at pairs n (pair_at pairs i).address index.apart (i, low, e, refl) in
          let clash : ◌≡◌ {A = Option ℕ} None (Some (pair_at pairs i).address) = sym none ∙ there in
          cc)) apart)

      below : (q : ℕ) → list_any (eqb q) (0 ∷ n ∷ all_slots_of pairs) ≡ true → q < 120
      below q any = elim (or_cases (eqb q 0) (list_any (eqb q) (n ∷ all_slots_of pairs)) any) [
        | inl e ↦ let same : q ≡ 0 = eqb-true q 0 e in omega arith
        | inr more ↦ elim (or_cases (eqb q n) (list_any (eqb q) (all_slots_of pairs)) more) [
          | inl e ↦ let same : q ≡ n = eqb-true q n e in omega (arith, is)
          | inr later ↦ let at = at_slot q later in omega (arith, index.slots at.0 at.1, at.2)
        ]
      ]

-- ---- the slot gets another address, or none

-- the pair of a slot's address names the slot
pub own_slot : (pairs : List Pair) (free : ℕ) → IsIndex pairs free → (k n a : ℕ) → k < length pairs → (pair_at pairs k).address ≡ a → get (addresses_of pairs) n ≡ Some a → (pair_at pairs k).slot ≡ n
own_slot pairs free index k n a low there at =
    let found = stands pairs n a at in
    let one : k ≡ found.0 = one_address pairs index.rising k found.0 low found.1 (there ∙ sym found.3) in
    ap (λ i. (pair_at pairs i).slot) one ∙ found.2

module _ (pairs : List Pair) (free word : ℕ) (index : IsIndex pairs free) where
  pub removed-index : (k n a : ℕ) → k < length pairs → get (addresses_of pairs) n ≡ Some a → (pair_at pairs k).slot ≡ n
      → bit_at word n ≡ 1 → ((q : ℕ) → q < 128 → q ≢ n → bit_at word q ≡ bit_at free q) → IsIndex (remove_in pairs k) word
  removed-index k n a low at own same others = record {
    rising = removed-rising pairs k low index.rising;
    slots = removed-slots pairs k low index.slots;
    apart = removed-apart pairs k low index.apart;
    bits =
        set-bits (addresses_of pairs) (addresses_of (remove_in pairs k)) free word n true (subst IsSlot own (index.slots k low))
        (ap (λ (m : FinMap nat_cmp ℕ). is_none (get m n)) (removed-addresses pairs k low index.apart n own) ∙ ap (λ (o : Option ℕ). is_none o) (remove_at (addresses_of pairs) n n refl))
        (λ q ne. ap (λ (m : FinMap nat_cmp ℕ). get m q) (removed-addresses pairs k low index.apart n own) ∙ remove_off (addresses_of pairs) n q ne)
        index.bits same others;
  }

  pub inserted-index : (k : ℕ) (new : Pair) → k ≤ length pairs → IsSlot new.slot → get (addresses_of pairs) new.slot ≡ None
      → ((i : ℕ) → i < k → (pair_at pairs i).address < new.address) → ((i : ℕ) → k ≤ i → i < length pairs → new.address < (pair_at pairs i).address)
      → bit_at word new.slot ≡ 0 → ((q : ℕ) → q < 128 → q ≢ new.slot → bit_at word q ≡ bit_at free q) → IsIndex (insert_in pairs k new) word
  inserted-index k new le is none below above same others = record {
    rising = inserted-rising pairs k le new index.rising below above;
    slots = inserted-slots pairs k le new index.slots is;
    apart = inserted-apart pairs k le new index.apart none;
    bits =
        set-bits (addresses_of pairs) (addresses_of (insert_in pairs k new)) free word new.slot false is
        (ap (λ (m : FinMap nat_cmp ℕ). is_none (get m new.slot)) (inserted-addresses pairs k le new index.apart none) ∙ ap (λ (o : Option ℕ). is_none o) (insert_at (addresses_of pairs) new.slot new.slot new.address refl))
        (λ q ne. ap (λ (m : FinMap nat_cmp ℕ). get m q) (inserted-addresses pairs k le new index.apart none) ∙ insert_off (addresses_of pairs) new.slot q new.address ne)
        index.bits same others;
  }

-- a slot keeps what it had
pub with_address-same : (addresses : FinMap nat_cmp ℕ) (n : ℕ) (o : Option ℕ) → get addresses n ≡ o → addresses ≡ with_address addresses n o
with_address-same addresses n None e = sym (remove-absent addresses n e)
with_address-same addresses n (Some a) e = sym (insert-remove addresses n a ∙ insert-same addresses n a e)

-- what a slot has after it lost its place is what it has after a change at once
pub with_address-twice : (addresses : FinMap nat_cmp ℕ) (n a : ℕ) → with_address (with_address addresses n None) n (Some a) ≡ with_address addresses n (Some a)
with_address-twice addresses n a = ap (λ (m : FinMap nat_cmp ℕ). insert m n a) (remove-absent (remove addresses n) n (remove_at addresses n n refl))

pub with_address-free : (addresses : FinMap nat_cmp ℕ) (n a : ℕ) → get addresses n ≡ None → insert addresses n a ≡ with_address addresses n (Some a)
with_address-free addresses n a none = ap (λ (m : FinMap nat_cmp ℕ). insert m n a) (sym (remove-absent addresses n none))

-- an address that was in one slot only is in none after it left
pub left_alone : (addresses : FinMap nat_cmp ℕ) (n a : ℕ) → ((k : ℕ) → get addresses k ≡ Some a → k ≡ n) → (m : ℕ) → get (remove addresses n) m ≢ Some a
left_alone addresses n a one m h = elim (cases_eq m n) [
  | inl e ↦ let absent = remove_at addresses n m e in let clash : ◌≡◌ {A = Option ℕ} None (Some a) = sym absent ∙ h in cc
  | inr ne ↦ ne (one m (sym (remove_off addresses n m ne) ∙ h))
]
