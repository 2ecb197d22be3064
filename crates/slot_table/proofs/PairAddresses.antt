-- The addresses that a list of pairs stands for.
use Rattle.std.proofs.Common.{◌≡◌, ◌≢◌, ℕ, zero, suc, ◌+◌, ◌-◌, ◌<◌, ◌≤◌, true, List, [], ◌∷◌, length, map, Option, Some, None, refl, ap, sym, ◌∙◌, ◌⊎◌, inl, inr, arith}
use Rattle.std.proofs.lemmas.Bool.{cases_eq, cases_lt, false_from_ne_true}
use Rattle.std.proofs.lemmas.Bool.Decides.{nat_tests}
use Rattle.std.proofs.lemmas.List.Edits.{length-insert, get_or-insert_below, get_or-insert_at, get_or-insert_above, length-remove, get_or-remove_below, get_or-remove_above}
use Rattle.std.specs.List.{insert as insert_in, remove as remove_in}
use Rattle.std.specs.Ordering.{nat_cmp}
use Rattle.std.specs.Cmp.{nat_cmp_total}
use Rattle.std.specs.FinMap.{get, insert, remove, find, get-from_entries}
use Rattle.slot_table.specs.Entry.{IsSlot}
use Rattle.slot_table.specs.Reading.{is_same}
use Rattle.slot_table.specs.Index.{addresses_of, pair_at, IsRising, slot_with}
use Rattle.slot_table.specs.declared.pairs.Pair.{Pair}
use Rattle.slot_table.proofs.Maps.{eq_same, eq_other, same, insert_at, insert_off, remove_at, remove_off}
use Rattle.slot_table.proofs.Search.{first_from-least, first_from-nothing, find-all_slots}

abbrev pub AreApart : List Pair → Type 0
AreApart pairs = (i j : ℕ) → i < length pairs → j < length pairs → (pair_at pairs i).slot ≡ (pair_at pairs j).slot → i ≡ j

-- a pair of this slot and address is in the list
abbrev pub Stands : List Pair → ℕ → ℕ → Type 0
Stands pairs n a = (i : ℕ) × (i < length pairs) × ((pair_at pairs i).slot ≡ n) × ((pair_at pairs i).address ≡ a)

entries : List Pair → List (ℕ × ℕ)
entries pairs = map (λ (pair : Pair). (pair.slot, pair.address)) pairs

find-some : (pairs : List Pair) (n a : ℕ) → find nat_cmp n (entries pairs) ≡ Some a → Stands pairs n a
unfolding entries
find-some [] n a h = cc
find-some (pair ∷ pairs) n a h = elim (cases_eq n pair.slot) [
  | inl e ↦
      let here : find nat_cmp n (entries (pair ∷ pairs)) ≡ Some pair.address = rw (eq_same n pair.slot e) refl in
      let at : pair.address ≡ a = some_same (sym here ∙ h) in
      (0, omega arith, sym e, at)
  | inr ne ↦
      let past : find nat_cmp n (entries (pair ∷ pairs)) ≡ find nat_cmp n (entries pairs) = rw (eq_other n pair.slot ne) refl in
      let deep = find-some pairs n a (sym past ∙ h) in
      (suc deep.0, omega arith, deep.2, deep.3)
]
  where
    some_same : {x y : ℕ} → Some x ≡ Some y → x ≡ y
    some_same e = cc

pub stands : (pairs : List Pair) (n a : ℕ) → get (addresses_of pairs) n ≡ Some a → Stands pairs n a
unfolding addresses_of entries
stands pairs n a h = find-some pairs n a (sym (get-from_entries nat_cmp_total (entries pairs) n) ∙ h)

find-at : (pairs : List Pair) (i : ℕ) → AreApart pairs → i < length pairs → find nat_cmp (pair_at pairs i).slot (entries pairs) ≡ Some (pair_at pairs i).address
unfolding entries
find-at [] i apart low = absurd (omega arith)
find-at (pair ∷ pairs) zero apart low = rw (eq_same pair.slot pair.slot refl) refl
find-at (pair ∷ pairs) (suc i) apart low =
    let off : (pair_at pairs i).slot ≢ pair.slot = λ e. omega (arith, apart (suc i) 0 low (omega arith) e) in
    rw (eq_other (pair_at pairs i).slot pair.slot off) (find-at pairs i (λ i j l m e. omega (arith, apart (suc i) (suc j) (omega arith) (omega arith) e)) (omega arith))

pub get-at : (pairs : List Pair) (n a : ℕ) → AreApart pairs → Stands pairs n a → get (addresses_of pairs) n ≡ Some a
unfolding addresses_of entries
get-at pairs n a apart at =
    ap (get (addresses_of pairs)) (sym at.2)
    ∙ get-from_entries nat_cmp_total (entries pairs) (pair_at pairs at.0).slot
    ∙ find-at pairs at.0 apart at.1
    ∙ ap Some at.3

same_options : (x y : Option ℕ) → ((a : ℕ) → x ≡ Some a → y ≡ Some a) → ((a : ℕ) → y ≡ Some a → x ≡ Some a) → x ≡ y
same_options None None f g = refl
same_options None (Some b) f g = g b refl
same_options (Some a) y f g = sym (f a refl)

pub no_option : (o : Option ℕ) → ((a : ℕ) → o ≢ Some a) → o ≡ None
no_option None never = refl
no_option (Some a) never = absurd (never a refl)

-- ascending addresses are all different
pub one_address : (pairs : List Pair) → IsRising pairs → (i j : ℕ) → i < length pairs → j < length pairs → (pair_at pairs i).address ≡ (pair_at pairs j).address → i ≡ j
one_address pairs rising i j low high e = elim (cases_lt i j) [
  | inl less ↦ absurd (omega (arith, rising i j less high))
  | inr le ↦ elim (cases_lt j i) [
    | inl more ↦ absurd (omega (arith, rising j i more low))
    | inr ge ↦ omega arith
  ]
]

-- ---- the slot of an address

is_same-Some : (o : Option ℕ) (a : ℕ) → is_same o a ≡ true → o ≡ Some a
is_same-Some None a h = cc
is_same-Some (Some b) a h = grind (arith, nat_tests)

module _ (pairs : List Pair) (rising : IsRising pairs) (apart : AreApart pairs) where
  pub found-slot : (slots : (i : ℕ) → i < length pairs → IsSlot (pair_at pairs i).slot) (k a : ℕ) → k < length pairs → (pair_at pairs k).address ≡ a → Some (pair_at pairs k).slot ≡ slot_with (addresses_of pairs) a
  found-slot slots k a low at =
      let n = (pair_at pairs k).slot in
      let slot : IsSlot n = slots k low in
      let here : get (addresses_of pairs) n ≡ Some a = get-at pairs n a apart (k, low, refl, at) in
      let on : is_same (get (addresses_of pairs) n) a ≡ true = rw here (grind (arith, nat_tests)) in
      sym (find-all_slots (λ n. is_same (get (addresses_of pairs) n) a)
      ∙ first_from-least (λ n. is_same (get (addresses_of pairs) n) a) 1 119 n slot.0 (omega (arith, slot.1)) on (λ i le less. false_from_ne_true (is_same (get (addresses_of pairs) i) a) (λ yes.
      let other = stands pairs i a (is_same-Some (get (addresses_of pairs) i) a yes) in
      let one : other.0 ≡ k = one_address pairs rising other.0 k other.1 low (other.3 ∙ sym at) in
      let same_slot : i ≡ n = sym other.2 ∙ ap (λ j. (pair_at pairs j).slot) one in
      absurd (omega arith))))

  pub absent : (k a : ℕ) → ((i : ℕ) → i < k → (pair_at pairs i).address < a) → ((i : ℕ) → k ≤ i → i < length pairs → a < (pair_at pairs i).address) → (n : ℕ) → get (addresses_of pairs) n ≢ Some a
  absent k a below above n h =
      let at = stands pairs n a h in
      elim (cases_lt at.0 k) [
        | inl less ↦ omega (arith, below at.0 less, at.3)
        | inr le ↦ omega (arith, above at.0 le at.1, at.3)
      ]

  pub no_slot : (k a : ℕ) → ((i : ℕ) → i < k → (pair_at pairs i).address < a) → ((i : ℕ) → k ≤ i → i < length pairs → a < (pair_at pairs i).address) → None ≡ slot_with (addresses_of pairs) a
  no_slot k a below above =
      sym (find-all_slots (λ n. is_same (get (addresses_of pairs) n) a)
      ∙ first_from-nothing (λ n. is_same (get (addresses_of pairs) n) a) 1 119 (λ i le less. false_from_ne_true (is_same (get (addresses_of pairs) i) a) (λ yes.
      absurd (absent k a below above i (is_same-Some (get (addresses_of pairs) i) a yes)))))

-- ---- a pair leaves

-- numbers that lie as two others do are equal where those are
one_origin : (i j before after : ℕ) → (i < j → before < after) → (j < i → after < before) → before ≡ after → i ≡ j
one_origin i j before after rise fall e = elim (cases_lt i j) [
  | inl lt ↦ absurd (omega (arith, rise lt))
  | inr le ↦ elim (cases_lt j i) [
    | inl gt ↦ absurd (omega (arith, fall gt))
    | inr ge ↦ omega arith
  ]
]

module _ (pairs : List Pair) (k : ℕ) (inside : k < length pairs) where
  -- where a remaining pair was
  pub record Stood (j : ℕ) : Type 0 where
    pub at : ℕ
    pub low : at < length pairs
    pub pair : pair_at (remove_in pairs k) j ≡ pair_at pairs at
    pub moved : ((j < k) × (at ≡ j)) ⊎ ((k ≤ j) × (at ≡ j + 1))

  stood : (j : ℕ) → j < length (remove_in pairs k) → Stood j
  stood j in_range = elim (cases_lt j k) [
    | inl below ↦ record { at = j; low = omega arith; pair = get_or-remove_below pairs k _ j below inside; moved = inl (below, refl) }
    | inr above ↦ record { at = j + 1; low = omega (arith, length-remove pairs k inside); pair = get_or-remove_above pairs k _ j above inside; moved = inr (above, refl) }
  ]

  -- where a remaining pair is
  stays : (i : ℕ) → i < length pairs → i ≢ k → (j : ℕ) × (j < length (remove_in pairs k)) × (pair_at (remove_in pairs k) j ≡ pair_at pairs i)
  stays i in_range ne = elim (cases_lt i k) [
    | inl below ↦ (i, omega (arith, length-remove pairs k inside), get_or-remove_below pairs k _ i below inside)
    | inr above ↦ (
      i - 1,
      omega (arith, length-remove pairs k inside),
      get_or-remove_above pairs k _ (i - 1) (omega arith) inside ∙ ap (pair_at pairs) (let e : i - 1 + 1 ≡ i = omega arith in e),
    )
  ]

  order : (i j : ℕ) (s : Stood i) (t : Stood j) → i < j → s.at < t.at
  order i j s t lt = by_cases s.moved t.moved
    where
      by_cases : ((i < k) × (s.at ≡ i)) ⊎ ((k ≤ i) × (s.at ≡ i + 1)) → ((j < k) × (t.at ≡ j)) ⊎ ((k ≤ j) × (t.at ≡ j + 1)) → s.at < t.at
      by_cases (inl a) (inl b) = omega (arith, a, b)
      by_cases (inl a) (inr b) = omega (arith, a, b)
      by_cases (inr a) (inl b) = omega (arith, a, b)
      by_cases (inr a) (inr b) = omega (arith, a, b)

  back : (i j : ℕ) (s : Stood i) (t : Stood j) → s.at ≡ t.at → i ≡ j
  back i j s t = one_origin i j s.at t.at (order i j s t) (order j i t s)

  not_k : (j : ℕ) (s : Stood j) → s.at ≢ k
  not_k j s e = by_case s.moved
    where
      by_case : ((j < k) × (s.at ≡ j)) ⊎ ((k ≤ j) × (s.at ≡ j + 1)) → ⊥
      by_case (inl a) = omega (arith, a)
      by_case (inr a) = omega (arith, a)

  pub removed-rising : IsRising pairs → IsRising (remove_in pairs k)
  removed-rising rising i j lt high =
      let s = stood i (omega arith) in
      let t = stood j high in
      let step : (pair_at pairs s.at).address < (pair_at pairs t.at).address = rising s.at t.at (order i j s t lt) t.low in
      rw (s.pair, t.pair) step

  pub removed-slots : ((i : ℕ) → i < length pairs → IsSlot (pair_at pairs i).slot) → (i : ℕ) → i < length (remove_in pairs k) → IsSlot (pair_at (remove_in pairs k) i).slot
  removed-slots slots i in_range = let s = stood i in_range in rw s.pair (slots s.at s.low)

  pub removed-apart : AreApart pairs → AreApart (remove_in pairs k)
  removed-apart apart i j low_i low_j e =
      let s = stood i low_i in
      let t = stood j low_j in
      let same_slot : (pair_at pairs s.at).slot ≡ (pair_at pairs t.at).slot = sym (ap (λ (p : Pair). p.slot) s.pair) ∙ e ∙ ap (λ (p : Pair). p.slot) t.pair in
      back i j s t (apart s.at t.at s.low t.low same_slot)

  -- its slot has no address then, and the others keep theirs
  pub removed-addresses : AreApart pairs → (n : ℕ) → (pair_at pairs k).slot ≡ n → addresses_of (remove_in pairs k) ≡ remove (addresses_of pairs) n
  removed-addresses apart n own = same (addresses_of (remove_in pairs k)) (remove (addresses_of pairs) n) (λ q. elim (cases_eq q n) [
    | inl e ↦ no_option (get (addresses_of (remove_in pairs k)) q) (λ a h. absent q a e h) ∙ sym (remove_at (addresses_of pairs) n q e)
    | inr ne ↦ same_options (get (addresses_of (remove_in pairs k)) q) (get (addresses_of pairs) q) (λ a h. was q a h) (λ a h. is q a ne h) ∙ sym (remove_off (addresses_of pairs) n q ne)
  ])
    where
      was : (q a : ℕ) → get (addresses_of (remove_in pairs k)) q ≡ Some a → get (addresses_of pairs) q ≡ Some a
      was q a h =
          let at = stands (remove_in pairs k) q a h in
          let s = stood at.0 at.1 in
          get-at pairs q a apart (s.at, s.low, sym (ap (λ (p : Pair). p.slot) s.pair) ∙ at.2, sym (ap (λ (p : Pair). p.address) s.pair) ∙ at.3)

      absent : (q a : ℕ) → q ≡ n → get (addresses_of (remove_in pairs k)) q ≡ Some a → ⊥
      absent q a e h =
          let at = stands (remove_in pairs k) q a h in
          let s = stood at.0 at.1 in
          let own_slot : (pair_at pairs s.at).slot ≡ (pair_at pairs k).slot = sym (ap (λ (p : Pair). p.slot) s.pair) ∙ at.2 ∙ e ∙ sym own in
          not_k at.0 s (apart s.at k s.low inside own_slot)

      is : (q a : ℕ) → q ≢ n → get (addresses_of pairs) q ≡ Some a → get (addresses_of (remove_in pairs k)) q ≡ Some a
      is q a ne h =
          let at = stands pairs q a h in
          let stay = stays at.0 at.1 (λ e. ne (sym at.2 ∙ ap (λ i. (pair_at pairs i).slot) e ∙ own)) in
          get-at (remove_in pairs k) q a (removed-apart apart) (stay.0, stay.1, ap (λ (p : Pair). p.slot) stay.2 ∙ at.2, ap (λ (p : Pair). p.address) stay.2 ∙ at.3)

-- ---- a pair comes

module _ (pairs : List Pair) (k : ℕ) (le : k ≤ length pairs) (new : Pair) where
  -- where a pair other than the new one was
  pub record Shifted (j : ℕ) : Type 0 where
    pub at : ℕ
    pub low : at < length pairs
    pub pair : pair_at (insert_in pairs k new) j ≡ pair_at pairs at
    pub moved : ((j < k) × (at ≡ j)) ⊎ ((k < j) × (at + 1 ≡ j))

  here : (j : ℕ) → j ≡ k → pair_at (insert_in pairs k new) j ≡ new
  here j e = ap (pair_at (insert_in pairs k new)) e ∙ get_or-insert_at pairs k new _ le

  is_shifted : (j : ℕ) → j < length (insert_in pairs k new) → (j ≡ k) ⊎ Shifted j
  is_shifted j in_range = elim (cases_eq j k) [
    | inl e ↦ inl e
    | inr ne ↦ elim (cases_lt j k) [
      | inl below ↦ inr (record { at = j; low = omega arith; pair = get_or-insert_below pairs k new _ j below le; moved = inl (below, refl) })
      | inr above ↦ inr (record {
        at = j - 1;
        low = omega (arith, length-insert pairs k new le);
        pair = ap (pair_at (insert_in pairs k new)) (let e : j ≡ j - 1 + 1 = omega arith in e) ∙ get_or-insert_above pairs k new _ (j - 1) (omega arith) le;
        moved = inr (omega arith, omega arith);
      })
    ]
  ]

  goes : (i : ℕ) → i < length pairs → (j : ℕ) × (j < length (insert_in pairs k new)) × (pair_at (insert_in pairs k new) j ≡ pair_at pairs i)
  goes i in_range = elim (cases_lt i k) [
    | inl below ↦ (i, omega (arith, length-insert pairs k new le), get_or-insert_below pairs k new _ i below le)
    | inr above ↦ (i + 1, omega (arith, length-insert pairs k new le), get_or-insert_above pairs k new _ i above le)
  ]

  before : (i j : ℕ) (s : Shifted i) (t : Shifted j) → i < j → s.at < t.at
  before i j s t lt = by_cases s.moved t.moved
    where
      by_cases : ((i < k) × (s.at ≡ i)) ⊎ ((k < i) × (s.at + 1 ≡ i)) → ((j < k) × (t.at ≡ j)) ⊎ ((k < j) × (t.at + 1 ≡ j)) → s.at < t.at
      by_cases (inl a) (inl b) = omega (arith, a, b)
      by_cases (inl a) (inr b) = omega (arith, a, b)
      by_cases (inr a) (inl b) = omega (arith, a, b)
      by_cases (inr a) (inr b) = omega (arith, a, b)

  under : (i : ℕ) (s : Shifted i) → i < k → s.at < k
  under i s lt = by_case s.moved
    where
      by_case : ((i < k) × (s.at ≡ i)) ⊎ ((k < i) × (s.at + 1 ≡ i)) → s.at < k
      by_case (inl a) = omega (arith, a)
      by_case (inr a) = omega (arith, a)

  over : (i : ℕ) (s : Shifted i) → k < i → k ≤ s.at
  over i s lt = by_case s.moved
    where
      by_case : ((i < k) × (s.at ≡ i)) ⊎ ((k < i) × (s.at + 1 ≡ i)) → k ≤ s.at
      by_case (inl a) = omega (arith, a)
      by_case (inr a) = omega (arith, a)

  pub inserted-rising : IsRising pairs → ((i : ℕ) → i < k → (pair_at pairs i).address < new.address) → ((i : ℕ) → k ≤ i → i < length pairs → new.address < (pair_at pairs i).address) → IsRising (insert_in pairs k new)
  inserted-rising rising below above i j lt high = by_cases (is_shifted i (omega arith)) (is_shifted j high)
    where
      by_cases : (i ≡ k) ⊎ Shifted i → (j ≡ k) ⊎ Shifted j → (pair_at (insert_in pairs k new) i).address < (pair_at (insert_in pairs k new) j).address
      by_cases (inl e) (inl f) = absurd (omega arith)
      by_cases (inl e) (inr t) = let step : new.address < (pair_at pairs t.at).address = above t.at (over j t (omega arith)) t.low in rw (here i e, t.pair) step
      by_cases (inr s) (inl f) = let step : (pair_at pairs s.at).address < new.address = below s.at (under i s (omega arith)) in rw (s.pair, here j f) step
      by_cases (inr s) (inr t) = let step : (pair_at pairs s.at).address < (pair_at pairs t.at).address = rising s.at t.at (before i j s t lt) t.low in rw (s.pair, t.pair) step

  pub inserted-slots : ((i : ℕ) → i < length pairs → IsSlot (pair_at pairs i).slot) → IsSlot new.slot → (i : ℕ) → i < length (insert_in pairs k new) → IsSlot (pair_at (insert_in pairs k new) i).slot
  inserted-slots slots own i in_range = by_case (is_shifted i in_range)
    where
      by_case : (i ≡ k) ⊎ Shifted i → IsSlot (pair_at (insert_in pairs k new) i).slot
      by_case (inl e) = rw (here i e) own
      by_case (inr s) = rw s.pair (slots s.at s.low)

  module _ (apart : AreApart pairs) (alone : get (addresses_of pairs) new.slot ≡ None) where
    other_slot : (j : ℕ) (s : Shifted j) → (pair_at (insert_in pairs k new) j).slot ≢ new.slot
    other_slot j s e =
        let there : get (addresses_of pairs) new.slot ≡ Some (pair_at pairs s.at).address = get-at pairs new.slot (pair_at pairs s.at).address apart (s.at, s.low, sym (ap (λ (p : Pair). p.slot) s.pair) ∙ e, refl) in
        cc

    pub inserted-apart : AreApart (insert_in pairs k new)
    inserted-apart i j low_i low_j e = by_cases (is_shifted i low_i) (is_shifted j low_j)
      where
        by_cases : (i ≡ k) ⊎ Shifted i → (j ≡ k) ⊎ Shifted j → i ≡ j
        by_cases (inl a) (inl b) = a ∙ sym b
        by_cases (inl a) (inr t) = absurd (other_slot j t (sym e ∙ ap (λ (p : Pair). p.slot) (here i a)))
        by_cases (inr s) (inl b) = absurd (other_slot i s (e ∙ ap (λ (p : Pair). p.slot) (here j b)))
        by_cases (inr s) (inr t) = one_origin i j s.at t.at (before i j s t) (before j i t s) (apart s.at t.at s.low t.low (sym (ap (λ (p : Pair). p.slot) s.pair) ∙ e ∙ ap (λ (p : Pair). p.slot) t.pair))

    -- its slot has its address then, and the others keep theirs
    pub inserted-addresses : addresses_of (insert_in pairs k new) ≡ insert (addresses_of pairs) new.slot new.address
    inserted-addresses = same (addresses_of (insert_in pairs k new)) (insert (addresses_of pairs) new.slot new.address) (λ q. elim (cases_eq q new.slot) [
      | inl e ↦
          get-at (insert_in pairs k new) q new.address inserted-apart (k, omega (arith, length-insert pairs k new le), ap (λ (p : Pair). p.slot) (here k refl) ∙ sym e, ap (λ (p : Pair). p.address) (here k refl))
          ∙ sym (insert_at (addresses_of pairs) new.slot q new.address e)
      | inr ne ↦ same_options (get (addresses_of (insert_in pairs k new)) q) (get (addresses_of pairs) q) (λ a h. was q a ne h) (λ a h. is q a h) ∙ sym (insert_off (addresses_of pairs) new.slot q new.address ne)
    ])
      where
        was : (q a : ℕ) → q ≢ new.slot → get (addresses_of (insert_in pairs k new)) q ≡ Some a → get (addresses_of pairs) q ≡ Some a
        was q a ne h =
            let at = stands (insert_in pairs k new) q a h in
            elim (is_shifted at.0 at.1) [
              | inl e ↦ absurd (ne (sym at.2 ∙ ap (λ (p : Pair). p.slot) (here at.0 e)))
              | inr s ↦ get-at pairs q a apart (s.at, s.low, sym (ap (λ (p : Pair). p.slot) s.pair) ∙ at.2, sym (ap (λ (p : Pair). p.address) s.pair) ∙ at.3)
            ]

        is : (q a : ℕ) → get (addresses_of pairs) q ≡ Some a → get (addresses_of (insert_in pairs k new)) q ≡ Some a
        is q a h =
            let at = stands pairs q a h in
            let go = goes at.0 at.1 in
            get-at (insert_in pairs k new) q a inserted-apart (go.0, go.1, ap (λ (p : Pair). p.slot) go.2 ∙ at.2, ap (λ (p : Pair). p.address) go.2 ∙ at.3)
