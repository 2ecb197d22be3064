-- What calls of a ring make of its slots.
use Rattle.std.proofs.Common.{◌≡◌, ◌≢◌, ◌↔◌, ℕ, zero, suc, ◌-◌, ◌&&◌, nat_le, Bool, true, false, List, [], ◌∷◌, ◌++◌, length, set, replicate, slice_index_or, refl, sym, ap, ap₂, subst, ◌∙◌, ◌⊎◌, inl, inr, arith}
use Rattle.std.specs.List.{All, Contains}
use Rattle.std.proofs.lemmas.Bool.{cases_eq}
use Rattle.std.proofs.lemmas.Bool.Decides.{nat_tests}
use Rattle.std.proofs.lemmas.List.{length-set, get_or-set_same, get_or-set_other}
use Rattle.std.proofs.lemmas.List.Elements.{All-head, All-tail, All-contains, Contains-append_right, Contains-append_cases}
use Rattle.refresh_ring.specs.Places.{IsSlot, slot_count, is_refreshed}
use Rattle.refresh_ring.specs.Calls.{IsLastOn}

abbrev pub Call : Type 0
Call = ℕ × Bool

-- the slots after these calls
abbrev pub slots_after : List Bool → List Call → List Bool
slots_after slots [] = slots
slots_after slots (call ∷ calls) = slots_after (set slots (call.0 - 1) call.1) calls

abbrev AreSlots : List Call → Type 0
AreSlots calls = All (λ call. IsSlot call.0) calls

-- no pair of the slot is in the list
abbrev IsSilent : ℕ → List Call → Type 0
IsSilent slot calls = (on : Bool) → ¬ Contains calls (slot, on)

one_pair : (call : Call) (slot : ℕ) (on : Bool) → Contains (call ∷ []) (slot, on) → call ≡ (slot, on)
one_pair call slot on (zero, low, e) = e
one_pair call slot on (suc k, low, e) = absurd (omega arith)

silent-more : (slot : ℕ) (call : Call) (calls : List Call) → call.0 ≢ slot → IsSilent slot calls → IsSilent slot (call ∷ calls)
silent-more slot call calls ne silent on there = elim (Contains-append_cases (call ∷ []) calls (slot, on) there) [
  | inl here ↦ ne (ap (λ (c : Call). c.0) (one_pair call slot on here))
  | inr later ↦ silent on later
]

silent-less : (slot : ℕ) (call : Call) (calls : List Call) → IsSilent slot (call ∷ calls) → (call.0 ≢ slot) × IsSilent slot calls
silent-less slot call calls silent =
    ((λ e. silent call.1 (0, omega arith, ap (λ n. (n, call.1)) e)), λ on there. silent on (Contains-append_right (call ∷ []) calls (slot, on) there))

module _ (slots : List Bool) (n : ℕ) (on : Bool) (whole : length slots ≡ slot_count) (is : IsSlot n) where
  set-own : is_refreshed (set slots (n - 1) on) n ≡ on
  set-own =
      let low : nat_le 1 n ≡ true = grind (arith, nat_tests) in
      rw low (get_or-set_same slots (n - 1) on false (omega (arith, is)))

  set-other : (slot : ℕ) → n ≢ slot → is_refreshed (set slots (n - 1) on) slot ≡ is_refreshed slots slot
  set-other zero ne = refl
  set-other (suc k) ne = ap (λ b. nat_le 1 (suc k) && b) (get_or-set_other slots (n - 1) (suc k - 1) on false (λ e. ne (omega (arith, is))))

-- slots without a call stay as they were
slots_after-silent : (calls : List Call) (slots : List Bool) (slot : ℕ) → length slots ≡ slot_count → AreSlots calls → IsSilent slot calls → is_refreshed (slots_after slots calls) slot ≡ is_refreshed slots slot
slots_after-silent [] slots slot whole legal silent = refl
slots_after-silent (call ∷ calls) slots slot whole legal silent =
    let less = silent-less slot call calls silent in
    slots_after-silent calls (set slots (call.0 - 1) call.1) slot (length-set slots (call.0 - 1) call.1 ∙ whole) (All-tail (λ c. IsSlot c.0) call calls legal) less.1
    ∙ set-other slots call.0 call.1 whole (All-head (λ c. IsSlot c.0) call calls legal) slot less.0

later : (slot : ℕ) (call : Call) (calls : List Call) → IsLastOn slot calls → IsLastOn slot (call ∷ calls)
later slot call calls last = record { before = call ∷ last.before; after = last.after; are = ap (λ l. call ∷ l) last.are; last = last.last }

-- a refreshed slot was last set so, or was refreshed before and has no call
on_told : (calls : List Call) (slots : List Bool) (slot : ℕ) → length slots ≡ slot_count → AreSlots calls → is_refreshed (slots_after slots calls) slot ≡ true → IsLastOn slot calls ⊎ (IsSilent slot calls × (is_refreshed slots slot ≡ true))
on_told [] slots slot whole legal h = inr ((λ on there. omega (arith, there.1)), h)
on_told (call ∷ calls) slots slot whole legal h =
    let is = All-head (λ c. IsSlot c.0) call calls legal in
    elim (on_told calls (set slots (call.0 - 1) call.1) slot (length-set slots (call.0 - 1) call.1 ∙ whole) (All-tail (λ c. IsSlot c.0) call calls legal) h) [
      | inl last ↦ inl (later slot call calls last)
      | inr still ↦ elim (cases_eq call.0 slot) [
        | inl e ↦
            let on : call.1 ≡ true = sym (set-own slots call.0 call.1 whole is) ∙ ap (is_refreshed (set slots (call.0 - 1) call.1)) e ∙ still.1 in
            inl (record { before = []; after = calls; are = ap (λ c. c ∷ calls) (pair call slot true e on); last = still.0 })
        | inr ne ↦ inr (silent-more slot call calls ne still.0, sym (set-other slots call.0 call.1 whole is slot ne) ∙ still.1)
      ]
    ]
  where
    pair : (call : Call) (slot : ℕ) (on : Bool) → call.0 ≡ slot → call.1 ≡ on → call ≡ (slot, on)
    pair call slot on e f = ap₂ (λ (n : ℕ) (b : Bool). let c : Call = (n, b) in c) e f

slots_after-append : (front back : List Call) (slots : List Bool) → slots_after slots (front ++ back) ≡ slots_after (slots_after slots front) back
slots_after-append [] back slots = refl
slots_after-append (call ∷ front) back slots = slots_after-append front back (set slots (call.0 - 1) call.1)

length-slots_after : (calls : List Call) (slots : List Bool) → length (slots_after slots calls) ≡ length slots
length-slots_after [] slots = refl
length-slots_after (call ∷ calls) slots = length-slots_after calls (set slots (call.0 - 1) call.1) ∙ length-set slots (call.0 - 1) call.1

-- a slot that was last set refreshed is refreshed
told_on : (calls : List Call) (slots : List Bool) (slot : ℕ) → length slots ≡ slot_count → AreSlots calls → IsLastOn slot calls → is_refreshed (slots_after slots calls) slot ≡ true
told_on calls slots slot whole legal last =
    let is : IsSlot slot = All-contains (λ c. IsSlot c.0) calls (slot, true) legal (subst (λ l. Contains l (slot, true)) (sym last.are) (Contains-append_right last.before ((slot, true) ∷ last.after) (slot, true) (0, omega arith, refl))) in
    let were = slots_after slots last.before in
    let full : length were ≡ slot_count = length-slots_after last.before slots ∙ whole in
    ap (λ l. is_refreshed (slots_after slots l) slot) last.are
    ∙ ap (λ s. is_refreshed s slot) (slots_after-append last.before ((slot, true) ∷ last.after) slots)
    ∙ slots_after-silent last.after (set were (slot - 1) true) slot (length-set were (slot - 1) true ∙ full) (rest_legal last.before last.after (subst AreSlots last.are legal)) last.last
    ∙ set-own were slot true full is
  where
    rest_legal : (before after : List Call) → AreSlots (before ++ (slot, true) ∷ after) → AreSlots after
    rest_legal [] after h = All-tail (λ c. IsSlot c.0) (slot, true) after h
    rest_legal (call ∷ before) after h = rest_legal before after (All-tail (λ c. IsSlot c.0) call (before ++ (slot, true) ∷ after) h)

-- after calls on an empty ring exactly the slots last set so are refreshed
pub slots_after-last : (calls : List Call) → AreSlots calls → (slot : ℕ) → (is_refreshed (slots_after (replicate slot_count false) calls) slot ≡ true) ↔ IsLastOn slot calls
slots_after-last calls legal slot = (to, told_on calls (replicate slot_count false) slot refl legal)
  where
    none : (n i : ℕ) → ◌≡◌ {A = Bool} (slice_index_or (replicate n false) i false) false
    none zero zero = refl
    none zero (suc i) = refl
    none (suc n) zero = refl
    none (suc n) (suc i) = none n i

    off : (slot : ℕ) → is_refreshed (replicate slot_count false) slot ≡ true → ⊥
    off zero h = cc
    off (suc k) h = let no : slice_index_or (replicate slot_count false) (suc k - 1) false ≡ false = none slot_count (suc k - 1) in let low : nat_le 1 (suc k) ≡ true = grind (arith, nat_tests) in cc

    to : is_refreshed (slots_after (replicate slot_count false) calls) slot ≡ true → IsLastOn slot calls
    to h = elim (on_told calls (replicate slot_count false) slot refl legal h) [
      | inl last ↦ last
      | inr still ↦ absurd (off slot still.1)
    ]
