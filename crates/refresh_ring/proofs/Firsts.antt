-- The place that the law of the ring names is the one that is computed.
use Rattle.std.proofs.Common.{◌≡◌, ℕ, zero, suc, ◌+◌, ◌-◌, ◌<◌, ◌≤◌, Bool, true, false, Option, Some, None, List, refl, arith, inl, inr, IfSome}
use Rattle.std.proofs.lemmas.Bool.{cases_eq}
use Rattle.refresh_ring.specs.Places.{IsPlace, last_place, IsRefreshed, IsNext, is_place_on, first_from, next_place}

off : (b : Bool) → ¬ (b ≡ true) → b ≡ false
off true h = absurd (h refl)
off false h = refl

off_place : (slots : List Bool) (q : ℕ) → 1 ≤ q → q ≤ last_place → ¬ IsRefreshed slots q → is_place_on slots q ≡ false
off_place slots q low high h = off (is_place_on slots q) (λ e. h (low, high, e))

-- where the first that passes is known
first_from-at : (test : ℕ → Bool) (from n p : ℕ) → from ≤ p → p < from + n → test p ≡ true → ((q : ℕ) → from ≤ q → q < p → test q ≡ false) → first_from test from n ≡ Some p
unfolding first_from
first_from-at test from zero p low high on before = absurd (omega arith)
first_from-at test from (suc n) p low high on before = elim (cases_eq from p) [
  | inl e ↦ let here : test from ≡ true = rw e on in rw (here, e) refl
  | inr ne ↦
      let here : test from ≡ false = before from (omega arith) (omega arith) in
      rw here (first_from-at test (suc from) n p (omega arith) (omega arith) on (λ q le lt. before q (omega arith) lt))
]

first_from-none : (test : ℕ → Bool) (from n : ℕ) → ((q : ℕ) → from ≤ q → q < from + n → test q ≡ false) → first_from test from n ≡ None
unfolding first_from
first_from-none test from zero h = refl
first_from-none test from (suc n) h =
    let here : test from ≡ false = h from (omega arith) (omega arith) in
    rw here (first_from-none test (suc from) n (λ q le lt. h q (omega arith) (omega arith)))

pub next_place-is : (slots : List Bool) (cursor : ℕ) (next : Option ℕ) → cursor ≤ last_place → IsNext slots cursor next → next ≡ next_place slots cursor
unfolding next_place
next_place-is slots cursor None in_range none =
    let above : first_from (is_place_on slots) (cursor + 1) (last_place - cursor) ≡ None = first_from-none (is_place_on slots) (cursor + 1) (last_place - cursor) (λ q le lt. off_place slots q (omega arith) (omega arith) (none q)) in
    let all : first_from (is_place_on slots) 1 last_place ≡ None = first_from-none (is_place_on slots) 1 last_place (λ q le lt. off_place slots q le (omega arith) (none q)) in
    rw (above, all) refl
next_place-is slots cursor (Some p) in_range (on, inl (more, between)) =
    let above : first_from (is_place_on slots) (cursor + 1) (last_place - cursor) ≡ Some p = first_from-at (is_place_on slots) (cursor + 1) (last_place - cursor) p (omega arith) (omega (arith, on.1)) on.2 (λ q le lt. off_place slots q (omega arith) (omega (arith, on.1)) (between q (omega arith) lt)) in
    rw above refl
next_place-is slots cursor (Some p) in_range (on, inr (less, none_above, none_below)) =
    let above : first_from (is_place_on slots) (cursor + 1) (last_place - cursor) ≡ None = first_from-none (is_place_on slots) (cursor + 1) (last_place - cursor) (λ q le lt. off_place slots q (omega arith) (omega arith) (none_above q (omega arith))) in
    let all : first_from (is_place_on slots) 1 last_place ≡ Some p = first_from-at (is_place_on slots) 1 last_place p on.0 (omega (arith, on.1)) on.2 (λ q le lt. off_place slots q le (omega (arith, on.1)) (none_below q lt)) in
    rw (above, all) refl

pub IsNext-in : (slots : List Bool) (cursor : ℕ) (next : Option ℕ) → IsNext slots cursor next → IfSome next IsPlace
IsNext-in slots cursor None h = tt
IsNext-in slots cursor (Some p) h = (h.0.0, h.0.1)
