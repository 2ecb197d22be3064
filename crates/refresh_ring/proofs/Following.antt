-- What `next_place` gives.
use Rattle.std.proofs.Common.{List, min, sym, ◌∙◌, ◌≡◌, ℕ, zero, suc, ◌+◌, ◌-◌, ◌<◌, ◌≤◌, Bool, true, false, if◌then◌else◌, Option, Some, None, MatchOption, refl, arith, inl, inr, ◌⊎◌}
use Rattle.std.specs.Option.{option_or}
use Rattle.std.proofs.lemmas.Bool.{cases_eq, cases_lt}
use Rattle.refresh_ring.specs.Places.{last_place, first_from, next_place, is_place_on}

-- q is the first of the n numbers from a on that passes
pub record IsFirst (test : ℕ → Bool) (a n q : ℕ) : Type 0 where
  pub low : a ≤ q
  pub high : q < a + n
  pub passes : test q ≡ true
  pub before : (k : ℕ) → a ≤ k → k < q → test k ≡ false

-- none of the n numbers from a on passes
pub record NonePasses (test : ℕ → Bool) (a n : ℕ) : Type 0 where
  pub fails : (k : ℕ) → a ≤ k → k < a + n → test k ≡ false

-- what holds at a and above it holds from a on
at_or_above : (test : ℕ → Bool) (a b : ℕ) → test a ≡ false → ((k : ℕ) → suc a ≤ k → k < b → test k ≡ false) → (k : ℕ) → a ≤ k → k < b → test k ≡ false
at_or_above test a b here above k low high =
    elim (cases_eq a k) [ inl e ↦ cc | inr ne ↦ above k (omega arith) high ]

-- what first_from gives, whichever it is
GivesFirst : (ℕ → Bool) → ℕ → ℕ → Option ℕ → Type 0
GivesFirst test a n o = MatchOption o (NonePasses test a n) (IsFirst test a n)

wider : (test : ℕ → Bool) (a n : ℕ) (o : Option ℕ) → test a ≡ false → GivesFirst test (suc a) n o → GivesFirst test a (suc n) o
unfolding GivesFirst
wider test a n None here h = record { fails = at_or_above test a (a + suc n) here (λ k low high. h.fails k low (omega arith)) }
wider test a n (Some q) here h = record {
  low = omega arith;
  high = omega arith;
  passes = h.passes;
  before = at_or_above test a q here h.before;
}

step : (test : ℕ → Bool) (a n : ℕ) (b : Bool) (o : Option ℕ) → test a ≡ b → GivesFirst test (suc a) n o → GivesFirst test a (suc n) (if b then Some a else o)
unfolding GivesFirst
step test a n true o here h = record { low = omega arith; high = omega arith; passes = here; before = λ k low high. absurd (omega arith) }
step test a n false o here h = wider test a n o here h

first_from-is : (test : ℕ → Bool) (a n : ℕ) → GivesFirst test a n (first_from test a n)
unfolding first_from GivesFirst
first_from-is test a zero = record { fails = λ k low high. absurd (omega arith) }
first_from-is test a (suc n) = step test a n (test a) (first_from test (suc a) n) refl (first_from-is test (suc a) n)

-- the place that is next after the cursor: the first above it, or else the first of all
pub record IsFollowing (test : ℕ → Bool) (cursor q : ℕ) : Type 0 where
  pub low : 1 ≤ q
  pub high : q ≤ last_place
  pub passes : test q ≡ true
  -- none is passed over
  pub above : (k : ℕ) → cursor < k → k ≤ last_place → (k < q) ⊎ (q ≤ cursor) → test k ≡ false
  pub below : q ≤ cursor → (k : ℕ) → 1 ≤ k → k < q → test k ≡ false

-- nothing passes
pub record NoneAtAll (test : ℕ → Bool) : Type 0 where
  pub fails : (k : ℕ) → 1 ≤ k → k ≤ last_place → test k ≡ false

next-by : (test : ℕ → Bool) (cursor : ℕ) → cursor ≤ last_place → (o p : Option ℕ) → GivesFirst test (cursor + 1) (last_place - cursor) o → GivesFirst test 1 last_place p → MatchOption (option_or o p) (NoneAtAll test) (IsFollowing test cursor)
unfolding GivesFirst
next-by test cursor in_range None None h k = record { fails = λ j low high. k.fails j low (omega arith) }
next-by test cursor in_range None (Some q) h k = record {
  low = k.low;
  high = omega arith;
  passes = k.passes;
  above = λ j low high case. h.fails j (omega arith) (omega arith);
  below = λ le j low high. k.before j low high;
}
next-by test cursor in_range (Some q) p h k = record {
  low = omega arith;
  high = omega arith;
  passes = h.passes;
  above = λ j low high case. elim case [ inl lt ↦ h.before j (omega arith) lt | inr le ↦ absurd (omega arith) ];
  below = λ le. absurd (omega arith);
}

next_place-is : (slots : List Bool) (cursor : ℕ) → cursor ≤ last_place → MatchOption (next_place slots cursor) (NoneAtAll (is_place_on slots)) (IsFollowing (is_place_on slots) cursor)
unfolding next_place GivesFirst
next_place-is slots cursor in_range =
    next-by (is_place_on slots) cursor in_range _ _ (first_from-is (is_place_on slots) (cursor + 1) (last_place - cursor)) (first_from-is (is_place_on slots) 1 last_place)

-- a cursor past all places is as good as one at the last
next_place-past : (slots : List Bool) (cursor : ℕ) → last_place ≤ cursor → next_place slots cursor ≡ option_or None (first_from (is_place_on slots) 1 last_place)
unfolding next_place first_from
next_place-past slots cursor h =
    let none : last_place - cursor ≡ 0 = omega arith in
    rw none

next_place-clipped : (slots : List Bool) (cursor : ℕ) → next_place slots cursor ≡ next_place slots (min cursor last_place)
next_place-clipped slots cursor = elim (cases_lt cursor last_place) [
  | inl lt ↦ let e : min cursor last_place ≡ cursor = omega arith in rw e
  | inr le ↦ next_place-past slots cursor le ∙ sym (next_place-past slots (min cursor last_place) (omega arith))
]

pub next_place-from : (slots : List Bool) (cursor : ℕ) → MatchOption (next_place slots cursor) (NoneAtAll (is_place_on slots)) (IsFollowing (is_place_on slots) (min cursor last_place))
next_place-from slots cursor = rw (next_place-clipped slots cursor) (next_place-is slots (min cursor last_place) (omega arith))
