-- The text that a number selects, and its length.
use Rattle.std.proofs.Common.{ℕ, zero, suc, ◌+◌, ◌≤◌, Bool, true, false, List, [], ◌∷◌, length, if◌then◌else◌, max, arith}
use Rattle.std.proofs.Math.Nat.{le-max_left, le-max_right}
use Rattle.describe.specs.Rows.{choice_text, is_bar, longest, longest_after}

first_by : (bar : Bool) (begun byte : ℕ) (text : List ℕ) (here later : ℕ) → (begun ≤ max begun here) → suc begun + length text ≤ later
    → begun + length (if bar then [] else byte ∷ text) ≤ (if bar then max begun here else later)
first_by true begun byte text here later e f = omega (arith, e)
first_by false begun byte text here later e f = omega (arith, f)

-- the first text, of which some bytes were counted before
first_length : (begun : ℕ) (texts : List ℕ) → begun + length (choice_text texts 0) ≤ longest_after begun texts
unfolding choice_text longest_after
first_length begun [] = omega arith
first_length begun (byte ∷ texts) =
    first_by (is_bar byte) begun byte (choice_text texts 0) (longest_after 0 texts) (longest_after (suc begun) texts) (le-max_left begun (longest_after 0 texts)) (first_length (suc begun) texts)

next_by : (bar : Bool) (begun : ℕ) (text other : List ℕ) (here later : ℕ) → length text ≤ here → here ≤ max begun here → length other ≤ later
    → length (if bar then text else other) ≤ (if bar then max begun here else later)
next_by true begun text other here later e f g = omega (arith, e, f)
next_by false begun text other here later e f g = g

any_length : (begun : ℕ) (texts : List ℕ) (n : ℕ) → length (choice_text texts n) ≤ longest_after begun texts
unfolding choice_text longest_after
any_length begun texts zero = omega (arith, first_length begun texts)
any_length begun [] (suc n) = omega arith
any_length begun (byte ∷ texts) (suc n) =
    next_by (is_bar byte) begun (choice_text texts n) (choice_text texts (suc n)) (longest_after 0 texts) (longest_after (suc begun) texts) (any_length 0 texts n) (le-max_right begun (longest_after 0 texts)) (any_length (suc begun) texts (suc n))

pub choice_length : (texts : List ℕ) (n : ℕ) → length (choice_text texts n) ≤ longest texts
choice_length texts n = any_length 0 texts n
