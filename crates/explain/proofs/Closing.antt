-- The text before the first `]`.
use Rattle.std.proofs.Common.{◌≡◌, ℕ, ◌≤◌, Bool, List, length, take, Some, None, position, ap, sym, arith}
use Rattle.std.specs.List.{before_first, position_or_len}
use Rattle.std.proofs.lemmas.Bool.Decides.{nat_tests}
use Rattle.std.proofs.lemmas.List.{take_all, take_rest}
use Rattle.explain.specs.Brackets.{is_closing}

pub no_place : (p : ℕ → Bool) (xs : List ℕ) → position p xs ≡ None → length xs ≤ position_or_len p xs
no_place p xs h = grind (arith, nat_tests)

pub first_place : (p : ℕ → Bool) (xs : List ℕ) (at : ℕ) → position p xs ≡ Some at → position_or_len p xs ≡ at
first_place p xs at h = grind (arith, nat_tests)

pub whole-closing : (text : List ℕ) → position is_closing text ≡ None → text ≡ before_first is_closing text
whole-closing text h = sym (take_all (position_or_len is_closing text) text (no_place is_closing text h))

pub cut-closing : (text : List ℕ) (at : ℕ) → position is_closing text ≡ Some at → take at text ≡ before_first is_closing text
cut-closing text at h = ap (λ k. take k text) (sym (first_place is_closing text at h))

pub ruleset closings = (whole-closing, cut-closing, take_rest)
