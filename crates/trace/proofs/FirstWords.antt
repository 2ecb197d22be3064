-- The first word of a text, and the text after it.
use Rattle.std.proofs.Common.{◌≡◌, ℕ, ◌+◌, ◌-◌, ◌≤◌, ◌==◌, List, [], length, drop_of_length-le, take, drop, Some, None, position, refl, sym, arith}
use Rattle.std.specs.List.{position_or_len}
use Rattle.std.proofs.lemmas.Bool.Decides.{nat_tests}
use Rattle.std.proofs.lemmas.List.{take_all}
use Rattle.std.proofs.lemmas.List.{take_rest}
use Rattle.trace.specs.Node.{rest_after, word_of}

taken : (text : List ℕ) → length text ≤ position_or_len (λ b. b == 32) text → take (position_or_len (λ b. b == 32) text) text ≡ text
taken text long = take_all (position_or_len (λ b. b == 32) text) text long

pub word_at : (text : List ℕ) (at : ℕ) → position (λ b. b == 32) text ≡ Some at → take at text ≡ word_of text
unfolding word_of
word_at text at h =
    let place : position_or_len (λ b. b == 32) text ≡ at = grind (arith, nat_tests) in
    rw place refl

pub word_alone : (text : List ℕ) → position (λ b. b == 32) text ≡ None → text ≡ word_of text
unfolding word_of
word_alone text h =
    let long : length text ≤ position_or_len (λ b. b == 32) text = grind (arith, nat_tests) in
    rw (taken text long) refl

pub behind_at : (text : List ℕ) (at : ℕ) → position (λ b. b == 32) text ≡ Some at → take (length text - (at + 1)) (drop (at + 1) text) ≡ rest_after text
unfolding rest_after
behind_at text at h =
    let place : position_or_len (λ b. b == 32) text ≡ at = grind (arith, nat_tests) in
    rw place (take_rest text (at + 1))

pub behind_alone : (text : List ℕ) → position (λ b. b == 32) text ≡ None → [] ≡ rest_after text
unfolding rest_after
behind_alone text h =
    let long : length text ≤ position_or_len (λ b. b == 32) text = grind (arith, nat_tests) in
    let past : length text ≤ position_or_len (λ b. b == 32) text + 1 = omega (arith, long) in
    sym (drop_of_length-le text past)

pub ruleset word_cuts = (word_at, word_alone, behind_at, behind_alone)
