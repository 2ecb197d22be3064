-- A text is split at its line feeds.
use Rattle.std.proofs.Common.{◌≡◌, ℕ, ◌+◌, ◌<◌, ◌≤◌, ◌==◌, true, false, List, [], ◌∷◌, ◌++◌, suc, length, take, drop, Some, None, position, refl, ap, sym, inl, inr, ◌∙◌, eqb-true, arith}
use Rattle.std.specs.List.{position_or_len}
use Rattle.std.proofs.lemmas.Bool.Decides.{nat_tests}
use Rattle.std.proofs.lemmas.Bool.{cases_Bool}
use Rattle.std.proofs.lemmas.List.{take_all, take_rest}
use Rattle.text.specs.Lines.{is_open}

abbrev place : List ℕ → ℕ
place text = position_or_len (λ b. b == 10) text

take-cons : (k b : ℕ) (line : List ℕ) → take (1 + k) (b ∷ line) ≡ b ∷ take k line
take-cons k b line = let e : 1 + k ≡ suc k = omega arith in ap (λ n. take n (b ∷ line)) e

drop-cons : (k b : ℕ) (line : List ℕ) → drop (1 + k + 1) (b ∷ line) ≡ drop (k + 1) line
drop-cons k b line = let e : 1 + k + 1 ≡ suc (k + 1) = omega arith in ap (λ n. drop n (b ∷ line)) e

place-end : (b : ℕ) (text : List ℕ) → (b == 10) ≡ true → place (b ∷ text) ≡ 0
place-end b text e = rw e refl

place-in : (b : ℕ) (text : List ℕ) → (b == 10) ≡ false → place (b ∷ text) ≡ 1 + place text
place-in b text e = rw e refl

-- the bytes before the first line feed end no line
open-before : (text : List ℕ) → is_open (take (place text) text) ≡ true
open-before [] = refl
open-before (b ∷ text) = elim (cases_Bool (b == 10)) [
  | inl e ↦ ap (λ k. is_open (take k (b ∷ text))) (place-end b text e)
  | inr e ↦ ap (λ k. is_open (take k (b ∷ text))) (place-in b text e) ∙ ap is_open (take-cons (place text) b text) ∙ rw e (open-before text)
]

parts-at : (text : List ℕ) → place text < length text → text ≡ take (place text) text ++ 10 ∷ drop (place text + 1) text
parts-at [] h = absurd (omega arith)
parts-at (b ∷ text) h = elim (cases_Bool (b == 10)) [
  | inl e ↦ ap (λ c. c ∷ text) (eqb-true b 10 e) ∙ sym (ap (λ k. take k (b ∷ text) ++ 10 ∷ drop (k + 1) (b ∷ text)) (place-end b text e))
  | inr e ↦
      let is : place (b ∷ text) ≡ 1 + place text = place-in b text e in
      let less : place text < length text = omega (arith, h, is) in
      ap (λ rest. b ∷ rest) (parts-at text less)
      ∙ sym (ap (λ k. take k (b ∷ text) ++ 10 ∷ drop (k + 1) (b ∷ text)) is
      ∙ ap (λ front. front ++ 10 ∷ drop (1 + place text + 1) (b ∷ text)) (take-cons (place text) b text)
      ∙ ap (λ back. b ∷ (take (place text) text ++ 10 ∷ back)) (drop-cons (place text) b text))
]

first_place : (text : List ℕ) (at : ℕ) → position (λ b. b == 10) text ≡ Some at → (place text ≡ at) × (place text < length text)
first_place text at h = (grind (arith, nat_tests), grind (arith, nat_tests))

pub no_line : (text : List ℕ) → position (λ b. b == 10) text ≡ None → is_open text ≡ true
no_line text h =
    let long : length text ≤ place text = grind (arith, nat_tests) in
    sym (ap is_open (take_all (place text) text long)) ∙ open-before text

pub line_open : (text : List ℕ) (at : ℕ) → position (λ b. b == 10) text ≡ Some at → is_open (take at text) ≡ true
line_open text at h = sym (ap (λ k. is_open (take k text)) (first_place text at h).0) ∙ open-before text

pub line_parts : (text : List ℕ) (at : ℕ) → position (λ b. b == 10) text ≡ Some at → text ≡ take at text ++ 10 ∷ drop (at + 1) text
line_parts text at h =
    let first = first_place text at h in
    parts-at text first.1 ∙ ap (λ k. take k text ++ 10 ∷ drop (k + 1) text) first.0

pub ruleset cuts = (no_line, line_open, line_parts, take_rest)
