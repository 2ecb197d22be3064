-- A text is split at the first byte that passes a test.
use Rattle.std.proofs.Common.{◌≡◌, ℕ, ◌&&◌, filter, ◌+◌, ◌<◌, ◌≤◌, ◌==◌, Bool, true, false, List, [], ◌∷◌, length, take, drop, Option, Some, None, position, cond, not, slice_index, refl, ap, sym, arith}
use Rattle.std.specs.List.{list_all, slice_split, onto_first, before_first, after_first, position_or_len}
use Rattle.std.specs.Str.Lines.{lines, lines_of_parts, strip_carriage_return}
use Rattle.std.proofs.lemmas.Grind.{common_steps}
use Rattle.std.proofs.lemmas.Bool.Decides.{nat_tests}
use Rattle.std.proofs.lemmas.Bool.{false_from_ne_true}
use Rattle.std.proofs.lemmas.List.{take_all, drop_all, take_rest}
use Rattle.std.proofs.lemmas.List.Splits.{slice_split_first}
use Rattle.std.proofs.lemmas.List.Sums.{position_or_len_is}
use Rattle.memchr.specs.Find.{IsFirstByte, is_byte}
use Rattle.text.specs.Words.{is_blank, is_word, words_of, with_piece, is_empty}

pub no_place : {X : Type 0} (p : X → Bool) (xs : List X) → position p xs ≡ None → length xs ≤ position_or_len p xs
no_place p xs h = grind (arith, nat_tests)

pub first_place : {X : Type 0} (p : X → Bool) (xs : List X) (at : ℕ) → position p xs ≡ Some at → (position_or_len p xs ≡ at) × (at < length xs)
first_place p xs at h = (grind (arith, nat_tests), grind (arith, nat_tests))

split_whole : {X : Type 0} (p : X → Bool) (xs : List X) → length xs ≤ position_or_len p xs → slice_split p xs ≡ xs ∷ []
split_whole p [] h = refl
split_whole p (x ∷ xs) h = elim (p x) as (λ passes. length (x ∷ xs) ≤ cond (not passes) (1 + position_or_len p xs) 0 → cond passes ([] ∷ slice_split p xs) (onto_first x (slice_split p xs)) ≡ (x ∷ xs) ∷ [])
    [ true ↦ λ long. absurd (omega (arith, long)) | false ↦ λ long. ap (onto_first x) (split_whole p xs (omega (arith, long))) ] h

-- a list where no element passes is one part; any other is split at the first element that passes

pub whole : {X : Type 0} (p : X → Bool) (xs : List X) → position p xs ≡ None → slice_split p xs ≡ xs ∷ []
whole p xs h = split_whole p xs (no_place p xs h)

pub split_first : {X : Type 0} (p : X → Bool) (xs : List X) (at : ℕ) → X → position p xs ≡ Some at → slice_split p xs ≡ take at xs ∷ slice_split p (drop (at + 1) xs)
split_first p xs at d h =
    let found = first_place p xs at h in
    rw (← found.0) (slice_split_first p xs d (omega arith))

-- A text with no blank is its own first piece.

pub whole-before : (text : List ℕ) → position is_blank text ≡ None → text ≡ before_first is_blank text
whole-before text h = sym (take_all (position_or_len is_blank text) text (no_place is_blank text h))

pub whole-after : (text : List ℕ) → position is_blank text ≡ None → [] ≡ after_first is_blank text
whole-after text h =
    let long = no_place is_blank text h in
    sym (drop_all (position_or_len is_blank text + 1) text (omega arith))

kept : (piece : List ℕ) (words : List (List ℕ)) → cond (is_word piece) (piece ∷ words) words ≡ with_piece piece words
kept [] words = refl
kept (b ∷ bs) words = refl

pub whole-words : (text : List ℕ) → position is_blank text ≡ None → words_of text ≡ with_piece text (words_of [])
unfolding words_of
whole-words text h = rw (whole is_blank text h) (kept text [])

-- Any other text is split at its first blank.

pub cut-before : (text : List ℕ) (at : ℕ) → position is_blank text ≡ Some at → take at text ≡ before_first is_blank text
cut-before text at h = ap (λ k. take k text) (sym (first_place is_blank text at h).0)

pub cut-after : (text : List ℕ) (at : ℕ) → position is_blank text ≡ Some at → drop (at + 1) text ≡ after_first is_blank text
cut-after text at h = ap (λ k. drop (k + 1) text) (sym (first_place is_blank text at h).0)

pub cut-words : (text : List ℕ) (at : ℕ) → position is_blank text ≡ Some at → words_of text ≡ with_piece (take at text) (words_of (drop (at + 1) text))
unfolding words_of
cut-words text at h = rw (split_first is_blank text at 0 h) (kept (take at text) _)

pub ruleset cuts = (whole-before, whole-after, whole-words, cut-before, cut-after, cut-words, take_rest)

-- the result of a memory search

pub first_is_position : (text : List ℕ) (found : Option ℕ) → IsFirstByte (is_byte 10) text found → found ≡ position (λ b. b == 10) text
first_is_position text None nowhere =
    let is : position_or_len (λ b. b == 10) text ≡ length text = position_or_len_is (λ b. b == 10) text (length text) 0 (omega arith) (λ k l. false_from_ne_true (slice_index text k == 10) (nowhere k (omega arith) l)) (λ l. absurd (omega (arith, l))) in
    grind (arith, nat_tests)
first_is_position text (Some at) first =
    let within : at < length text = first.0.high in
    let is : position_or_len (λ b. b == 10) text ≡ at = position_or_len_is (λ b. b == 10) text at 0 (omega (arith, within)) (λ k l. false_from_ne_true (slice_index text k == 10) (first.0.before k (omega arith) l)) (λ l. first.1) in
    grind (arith, nat_tests)

-- the first line of a text

pub parts_after : (x : List ℕ) (p : ℕ → Bool) (rest : List ℕ) → lines_of_parts (x ∷ slice_split p rest) ≡ strip_carriage_return x ∷ lines_of_parts (slice_split p rest)
parts_after x p [] = refl
parts_after x p (b ∷ bs) = grind (arith, common_steps)

pub line_whole : (text : List ℕ) → 0 < length text → position (λ b. b == 10) text ≡ None → lines text ≡ text ∷ []
line_whole [] some none = absurd (omega arith)
line_whole (b ∷ bs) some none = rw (whole (λ b. b == 10) (b ∷ bs) none) (grind (arith, nat_tests))

pub line_first : (text : List ℕ) (at : ℕ) → position (λ b. b == 10) text ≡ Some at → lines text ≡ strip_carriage_return (take at text) ∷ lines (drop (at + 1) text)
line_first text at h = rw (split_first (λ b. b == 10) text at 0 h) (parts_after (take at text) (λ b. b == 10) (drop (at + 1) text))

pub no_words : (line : List ℕ) → length line ≡ 0 → words_of line ≡ []
unfolding words_of
no_words [] e = refl
no_words (b ∷ bs) e = absurd (omega arith)

kept_first : (b : ℕ) (parts : List (List ℕ)) → is_empty (filter is_word (onto_first b parts)) ≡ false
kept_first b [] = refl
kept_first b (part ∷ parts) = refl

pub only_blanks : (line : List ℕ) → list_all is_blank line ≡ is_empty (words_of line)
unfolding words_of
only_blanks [] = refl
only_blanks (b ∷ bs) = elim (is_blank b) as (λ blank. (blank && list_all is_blank bs) ≡ is_empty (filter is_word (cond blank ([] ∷ slice_split is_blank bs) (onto_first b (slice_split is_blank bs)))))
    [ true ↦ only_blanks bs | false ↦ sym (kept_first b (slice_split is_blank bs)) ]

pub ruleset line_cuts = (line_whole, line_first, take_rest)
