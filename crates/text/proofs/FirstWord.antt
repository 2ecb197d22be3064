-- The first word of a line.
use Rattle.std.proofs.Common.{◌≡◌, ℕ, Bool, true, false, ◌&&◌, List, [], ◌∷◌, ◌++◌, length, take, drop, Option, Some, None, append-nil, get_or, filter, not, ◌-◌, refl, sym, ap, ◌∙◌, take-append-drop, arith, ◌≤◌}
use Rattle.std.specs.List.{list_all, slice_split, onto_first}
use Rattle.std.specs.Char.{is_ascii_digit}
use Rattle.std.specs.Prelude.{MatchOption}
use Rattle.std.specs.Str.{bytes_eq}
use Rattle.std.proofs.lemmas.Grind.{common_steps}
use Rattle.std.proofs.lemmas.List.{take_rest}
use Rattle.std.proofs.lemmas.Bool.Decides.{nat_tests}
use Rattle.std.proofs.lemmas.Slice.Eq.{bytes_eq-Decides}
use Rattle.text.specs.Hex.{both, digit_of, pair_of}
use Rattle.text.specs.Words.{is_blank, is_word, words_of, begins_blank, ends_word, is_first, is_one_word}
use Rattle.text.specs.Decimal.{decimal_of}

-- blanks before the first word

pub blank_first : (text : List ℕ) → begins_blank text ≡ true → words_of (drop 1 text) ≡ words_of text
unfolding words_of
blank_first [] h = cc
blank_first (b ∷ bs) h = rw h refl

pub some_first : (text : List ℕ) → begins_blank text ≡ true → 1 ≤ length text
some_first [] h = cc
some_first (b ∷ bs) h = omega arith

pub ruleset blank_steps = (blank_first, some_first, take_rest)

-- the first piece of a text
abbrev head : List (List ℕ) → List ℕ
head [] = []
head (piece ∷ pieces) = piece

head_onto : (b : ℕ) (pieces : List (List ℕ)) → head (onto_first b pieces) ≡ b ∷ head pieces
head_onto b [] = refl
head_onto b (piece ∷ pieces) = refl

-- the first piece is the one of that name where the text begins with it, and a blank or nothing
-- follows
first_piece : (name text : List ℕ) → list_all (λ b. not (is_blank b)) name ≡ true
    → bytes_eq (head (slice_split is_blank text)) name ≡ (bytes_eq (take (length name) text) name && ends_word (drop (length name) text))
first_piece [] [] h = refl
first_piece [] (t ∷ ts) h = grind (arith, common_steps, head_onto t (slice_split is_blank ts))
first_piece (x ∷ xs) [] h = refl
first_piece (x ∷ xs) (t ∷ ts) h = grind (arith, common_steps, nat_tests, head_onto t (slice_split is_blank ts), first_piece xs ts)

-- where a text begins with a word, that word is the first piece
first_word : (name text : List ℕ) → is_one_word name ≡ true → begins_blank text ≡ false → is_first name (words_of text) ≡ bytes_eq (head (slice_split is_blank text)) name
unfolding words_of
first_word [] text h e = cc
first_word (x ∷ xs) [] h e = refl
first_word (x ∷ xs) (t ∷ ts) h e = rw e (onto (slice_split is_blank ts))
  where
    onto : (pieces : List (List ℕ)) → is_first (x ∷ xs) (filter is_word (onto_first t pieces)) ≡ bytes_eq (head (onto_first t pieces)) (x ∷ xs)
    onto [] = refl
    onto (piece ∷ pieces) = refl

piece_end : (name : List ℕ) → list_all (λ b. not (is_blank b)) name ≡ true → slice_split is_blank name ≡ name ∷ []
piece_end [] h = refl
piece_end (b ∷ bs) h = grind (arith, common_steps, piece_end bs)

piece_before : (name rest : List ℕ) (blank : ℕ) → list_all (λ b. not (is_blank b)) name ≡ true → is_blank blank ≡ true → slice_split is_blank (name ++ blank ∷ rest) ≡ name ∷ slice_split is_blank rest
piece_before [] rest blank h e = rw e refl
piece_before (b ∷ bs) rest blank h e = grind (arith, common_steps, piece_before bs rest blank)

pub word_end : (name : List ℕ) → is_one_word name ≡ true → words_of name ≡ name ∷ words_of []
unfolding words_of
word_end [] h = cc
word_end (b ∷ bs) h = rw (piece_end (b ∷ bs) h) refl

pub word_before : (name rest : List ℕ) (blank : ℕ) → is_one_word name ≡ true → is_blank blank ≡ true → words_of (name ++ blank ∷ rest) ≡ name ∷ words_of rest
unfolding words_of
word_before [] rest blank h e = cc
word_before (b ∷ bs) rest blank h e = rw (piece_before (b ∷ bs) rest blank h e) refl

-- a text that begins with those bytes
joined : (text name : List ℕ) → bytes_eq (take (length name) text) name ≡ true → name ++ drop (length name) text ≡ text
joined text name first =
    let front : take (length name) text ≡ name = (bytes_eq-Decides (take (length name) text) name).0 first in
    ap (λ f. f ++ drop (length name) text) (sym front) ∙ take-append-drop (length name) text

pub no_prefix : (name text : List ℕ) → is_one_word name ≡ true → begins_blank text ≡ false → bytes_eq (take (length name) text) name ≡ false → is_first name (words_of text) ≡ false
no_prefix [] text h e none = cc
no_prefix (x ∷ xs) text h e none = first_word (x ∷ xs) text h e ∙ (first_piece (x ∷ xs) text h ∙ rw none refl)

and_no : (a : Bool) → (a && false) ≡ false
and_no true = refl
and_no false = refl

-- a longer word is another one
longer_word : (name text : List ℕ) → is_one_word name ≡ true → begins_blank text ≡ false → ends_word (drop (length name) text) ≡ false → is_first name (words_of text) ≡ false
longer_word [] text h e more = cc
longer_word (x ∷ xs) text h e more =
    let is : Bool = bytes_eq (take (length (x ∷ xs)) text) (x ∷ xs) in
    first_word (x ∷ xs) text h e ∙ (first_piece (x ∷ xs) text h ∙ (ap (λ b. is && b) more ∙ and_no is))

-- where a word ends, and what follows it
abbrev EndsIn : List ℕ → List ℕ → Type 0
EndsIn text rest = (word : List ℕ) → is_one_word word ≡ true → words_of (word ++ text) ≡ word ∷ words_of rest

pub ends_all : (text : List ℕ) → length text ≡ 0 → EndsIn text text
ends_all [] h word is = ap words_of (append-nil word) ∙ word_end word is
ends_all (b ∷ bs) h word is = absurd (omega arith)

pub ends_at_blank : (text : List ℕ) → 1 ≤ length text → is_blank (get_or text 0 0) ≡ true → EndsIn text (drop 1 text)
ends_at_blank [] some h word is = absurd (omega arith)
ends_at_blank (b ∷ bs) some h word is = word_before word bs b is h

pub goes_on : (text : List ℕ) → 1 ≤ length text → is_blank (get_or text 0 0) ≡ false → ends_word text ≡ false
goes_on [] some h = absurd (omega arith)
goes_on (b ∷ bs) some h = h

pub ruleset word_ends = (ends_all, ends_at_blank, goes_on, take_rest)

pub behind_name : {R : Type 0} (now : R → List ℕ) (name text stripped : List ℕ) (r : Option R)
    → is_one_word name ≡ true → begins_blank text ≡ false → bytes_eq (take (length name) text) name ≡ true → stripped ≡ drop (length name) text
    → MatchOption r (ends_word stripped ≡ false) (λ rest. EndsIn stripped (now rest))
    → MatchOption r (is_first name (words_of text) ≡ false) (λ rest. words_of text ≡ name ∷ words_of (now rest))
behind_name now name text stripped None h e first same more = longer_word name text h e (ap ends_word (sym same) ∙ more)
behind_name now name text stripped (Some rest) h e first same ends =
    ap words_of (sym (ap (λ s. name ++ s) same ∙ joined text name first)) ∙ ends name h

-- a pair of digits, and a single digit, hold no blank

digit-not_blank : (b n : ℕ) → digit_of b ≡ Some n → is_blank b ≡ false
digit-not_blank b n h = grind (arith, nat_tests)

pair-is_one_word : (high low n : ℕ) → both (digit_of high) (digit_of low) ≡ Some n → is_one_word (high ∷ low ∷ []) ≡ true
pair-is_one_word high low n h = parts (digit_of high) (digit_of low) refl refl h
  where
    parts : (x y : Option ℕ) → digit_of high ≡ x → digit_of low ≡ y → both x y ≡ Some n → is_one_word (high ∷ low ∷ []) ≡ true
    parts (Some i) (Some j) e f k = rw (digit-not_blank high i e, digit-not_blank low j f) refl
    parts (Some i) None e f k = cc
    parts None y e f k = cc

-- what a text says that begins with a word that writes a number, and what follows that word
abbrev BeginsWith : (List ℕ → Option ℕ) → ℕ → List ℕ → List ℕ → Type 0
BeginsWith number n text rest = (word : List ℕ) × (words_of text ≡ word ∷ words_of rest) × (number word ≡ Some n)

pub byte_first : (text behind rest : List ℕ) (byte : ℕ) → 2 ≤ length text → behind ≡ drop 2 text → both (digit_of (get_or text 0 0)) (digit_of (get_or text 1 0)) ≡ Some byte → EndsIn behind rest
    → BeginsWith pair_of byte text rest
byte_first [] behind rest byte some same h ends = absurd (omega arith)
byte_first (high ∷ []) behind rest byte some same h ends = absurd (omega arith)
byte_first (high ∷ low ∷ bs) behind rest byte some same h ends =
    (high ∷ low ∷ [], ap (λ s. words_of (high ∷ low ∷ s)) (sym same) ∙ ends (high ∷ low ∷ []) (pair-is_one_word high low byte h), h)

digit-is_one_word : (digit : ℕ) → is_ascii_digit digit ≡ true → is_one_word (digit ∷ []) ≡ true
digit-is_one_word digit h = grind (arith, nat_tests)

digit_number : (digit : ℕ) → is_ascii_digit digit ≡ true → decimal_of (digit ∷ []) ≡ Some (digit - 48)
digit_number digit h = rw h (ap Some (grind (arith, nat_tests)))

pub digit_first : (text behind rest : List ℕ) (n : ℕ) → 1 ≤ length text → behind ≡ drop 1 text → is_ascii_digit (get_or text 0 0) ≡ true → n ≡ get_or text 0 0 - 48 → EndsIn behind rest
    → BeginsWith decimal_of n text rest
digit_first [] behind rest n some same h is ends = absurd (omega arith)
digit_first (digit ∷ bs) behind rest n some same h is ends =
    (digit ∷ [], ap (λ s. words_of (digit ∷ s)) (sym same) ∙ ends (digit ∷ []) (digit-is_one_word digit h), digit_number digit h ∙ ap Some (sym is))
