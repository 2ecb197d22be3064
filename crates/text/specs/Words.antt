-- The words of a text. The tab as a blank is a rule of this project.
use Rattle.std.specs.Prelude.{ℕ, Bool, true, false, ◌&&◌, ◌||◌, ◌==◌, not, List, [], ◌∷◌, filter, Option, Some, None, Result, Ok, Err}
use Rattle.std.specs.List.{list_all, slice_split}
use Rattle.std.specs.Str.{bytes_eq}
use Rattle.text.specs.declared.words.WordError.{WordError}
use Rattle.text.specs.declared.words.WordError.TheVariants.{Missing, Invalid}

-- a space or a tab
abbrev pub is_blank : ℕ → Bool
is_blank b = b == 32 || b == 9

-- an empty piece is not a word
abbrev pub is_word : List ℕ → Bool
is_word [] = false
is_word (b ∷ bs) = true

-- the words of a text, separated by blanks
unfoldable pub words_of : List ℕ → List (List ℕ)
words_of text = filter is_word (slice_split is_blank text)

-- puts a piece, if it is a word, before other words
abbrev pub with_piece : List ℕ → List (List ℕ) → List (List ℕ)
with_piece [] words = words
with_piece (b ∷ bs) words = (b ∷ bs) ∷ words

abbrev pub is_empty : List (List ℕ) → Bool
is_empty [] = true
is_empty (word ∷ words) = false

-- not empty, and without a blank
abbrev pub is_one_word : List ℕ → Bool
is_one_word word = is_word word && list_all (λ b. not (is_blank b)) word

-- whether the first of the words is that one
abbrev pub is_first : List ℕ → List (List ℕ) → Bool
is_first name [] = false
is_first name (word ∷ words) = bytes_eq word name

abbrev pub begins_blank : List ℕ → Bool
begins_blank [] = false
begins_blank (b ∷ bs) = is_blank b

-- a word before such a text ends there
abbrev pub ends_word : List ℕ → Bool
ends_word [] = true
ends_word (b ∷ bs) = is_blank b

-- the value of a word, if it has one
abbrev pub value_or_invalid : Option ℕ → Result ℕ WordError
value_or_invalid (Some n) = Ok n
value_or_invalid None = Err Invalid

-- the value of the first of the words, by a function that reads one
abbrev pub first_value : (List ℕ → Option ℕ) → List (List ℕ) → Result ℕ WordError
first_value read [] = Err Missing
first_value read (word ∷ words) = value_or_invalid (read word)
