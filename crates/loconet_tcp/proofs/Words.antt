-- What one more word adds to the bytes written, and to whether all words are pairs.
use Rattle.std.proofs.Common.{◌≡◌, ℕ, ◌<◌, ◌≤◌, true, false, ◌&&◌, List, [], ◌∷◌, ◌++◌, length, take, Option, Some, None, append_assoc, append-nil, refl, ap, sym, ◌∙◌, arith}
use Rattle.std.specs.Option.{is_some}
use Rattle.std.proofs.lemmas.List.{take_all}
use Rattle.text.specs.Words.{words_of, with_piece}
use Rattle.text.specs.Hex.{pair_of}
use Rattle.loconet_tcp.specs.Requests.{led_by, leading_bytes, are_pairs}

pub lead-word : (bytes word : List ℕ) (words : List (List ℕ)) (byte : ℕ) → pair_of word ≡ Some byte
    → bytes ++ leading_bytes (word ∷ words) ≡ (bytes ++ byte ∷ []) ++ leading_bytes words
unfolding leading_bytes
lead-word bytes word words byte e =
    ap (λ (pair : Option ℕ). bytes ++ led_by pair (leading_bytes words)) e
    ∙ sym (append_assoc bytes (byte ∷ []) (leading_bytes words))

pub lead-no_pair : (bytes word : List ℕ) (words : List (List ℕ)) → pair_of word ≡ None → bytes ++ leading_bytes (word ∷ words) ≡ bytes
unfolding leading_bytes
lead-no_pair bytes word words e =
    ap (λ (pair : Option ℕ). bytes ++ led_by pair (leading_bytes words)) e
    ∙ append-nil bytes

pub are-word : (word : List ℕ) (words : List (List ℕ)) (byte : ℕ) → pair_of word ≡ Some byte → are_pairs (word ∷ words) ≡ are_pairs words
unfolding are_pairs
are-word word words byte e = ap (λ (pair : Option ℕ). is_some pair && are_pairs words) e

pub are-no_pair : (word : List ℕ) (words : List (List ℕ)) → pair_of word ≡ None → are_pairs (word ∷ words) ≡ false
unfolding are_pairs
are-no_pair word words e = ap (λ (pair : Option ℕ). is_some pair && are_pairs words) e

pub one_word : (word : List ℕ) (words : List (List ℕ)) → 0 < length word → word ∷ words ≡ with_piece word words
one_word [] words some = absurd (omega arith)
one_word (b ∷ bs) words some = refl

-- at the end everything is read

pub no_words : (rest : List ℕ) → length rest ≡ 0 → words_of rest ≡ []
unfolding words_of
no_words [] h = refl
no_words (b ∷ rest) h = absurd (omega arith)

pub lead-all : (bytes : List ℕ) → bytes ++ leading_bytes [] ≡ bytes
unfolding leading_bytes
lead-all bytes = append-nil bytes

pub are-all : are_pairs [] ≡ true
unfolding are_pairs
are-all = refl

pub pair-length : (piece : List ℕ) (byte : ℕ) → pair_of piece ≡ Some byte → length piece ≡ 2
pair-length [] byte h = cc
pair-length (a ∷ []) byte h = cc
pair-length (a ∷ b ∷ []) byte h = refl
pair-length (a ∷ b ∷ d ∷ more) byte h = cc

-- a word of at most 33 bytes is kept whole
pub kept_whole : (word : List ℕ) → length word ≤ 33 → take 33 word ≡ word
kept_whole word short = take_all 33 word short
