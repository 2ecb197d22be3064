-- Bytes written as hex text are read back.
use Rattle.std.proofs.Common.{◌≡◌, ℕ, ◌+◌, ◌*◌, ◌/◌, ◌%◌, ◌<◌, ◌≤◌, nat_lt, true, false, List, [], ◌∷◌, length, map, Option, Some, Ok, refl, ap, ap₂, ◌∙◌, arith}
use Rattle.std.specs.List.{list_all, slice_split, onto_first}
use Rattle.std.proofs.lemmas.Bool.{and_parts, ltb-true}
use Rattle.std.proofs.lemmas.Bool.Decides.{nat_tests}
use Rattle.std.proofs.lemmas.List.Splits.{slice_split-cons_no}
use Rattle.text.specs.Hex.{both, digit_of, hex_char, hex_words, pair_of}
use Rattle.text.specs.HexText.{hex_of, is_white_space, one_byte, pieces_of}
use Rattle.text.specs.Sequence.{followed_by}
use Rattle.text.proofs.HexPieces.{hex_within}

abbrev two : ℕ → List ℕ
two b = hex_char (b / 16) ∷ hex_char (b % 16) ∷ []

digit-back : (d : ℕ) → d < 16 → digit_of (hex_char d) ≡ Some d
digit-back d h = grind (arith, nat_tests)

pair-back : (b : ℕ) → b < 256 → pair_of (two b) ≡ Some b
pair-back b h =
    let high : b / 16 < 16 = omega arith in
    let low : b % 16 < 16 = omega arith in
    let whole : 16 * (b / 16) + b % 16 ≡ b = omega arith in
    ap₂ both (digit-back (b / 16) high) (digit-back (b % 16) low) ∙ ap Some whole

digit-not_space : (d : ℕ) → d < 16 → is_white_space (hex_char d) ≡ false
digit-not_space d h = grind (arith, nat_tests)

piece-back : (b : ℕ) (rest : List ℕ) (parts : List (List ℕ)) → b < 256 → slice_split is_white_space rest ≡ [] ∷ parts → slice_split is_white_space (hex_char (b / 16) ∷ hex_char (b % 16) ∷ rest) ≡ two b ∷ parts
piece-back b rest parts h e =
    let high : b / 16 < 16 = omega arith in
    let low : b % 16 < 16 = omega arith in
    slice_split-cons_no is_white_space (hex_char (b / 16)) (hex_char (b % 16) ∷ rest) (digit-not_space (b / 16) high)
    ∙ ap (onto_first (hex_char (b / 16))) (slice_split-cons_no is_white_space (hex_char (b % 16)) rest (digit-not_space (b % 16) low) ∙ ap (onto_first (hex_char (b % 16))) e)

abbrev AreBytes : List ℕ → Type 0
AreBytes bytes = list_all (λ byte. nat_lt byte 256) bytes ≡ true

each : (b : ℕ) (bytes : List ℕ) → AreBytes (b ∷ bytes) → (b < 256) × AreBytes bytes
each b bytes h = let p = and_parts (nat_lt b 256) (list_all (λ byte. nat_lt byte 256) bytes) h in (ltb-true b 256 p.0, p.1)

pieces : (bytes : List ℕ) → AreBytes bytes → slice_split is_white_space (hex_words bytes) ≡ [] ∷ map two bytes
pieces [] h = refl
pieces (b ∷ bytes) h =
    let k = each b bytes h in
    ap (λ (parts : List (List ℕ)). [] ∷ parts) (piece-back b (hex_words bytes) (map two bytes) k.0 (pieces bytes k.1))

pieces-back : (at : ℕ) (bytes : List ℕ) → AreBytes bytes → pieces_of at (map two bytes) ≡ Ok bytes
unfolding pieces_of
pieces-back at [] h = refl
pieces-back at (b ∷ bytes) h =
    let k = each b bytes h in
    ap₂ (λ (o : Option ℕ) r. followed_by (one_byte at o) r) (pair-back b k.0) (pieces-back (at + 2 + 1) bytes k.1)

first_piece : (bytes : List ℕ) → AreBytes bytes → pieces_of 0 ([] ∷ map two bytes) ≡ Ok bytes
unfolding pieces_of
first_piece bytes h = ap (followed_by (Ok [])) (pieces-back 1 bytes h)

pub hex-back : (bytes : List ℕ) → AreBytes bytes → length (hex_words bytes) ≤ 1048576 → hex_of (hex_words bytes) ≡ Ok bytes
hex-back bytes h short = hex_within (hex_words bytes) short ∙ ap (pieces_of 0) (pieces bytes h) ∙ first_piece bytes h
