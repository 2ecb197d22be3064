-- Hex text, piece by piece.
use Rattle.std.proofs.Common.{◌≡◌, ℕ, ◌+◌, ◌-◌, ◌<◌, ◌≤◌, ◌==◌, ◌++◌, false, List, [], ◌∷◌, length, take, drop, length-drop, length-take, Some, None, Result, Ok, Err, position, refl, sym, ap, ◌∙◌, arith}
use Rattle.std.specs.List.{slice_split}
use Rattle.std.proofs.lemmas.List.{take_rest}
use Rattle.text.specs.Sequence.{before, followed_by}
use Rattle.text.specs.declared.hex_text.HexFault.{HexFault}
use Rattle.text.specs.declared.hex_text.HexWhy.TheVariants.{BadHex, TooLong}
use Rattle.text.specs.Hex.{pair_of}
use Rattle.text.specs.HexText.{is_white_space, hex_fault, one_byte, piece_of, pieces_of, hex_of}
use Rattle.text.proofs.Sequences.{after_none, ends, goes_on}
use Rattle.std.proofs.lemmas.Bool.{lt-ltb}
use Rattle.std.proofs.lemmas.Bool.Decides.{nat_tests}
use Rattle.text.proofs.Cuts.{whole, split_first, first_place}

no_pieces : (at : ℕ) (text : List ℕ) → length text ≡ 0 → pieces_of at (slice_split is_white_space text) ≡ Ok []
unfolding pieces_of
no_pieces at [] h = refl
no_pieces at (b ∷ bs) h = absurd (omega arith)

pub piece_whole : (text : List ℕ) → position is_white_space text ≡ None → (at : ℕ) → pieces_of at (slice_split is_white_space text) ≡ followed_by (piece_of at text) (pieces_of (at + length text) (slice_split is_white_space []))
unfolding pieces_of
piece_whole text none at = rw (whole is_white_space text none) refl

pub piece_first : (text : List ℕ) (i : ℕ) → position is_white_space text ≡ Some i → (at : ℕ) → pieces_of at (slice_split is_white_space text) ≡ followed_by (piece_of at (take i text)) (pieces_of (at + (length text - length (drop (i + 1) text))) (slice_split is_white_space (drop (i + 1) text)))
unfolding pieces_of
piece_first text i h at =
    let found = first_place is_white_space text i h in
    let e : at + (length text - length (drop (i + 1) text)) ≡ at + length (take i text) + 1 = omega (arith, length-drop (i + 1) text, length-take i text) in
    rw (e, split_first is_white_space text i 0 h) refl

pub ruleset piece_cuts = (piece_whole, piece_first, take_rest)

-- what splitting shows of the pieces of a text, wherever it begins
abbrev IsCut : List ℕ → List ℕ → List ℕ → Type 0
IsCut text piece after = (at : ℕ) → pieces_of at (slice_split is_white_space text) ≡ followed_by (piece_of at piece) (pieces_of (at + (length text - length after)) (slice_split is_white_space after))

-- what is read from the last pieces of a text of that length, after these bytes
abbrev read_on : ℕ → List ℕ → List ℕ → Result (List ℕ) HexFault
read_on total bytes rest = before bytes (pieces_of (total - length rest) (slice_split is_white_space rest))

cut_on : (total : ℕ) (bytes rest piece after : List ℕ) → IsCut rest piece after → length after < length rest → length rest ≤ total
    → read_on total bytes rest ≡ before bytes (followed_by (piece_of (total - length rest) piece) (pieces_of (total - length after) (slice_split is_white_space after)))
cut_on total bytes rest piece after cut shorter within =
    let at : total - length rest + (length rest - length after) ≡ total - length after = omega arith in
    ap (before bytes) (cut (total - length rest)) ∙ ap (λ n. before bytes (followed_by (piece_of (total - length rest) piece) (pieces_of n (slice_split is_white_space after)))) at

-- an empty piece writes nothing
pub empty_piece : (total : ℕ) (bytes rest piece after : List ℕ) (all : Result (List ℕ) HexFault) → IsCut rest piece after → length after < length rest → length rest ≤ total
    → length piece ≡ 0 → read_on total bytes rest ≡ all → read_on total bytes after ≡ all
empty_piece total bytes rest [] after all cut shorter within none so_far =
    ap (before bytes) (sym (after_none (pieces_of (total - length after) (slice_split is_white_space after)))) ∙ sym (cut_on total bytes rest [] after cut shorter within) ∙ so_far
empty_piece total bytes rest (b ∷ bs) after all cut shorter within none so_far = absurd (omega arith)

-- one more byte is read
pub one_more_byte : (total byte : ℕ) (bytes rest piece after : List ℕ) (all : Result (List ℕ) HexFault) → IsCut rest piece after → length after < length rest → length rest ≤ total
    → pair_of piece ≡ Some byte → read_on total bytes rest ≡ all → read_on total (bytes ++ byte ∷ []) after ≡ all
one_more_byte total byte bytes rest [] after all cut shorter within pair so_far = cc
one_more_byte total byte bytes rest (b ∷ bs) after all cut shorter within pair so_far =
    let more = pieces_of (total - length after) (slice_split is_white_space after) in
    let now : before bytes (followed_by (piece_of (total - length rest) (b ∷ bs)) more) ≡ before (bytes ++ byte ∷ []) more =
    ap (λ p. before bytes (followed_by (one_byte (total - length rest) p) more)) pair ∙ goes_on bytes (bytes ++ byte ∷ []) (Ok (byte ∷ [])) more refl in
    sym now ∙ sym (cut_on total bytes rest (b ∷ bs) after cut shorter within) ∙ so_far

-- the first fault is that of this piece
pub no_byte : (total : ℕ) (bytes rest piece after : List ℕ) (all : Result (List ℕ) HexFault) → IsCut rest piece after → length after < length rest → length rest ≤ total
    → (length piece == 0) ≡ false → pair_of piece ≡ None → read_on total bytes rest ≡ all → all ≡ Err (hex_fault BadHex (total - length rest))
no_byte total bytes rest [] after all cut shorter within some pair so_far = cc
no_byte total bytes rest (b ∷ bs) after all cut shorter within some pair so_far =
    let more = pieces_of (total - length after) (slice_split is_white_space after) in
    sym so_far ∙ cut_on total bytes rest (b ∷ bs) after cut shorter within ∙ ap (λ p. before bytes (followed_by (one_byte (total - length rest) p) more)) pair

-- the text is read to its end
pub no_more_pieces : (at : ℕ) (bytes rest : List ℕ) (total : Result (List ℕ) HexFault)
    → length rest ≡ 0 → before bytes (pieces_of at (slice_split is_white_space rest)) ≡ total → total ≡ Ok bytes
no_more_pieces at bytes rest total none so_far =
    let now : before bytes (pieces_of at (slice_split is_white_space rest)) ≡ Ok bytes = rw (no_pieces at rest none) (ends bytes) in
    sym so_far ∙ now

pub hex_within : (text : List ℕ) → length text ≤ 1048576 → hex_of text ≡ pieces_of 0 (slice_split is_white_space text)
hex_within text h = grind (arith, nat_tests)

pub hex_too_long : (text : List ℕ) → 1048576 < length text → hex_of text ≡ Err (hex_fault TooLong 0)
hex_too_long text h = rw (lt-ltb 1048576 (length text) h) refl
