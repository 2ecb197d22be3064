-- The bytes of hex text.
use Rattle.std.specs.Prelude.{ℕ, ◌+◌, Bool, ◌==◌, ◌||◌, List, [], ◌∷◌, Option, Some, None, Result, Ok, Err, nat_lt, if◌then◌else◌, length}
use Rattle.std.specs.List.{slice_split}
use Rattle.text.specs.declared.hex_text.HexWhy.{HexWhy}
use Rattle.text.specs.declared.hex_text.HexWhy.TheVariants.{BadHex, TooLong}
use Rattle.text.specs.declared.hex_text.HexFault.{HexFault}
use Rattle.text.specs.Sequence.{followed_by}
use Rattle.text.specs.Hex.{pair_of}

-- a space, a tab, a carriage return or a line feed
abbrev pub is_white_space : ℕ → Bool
is_white_space b = b == 32 || b == 9 || b == 13 || b == 10

abbrev pub hex_fault : HexWhy → ℕ → HexFault
hex_fault why at = record { why = why; at = at }

abbrev pub one_byte : ℕ → Option ℕ → Result (List ℕ) HexFault
one_byte at (Some byte) = Ok (byte ∷ [])
one_byte at None = Err (hex_fault BadHex at)

-- The piece at this offset, between two white spaces. An empty one writes nothing.
abbrev pub piece_of : ℕ → List ℕ → Result (List ℕ) HexFault
piece_of at [] = Ok []
piece_of at (b ∷ bs) = one_byte at (pair_of (b ∷ bs))

-- The pieces from this offset on.
unfoldable pub pieces_of : ℕ → List (List ℕ) → Result (List ℕ) HexFault
pieces_of at [] = Ok []
pieces_of at (piece ∷ pieces) = followed_by (piece_of at piece) (pieces_of (at + length piece + 1) pieces)

-- The bytes of a text of at most 1,048,576 bytes.
abbrev pub hex_of : List ℕ → Result (List ℕ) HexFault
hex_of text = if nat_lt 1048576 (length text) then Err (hex_fault TooLong 0) else pieces_of 0 (slice_split is_white_space text)
