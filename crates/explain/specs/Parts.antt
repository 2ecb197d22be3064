-- The messages in captured bytes, and the bytes that are skipped (LocoNet Personal Use Edition 1.0,
-- message format: bit 7 is set in an opcode, and in no other byte).
use Rattle.std.specs.Prelude.{ℕ, ◌&&◌, Bool, true, false, not, if◌then◌else◌, nat_le, List, [], ◌∷◌, ◌++◌, length, take, drop, flat_map, Option, Some, None, codes}
use Rattle.std.specs.List.{list_any}
use Rattle.ln_frame.specs.Message.{has_form, is_whole, message_len}
use Rattle.text.specs.Hex.{hex_words}
use Rattle.describe.specs.Messages.{message_words}
use Rattle.explain.specs.LineKinds.{set_off}

abbrev pub is_opcode : ℕ → Bool
is_opcode byte = nat_le 128 byte

abbrev pub begins_with_data : List ℕ → Bool
begins_with_data [] = false
begins_with_data (byte ∷ bytes) = not (is_opcode byte)

-- a byte before parts: in one with the first, if that begins with data, else alone
abbrev pub onto_part : (is_followed : Bool) → ℕ → List (List ℕ) → List (List ℕ)
onto_part false byte parts = (byte ∷ []) ∷ parts
onto_part true byte [] = (byte ∷ []) ∷ []
onto_part true byte (part ∷ parts) = (byte ∷ part) ∷ parts

-- Bytes in parts, each of them one byte, an opcode unless it is the first of all, and the data after
-- it.
unfoldable pub parts_of : List ℕ → List (List ℕ)
parts_of [] = []
parts_of (byte ∷ bytes) = onto_part (begins_with_data bytes) byte (parts_of bytes)

-- the bytes of a message, if the two begin one
abbrev pub len_or : Option ℕ → (otherwise : ℕ) → ℕ
len_or None otherwise = otherwise
len_or (Some len) otherwise = len

abbrev pub front_len : List ℕ → ℕ
front_len [] = 0
front_len (opcode ∷ []) = 1
front_len (opcode ∷ second ∷ rest) = len_or (message_len opcode second) (length (opcode ∷ second ∷ rest))

-- the message that a part begins with, which may be broken off, and the bytes behind it
abbrev pub front_of : List ℕ → List ℕ
front_of part = take (front_len part) part

abbrev pub back_of : List ℕ → List ℕ
back_of part = drop (front_len part) part

abbrev pub begins_whole : List ℕ → Bool
begins_whole part = is_whole (front_of part)

-- there is a whole message, and more than it
abbrev pub has_several : List ℕ → Bool
has_several bytes = list_any begins_whole (parts_of bytes) && not (is_whole bytes)

unfoldable pub skipped_note : List ℕ → List ℕ
skipped_note [] = []
skipped_note (byte ∷ bytes) = codes "  skipped" ++ hex_words (byte ∷ bytes)

-- a message is explained, also one with a wrong check byte; what was broken off, or begins with data,
-- is skipped
unfoldable pub front_note : List ℕ → List ℕ
front_note front = if has_form front then set_off (message_words front) else skipped_note front

unfoldable pub part_note : List ℕ → List ℕ
part_note part = front_note (front_of part) ++ skipped_note (back_of part)

unfoldable pub parts_note : List (List ℕ) → List ℕ
parts_note parts = flat_map part_note parts
