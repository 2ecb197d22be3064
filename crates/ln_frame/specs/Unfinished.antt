-- What a list of bytes leaves unfinished, which is all that a framer keeps of it.
use Rattle.std.specs.Prelude.{ℕ, Bool, true, false, ◌&&◌, if◌then◌else◌, nat_lt, nat_le, List, [], ◌∷◌, ◌++◌, length, Option, Some, None}
use Rattle.std.specs.Option.{option_to_list}
use Rattle.ln_frame.specs.Message.{message_len, are_data}
use Rattle.ln_frame.specs.Stream.{message_at_end}

abbrev pub is_longer : Option ℕ → ℕ → Bool
is_longer None n = false
is_longer (Some len) n = nat_lt n len

-- less than a message: nothing, or an opcode and fewer bytes of data than it wants
abbrev pub is_unfinished : List ℕ → Bool
is_unfinished [] = true
is_unfinished (opcode ∷ []) = nat_le 128 opcode
is_unfinished (opcode ∷ second ∷ rest) =
    is_longer (message_len opcode second) (length (opcode ∷ second ∷ rest)) && are_data (second ∷ rest)

-- the longest end that is less than a message
abbrev pub unfinished_of : List ℕ → List ℕ
unfinished_of [] = []
unfinished_of (byte ∷ bytes) = if is_unfinished (byte ∷ bytes) then byte ∷ bytes else unfinished_of bytes

-- the messages that these bytes bring, one after another, behind these unfinished ones
abbrev pub messages_along : List ℕ → List ℕ → List (List ℕ)
messages_along unfinished [] = []
messages_along unfinished (byte ∷ bytes) =
    option_to_list (message_at_end (unfinished ++ byte ∷ [])) ++ messages_along (unfinished_of (unfinished ++ byte ∷ [])) bytes
