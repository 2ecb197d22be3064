-- What a message on a LocoNet line is.
use Rattle.std.specs.Prelude.{ℕ, Bool, false, ◌&&◌, ◌==◌, if◌then◌else◌, nat_lt, List, [], ◌∷◌, ◌++◌, length, Option, Some, None, bit_xor, IsTrue}
use Rattle.std.specs.List.{fold, list_all}

-- how many bytes a message has that begins with this opcode and this second byte
abbrev pub message_len : ℕ → ℕ → Option ℕ
message_len opcode second =
    if nat_lt opcode 128 then None else
    (if nat_lt opcode 160 then Some 2 else
    (if nat_lt opcode 192 then Some 4 else
    (if nat_lt opcode 224 then Some 6 else
    (if nat_lt second 3 then None else
    (if nat_lt second 128 then Some second else None)))))

-- the bytes after an opcode are below 128
abbrev pub are_data : List ℕ → Bool
are_data = list_all (λ byte. nat_lt byte 128)

-- the exclusive or of the bytes
abbrev pub xor_of : List ℕ → ℕ
xor_of = fold bit_xor 0

abbrev pub is_len : Option ℕ → ℕ → Bool
is_len None n = false
is_len (Some len) n = len == n

-- an opcode and as many bytes of data as it requires
abbrev pub has_form : List ℕ → Bool
has_form [] = false
has_form (opcode ∷ []) = false
has_form (opcode ∷ second ∷ rest) =
    is_len (message_len opcode second) (length (opcode ∷ second ∷ rest)) && are_data (second ∷ rest)

-- the check byte of the bytes before it
abbrev pub check_of : List ℕ → ℕ
check_of body = bit_xor (xor_of body) 255

-- a whole message: its form, and the exclusive or of all its bytes
abbrev pub is_whole : List ℕ → Bool
is_whole bytes = has_form bytes && (xor_of bytes == 255)

abbrev pub IsWhole : List ℕ → Type 0
IsWhole bytes = IsTrue (is_whole bytes)

-- with a check byte after them the bytes have the form of a message
abbrev pub is_body : List ℕ → Bool
is_body body = has_form (body ++ 0 ∷ [])

-- the bytes begin a whole message that is one byte longer
abbrev pub BeginsWhole : List ℕ → Type 0
BeginsWhole body = (check : ℕ) × IsWhole (body ++ check ∷ [])
