-- What the form of a whole message says of its bytes.
use Rattle.std.proofs.Common.{◌≡◌, ℕ, ◌<◌, ◌≤◌, true, List, [], ◌∷◌, length, get_or, suc, zero, Option, Some, None, nat_lt, ap, arith}
use Rattle.std.proofs.lemmas.Bool.{and_parts, eqb-true, ltb-true}
use Rattle.std.proofs.lemmas.Bool.Decides.{nat_tests}
use Rattle.ln_frame.specs.Message.{message_len, are_data, is_len, has_form, IsWhole}
use Rattle.ln_frame.proofs.Positions.{message_len-least}

pub form-of_whole : (m : List ℕ) → IsWhole m → has_form m ≡ true
form-of_whole m w = (and_parts (has_form m) _ w).0

len-is : (o : Option ℕ) (n : ℕ) → is_len o n ≡ true → o ≡ Some n
len-is None n h = cc
len-is (Some k) n h = ap Some (eqb-true k n h)

-- the first two bytes say the length
pub length-said : (m : List ℕ) → IsWhole m → message_len (get_or m 0 0) (get_or m 1 0) ≡ Some (length m)
length-said [] w = cc
length-said (op ∷ []) w = cc
length-said (op ∷ s ∷ m) w =
    len-is (message_len op s) (length (op ∷ s ∷ m)) (and_parts (is_len (message_len op s) (length (op ∷ s ∷ m))) (are_data (s ∷ m)) (form-of_whole (op ∷ s ∷ m) w)).0

data_at : (xs : List ℕ) → are_data xs ≡ true → (i : ℕ) → get_or xs i 0 < 128
data_at [] d i = omega arith
data_at (x ∷ xs) d zero = ltb-true x 128 (and_parts (nat_lt x 128) (are_data xs) d).0
data_at (x ∷ xs) d (suc i) = data_at xs (and_parts (nat_lt x 128) (are_data xs) d).1 i

pub data-of_whole : (m : List ℕ) → IsWhole m → (i : ℕ) → 1 ≤ i → get_or m i 0 < 128
data-of_whole [] w i h = cc
data-of_whole (op ∷ []) w i h = cc
data-of_whole (op ∷ s ∷ m) w zero h = absurd (omega arith)
data-of_whole (op ∷ s ∷ m) w (suc i) h =
    data_at (s ∷ m) (and_parts (is_len (message_len op s) (length (op ∷ s ∷ m))) (are_data (s ∷ m)) (form-of_whole (op ∷ s ∷ m) w)).1 i

opcode-said : (op s len : ℕ) → message_len op s ≡ Some len → 128 ≤ op
opcode-said op s len h = grind (arith, nat_tests)

pub opcode-of_whole : (m : List ℕ) → IsWhole m → 128 ≤ get_or m 0 0
opcode-of_whole m w = opcode-said (get_or m 0 0) (get_or m 1 0) (length m) (length-said m w)

pub shortest-of_whole : (m : List ℕ) → IsWhole m → 2 ≤ length m
shortest-of_whole m w = message_len-least (get_or m 0 0) (get_or m 1 0) (length m) (length-said m w)
