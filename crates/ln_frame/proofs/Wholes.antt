-- A whole message, and what it begins with.
use Rattle.std.proofs.Common.{◌≡◌, ℕ, true, false, List, [], ◌∷◌, ◌++◌, length, Option, Some, None, length-append, append_assoc, refl, sym, subst, ◌∙◌, arith, nat_lt}
use Rattle.std.proofs.lemmas.Bool.{and_parts, and_from, and_left, le-ltb, le-leb, eqb-true}
use Rattle.std.proofs.lemmas.List.Folds.{list_all-append}
use Rattle.ln_frame.specs.Message.{message_len, are_data, is_len, IsWhole}
use Rattle.ln_frame.specs.Stream.{message_at_end}
use Rattle.ln_frame.specs.Unfinished.{is_longer, is_unfinished, unfinished_of}
use Rattle.ln_frame.proofs.Forms.{form-of_whole}
use Rattle.ln_frame.proofs.Framing.{at_end-unfinished, unfinished_of-data}
use Rattle.ln_frame.proofs.Rest.{len-longer, opcode, unfinished-skip, unfinished-whole}

pub ends : (message : List ℕ) → IsWhole message → message_at_end message ≡ Some message
ends [] w = cc
ends (x ∷ xs) w = rw w refl

len-not_longer : (o : Option ℕ) (n : ℕ) → is_len o n ≡ true → is_longer o n ≡ false
len-not_longer None n h = refl
len-not_longer (Some len) n h = le-ltb n len (omega (arith, eqb-true len n h))

pub leaves : (message : List ℕ) → IsWhole message → unfinished_of message ≡ []
leaves [] w = cc
leaves (op ∷ []) w = cc
leaves (op ∷ s ∷ m) w =
    let n = length (op ∷ s ∷ m) in
    let p = and_parts (is_len (message_len op s) n) (are_data (s ∷ m)) (form-of_whole (op ∷ s ∷ m) w) in
    unfinished-skip op (s ∷ m) (and_left (is_longer (message_len op s) n) (are_data (s ∷ m)) (len-not_longer (message_len op s) n p.0))
    ∙ unfinished_of-data (s ∷ m) p.1

-- a proper front is less than a message
front-unfinished : (front rest : List ℕ) (b : ℕ) → IsWhole (front ++ b ∷ rest) → is_unfinished front ≡ true
front-unfinished [] rest b w = refl
front-unfinished (op ∷ []) rest b w = le-leb 128 op (opcode op (b ∷ rest) w)
front-unfinished (op ∷ s ∷ m) rest b w =
    let n = length (op ∷ s ∷ m ++ b ∷ rest) in
    let p = and_parts (is_len (message_len op s) n) (are_data (s ∷ m ++ b ∷ rest)) (form-of_whole (op ∷ s ∷ m ++ b ∷ rest) w) in
    let d = and_parts (are_data (s ∷ m)) (are_data (b ∷ rest)) (sym (list_all-append (λ x. nat_lt x 128) (s ∷ m) (b ∷ rest)) ∙ p.1) in
    and_from _ _ (len-longer (message_len op s) n (length (op ∷ s ∷ m)) p.0 (omega (arith, length-append m (b ∷ rest)))) d.0

pub fronts : (front rest : List ℕ) (b : ℕ) → IsWhole (front ++ b ∷ rest) → unfinished_of front ≡ front
fronts front rest b w = unfinished-whole front (front-unfinished front rest b w)

pub none : (front rest : List ℕ) (b next : ℕ) → IsWhole (front ++ b ∷ next ∷ rest) → message_at_end (front ++ b ∷ []) ≡ None
none front rest b next w =
    at_end-unfinished (front ++ b ∷ []) (front-unfinished (front ++ b ∷ []) rest next (subst IsWhole (sym (append_assoc front (b ∷ []) (next ∷ rest))) w))
