-- The messages of bytes taken one after another, and those of their lines.
use Rattle.std.proofs.Common.{◌≡◌, ℕ, ◌==◌, true, false, Bool, List, [], ◌∷◌, ◌++◌, zero, suc, length, take, append_assoc, refl, ap, sym, ◌∙◌, inl, inr, arith}
use Rattle.std.specs.Prelude.{if◌then◌else◌, nat_lt, map}
use Rattle.std.proofs.lemmas.Bool.{cases_Bool, cases_lt, le-ltb, lt-ltb}
use Rattle.std.proofs.lemmas.List.{append-nil}
use Rattle.web.specs.Messages.{ended_lines, held_after, held_along, message_of, messages_along, messages_of, onto_line, without_return}

-- bytes before the first line
abbrev all_onto : List ℕ → List (List ℕ) → List (List ℕ)
all_onto xs [] = []
all_onto xs (line ∷ lines) = (xs ++ line) ∷ lines

none-onto : (lines : List (List ℕ)) → all_onto [] lines ≡ lines
none-onto [] = refl
none-onto (line ∷ lines) = refl

one-onto : (xs : List ℕ) (b : ℕ) (lines : List (List ℕ)) → all_onto (xs ++ b ∷ []) lines ≡ all_onto xs (onto_line b lines)
one-onto xs b [] = refl
one-onto xs b (line ∷ lines) = ap (λ (l : List ℕ). l ∷ lines) (append_assoc xs (b ∷ []) line)

take-none : (n : ℕ) → take {A = ℕ} n [] ≡ []
take-none zero = refl
take-none (suc n) = refl

-- the bytes held of a line are its first bytes

less : (a b : ℕ) → nat_lt (suc a) (suc b) ≡ nat_lt a b
less a b = elim (cases_lt a b) [
  | inl l ↦ lt-ltb (suc a) (suc b) (omega arith) ∙ sym (lt-ltb a b l)
  | inr l ↦ le-ltb (suc a) (suc b) (omega arith) ∙ sym (le-ltb a b l)
]

front : (is : Bool) (x b : ℕ) (line : List ℕ) → (if is then x ∷ line ++ b ∷ [] else x ∷ line) ≡ x ∷ (if is then line ++ b ∷ [] else line)
front true x b line = refl
front false x b line = refl

kept : (n : ℕ) (line : List ℕ) (b : ℕ) → (if nat_lt (length (take n line)) n then take n line ++ b ∷ [] else take n line) ≡ take n (line ++ b ∷ [])
kept zero line b = refl
kept (suc n) [] b =
    ap (λ c. if c then b ∷ [] else []) (lt-ltb 0 (suc n) (omega arith)) ∙ ap (λ (t : List ℕ). b ∷ t) (sym (take-none n))
kept (suc n) (x ∷ line) b =
    ap (λ c. if c then x ∷ take n line ++ b ∷ [] else x ∷ take n line) (less (length (take n line)) n)
    ∙ front (nat_lt (length (take n line)) n) x b (take n line) ∙ ap (λ (t : List ℕ). x ∷ t) (kept n line b)

ends : (b : ℕ) (text line : List ℕ) → messages_along [] text ≡ map message_of (all_onto [] (ended_lines text))
    → without_return (take 512 line) ∷ messages_along [] text ≡ map message_of (all_onto line ([] ∷ ended_lines text))
ends b text line is =
    ap (λ (l : List ℕ). without_return (take 512 l) ∷ messages_along [] text) (sym (append-nil line))
    ∙ ap (λ (ms : List (List ℕ)). message_of (line ++ []) ∷ ms) (is ∙ ap (map message_of) (none-onto (ended_lines text)))

goes_on : (b : ℕ) (text line : List ℕ) → messages_along (take 512 (line ++ b ∷ [])) text ≡ map message_of (all_onto (line ++ b ∷ []) (ended_lines text))
    → messages_along (held_after (take 512 line) b) text ≡ map message_of (all_onto line (onto_line b (ended_lines text)))
goes_on b text line is =
    ap (λ (h : List ℕ). messages_along h text) (kept 512 line b) ∙ is ∙ ap (map message_of) (one-onto line b (ended_lines text))

along : (text line : List ℕ) → messages_along (take 512 line) text ≡ map message_of (all_onto line (ended_lines text))
along [] line = refl
along (b ∷ text) line = elim (cases_Bool (b == 10)) [
  | inl e ↦ rw e (ends b text line (along text []))
  | inr e ↦ rw e (goes_on b text line (along text (line ++ b ∷ [])))
]

pub whole : (text : List ℕ) → messages_along [] text ≡ messages_of text
whole text = along text [] ∙ ap (map message_of) (none-onto (ended_lines text))

pub pieces : (held front back : List ℕ) → messages_along held (front ++ back) ≡ messages_along held front ++ messages_along (held_along held front) back
pieces held [] back = refl
pieces held (b ∷ front) back = elim (cases_Bool (b == 10)) [
  | inl e ↦ rw e (ap (λ (ms : List (List ℕ)). without_return held ∷ ms) (pieces [] front back))
  | inr e ↦ rw e (pieces (held_after held b) front back)
]

pub held-on : (held front back : List ℕ) → held_along held (front ++ back) ≡ held_along (held_along held front) back
held-on held [] back = refl
held-on held (b ∷ front) back = elim (cases_Bool (b == 10)) [
  | inl e ↦ rw e (held-on [] front back)
  | inr e ↦ rw e (held-on (held_after held b) front back)
]
