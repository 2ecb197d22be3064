-- The whole lines of a text, and of a longer one.
use Rattle.std.proofs.Common.{◌≡◌, ℕ, ◌+◌, ◌<◌, ◌≤◌, ◌==◌, true, false, List, [], ◌∷◌, ◌++◌, suc, length, not, take, drop, refl, ap, sym, subst, inl, inr, ◌∙◌, arith, slice_index, Option, Some, None, eqb-true, take-append-drop, length-take, get_or}
use Rattle.std.specs.Prelude.{if◌then◌else◌}
use Rattle.std.proofs.lemmas.Bool.{cases_Bool, false_from_ne_true}
use Rattle.std.proofs.lemmas.List.{get_or-drop, drop_more, length-drop}
use Rattle.std.proofs.lemmas.List.Sums.{list_all-from_AllPass}
use Rattle.std.proofs.lemmas.Grind.{get_or_default_zero}
use Rattle.memchr.specs.Find.{IsLastByte, NoneAfter, Passes, is_byte}
use Rattle.web.specs.Lines.{is_open, whole_lines}

-- a text with a line feed has an ended line
pub not_open : (xs ys : List ℕ) → is_open (xs ++ 10 ∷ ys) ≡ false
not_open [] ys = refl
not_open (x ∷ xs) ys = elim (cases_Bool (x == 10)) [ inl e ↦ rw e refl | inr e ↦ rw e (not_open xs ys) ]

pub no_lines : (text : List ℕ) → is_open text ≡ true → whole_lines text ≡ []
no_lines [] h = refl
no_lines (b ∷ text) h = rw h refl

pub lines_to : (body tail : List ℕ) → is_open tail ≡ true → whole_lines (body ++ 10 ∷ tail) ≡ body ++ 10 ∷ []
lines_to [] tail h = ap (λ (t : List ℕ). 10 ∷ t) (no_lines tail h)
lines_to (b ∷ body) tail h =
    ap (λ c. if c then [] else b ∷ whole_lines (body ++ 10 ∷ tail)) (not_open (b ∷ body) tail)
    ∙ ap (λ (t : List ℕ). b ∷ t) (lines_to body tail h)

-- the result of a search from the end
nowhere-open : (text : List ℕ) (from : ℕ) → ((k : ℕ) → from ≤ k → k < length text → ¬ ((slice_index text k == 10) ≡ true)) → is_open (drop from text) ≡ true
nowhere-open text from none =
    list_all-from_AllPass (λ b. not (b == 10)) (drop from text) (λ i d l.
    let inside : from + i < length text = omega (arith, l, length-drop from text) in
    let read : get_or (drop from text) i d ≡ get_or text (from + i) 0 = get_or-drop from text i d ∙ get_or_default_zero text (from + i) d inside in
    rw read (ap not (false_from_ne_true (slice_index text (from + i) == 10) (none (from + i) (omega arith) inside))))

split-at : (text : List ℕ) (at : ℕ) → at < length text → (slice_index text at == 10) ≡ true → text ≡ take at text ++ 10 ∷ drop (at + 1) text
split-at text at inside is =
    sym (take-append-drop at text)
    ∙ ap (λ (t : List ℕ). take at text ++ t) (drop_more text at 0 inside ∙ ap (λ b. b ∷ drop (at + 1) text) (eqb-true (slice_index text at) 10 is))

length-to : (text : List ℕ) (at : ℕ) → at < length text → length (take at text) ≡ at
length-to text at inside = omega (arith, length-take at text)

take-to : (body tail : List ℕ) → take (length body + 1) (body ++ 10 ∷ tail) ≡ body ++ 10 ∷ []
take-to [] tail = refl
take-to (b ∷ body) tail =
    let e : length (b ∷ body) + 1 ≡ suc (length body + 1) = omega arith in
    ap (λ n. take n (b ∷ body ++ 10 ∷ tail)) e ∙ ap (λ (t : List ℕ). b ∷ t) (take-to body tail)

pub found_nowhere : (text : List ℕ) (found : Option ℕ) → IsLastByte (is_byte 10) text found → found ≡ None → [] ≡ whole_lines text
found_nowhere text None last is = sym (no_lines text (nowhere-open text 0 last))
found_nowhere text (Some at) last is = cc

pub found_last : (text : List ℕ) (found : Option ℕ) (at : ℕ) → IsLastByte (is_byte 10) text found → found ≡ Some at → take (at + 1) text ≡ whole_lines text
found_last text None at last is = cc
found_last text (Some k) at last is =
    let same : k ≡ at = cc in
    let first = subst (λ n. NoneAfter (Passes (is_byte 10) text) 0 (length text) n × Passes (is_byte 10) text n) same last in
    let split = split-at text at first.0.high first.1 in
    let size = length-to text at first.0.high in
    let tail = nowhere-open text (at + 1) first.0.after in
    ap (take (at + 1)) split
    ∙ ap (λ n. take (n + 1) (take at text ++ 10 ∷ drop (at + 1) text)) (sym size)
    ∙ take-to (take at text) (drop (at + 1) text)
    ∙ sym (ap whole_lines split ∙ lines_to (take at text) (drop (at + 1) text) tail)
