-- Pieces of lines.
use Rattle.std.proofs.Common.{◌≡◌, ℕ, ◌≤◌, ◌==◌, Bool, true, false, List, [], ◌∷◌, ◌++◌, length, take, drop, append_assoc, refl, ap, sym, inl, inr, ◌∙◌, arith, take-append-drop, ap₂, Result, Ok, Err, is_ok}
use Rattle.std.specs.Prelude.{IsTrue, MatchResult}
use Rattle.std.proofs.Math.Seq.{take-append_seam}
use Rattle.std.proofs.lemmas.List.{length-take-le, take_rest}
use Rattle.std.proofs.lemmas.Bool.{cases_Bool}
use Rattle.std.specs.Str.{bytes_eq}
use Rattle.web.specs.Messages.{without_return}

-- the part already read, and the rest
pub given-parts : (rest room part back : List ℕ) (count : ℕ) → count ≤ length rest → part ≡ take count rest → back ≡ drop count rest
    → rest ≡ take count (part ++ drop count room) ++ back
given-parts rest room part back count fits is left =
    let long : length part ≡ count = ap length is ∙ length-take-le count rest fits in
    let front : take count (part ++ drop count room) ≡ part = ap (λ n. take n (part ++ drop count room)) (sym long) ∙ take-append_seam part (drop count room) in
    sym (take-append-drop count rest) ∙ ap₂ (λ (a b : List ℕ). a ++ b) (sym (front ∙ is)) (sym left)

-- two bytes are not a carriage return alone
two_no_return : (x y : ℕ) (zs : List ℕ) → bytes_eq (x ∷ y ∷ zs) (13 ∷ []) ≡ false
two_no_return x y zs = elim (cases_Bool (x == 13)) [ inl e ↦ rw e refl | inr e ↦ rw e refl ]

without-in : (x y : ℕ) (zs : List ℕ) → without_return (x ∷ y ∷ zs) ≡ x ∷ without_return (y ∷ zs)
without-in x y zs = rw (two_no_return x y zs) refl

without-end : (line : List ℕ) → without_return (line ++ 13 ∷ []) ≡ line
without-end [] = refl
without-end (x ∷ []) = without-in x 13 []
without-end (x ∷ y ∷ zs) = without-in x y (zs ++ 13 ∷ []) ∙ ap (λ (t : List ℕ). x ∷ t) (without-end (y ∷ zs))

without-other : (line : List ℕ) (b : ℕ) → (b == 13) ≡ false → without_return (line ++ b ∷ []) ≡ line ++ b ∷ []
without-other [] b e = rw e refl
without-other (x ∷ []) b e = without-in x b [] ∙ ap (λ (t : List ℕ). x ∷ t) (without-other [] b e)
without-other (x ∷ y ∷ zs) b e = without-in x y (zs ++ b ∷ []) ∙ ap (λ (t : List ℕ). x ∷ t) (without-other (y ∷ zs) b e)

-- A line ends in nothing, in a carriage return, or in another byte.

pub nothing-line : (line : List ℕ) → length line ≡ 0 → line ≡ without_return line
nothing-line [] h = refl
nothing-line (b ∷ bs) h = absurd (omega arith)

pub return-line : (line body : List ℕ) → line ≡ body ++ 13 ∷ [] → body ≡ without_return line
return-line line body e = sym (ap without_return e ∙ without-end body)

pub other-line : (line body : List ℕ) (last : ℕ) → line ≡ body ++ last ∷ [] → (last == 13) ≡ false → line ≡ without_return line
other-line line body last e b = e ∙ sym (ap without_return e ∙ without-other body last b)

pub ruleset ends = (nothing-line, return-line, other-line)

-- bytes appended after earlier appended bytes
pub next : (old mid new before piece : List ℕ) → mid ≡ old ++ before → new ≡ mid ++ piece → new ≡ old ++ (before ++ piece)
next old mid new before piece first more = more ∙ ap (λ (t : List ℕ). t ++ piece) first ∙ append_assoc old before piece

-- the meaning of a parser's result being Ok
pub parsed : {A E : Type 0} (Spells : A → Type 0) (r : Result A E) (b : Bool) → b ≡ is_ok r
    → MatchResult r Spells (λ _. (a : A) → ¬ (Spells a)) → (IsTrue b → (a : A) × Spells a) × (((a : A) × Spells a) → IsTrue b)
parsed Spells (Ok a) b e h = (λ _. (a, h), λ _. e)
parsed Spells (Err x) b e h = (λ t. absurd (both b e t), λ p. absurd (h p.0 p.1))
  where
    both : (t : Bool) → t ≡ false → t ≡ true → ⊥
    both t f g = cc

pub ruleset rests = (take_rest)
