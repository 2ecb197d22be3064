-- Where lines end.
use Rattle.std.proofs.Common.{◌≡◌, ℕ, ◌+◌, ◌≤◌, ◌==◌, true, false, List, [], ◌∷◌, ◌++◌, suc, length, not, append_assoc, append-nil, refl, ap, ap₂, sym, inl, inr, ◌∙◌, arith}
use Rattle.std.proofs.lemmas.Bool.{and_parts, not-true, cases_Bool}
use Rattle.explain.specs.Explained.{shown}
use Rattle.explain.specs.Lines.{body_of, end_of, is_end}
use Rattle.text.specs.Lines.{is_open}
use Rattle.explain.specs.Notes.{note_of}

-- what ends no line ends none in its parts
pub open-parts : (xs ys : List ℕ) → is_open (xs ++ ys) ≡ true → (is_open xs ≡ true) × (is_open ys ≡ true)
open-parts [] ys h = (refl, h)
open-parts (x ∷ xs) ys h =
    let p = and_parts (not (x == 10)) (is_open (xs ++ ys)) h in
    let rest = open-parts xs ys p.1 in
    (rw (p.0) rest.0, rest.1)

pub open-both : (xs ys : List ℕ) → is_open xs ≡ true → is_open ys ≡ true → is_open (xs ++ ys) ≡ true
open-both [] ys h k = k
open-both (x ∷ xs) ys h k =
    let p = and_parts (not (x == 10)) (is_open xs) h in
    rw (p.0) (open-both xs ys p.1 k)

pub first-open : (x : ℕ) (xs : List ℕ) → is_open (x ∷ xs) ≡ true → (x == 10) ≡ false
first-open x xs h = not-true (x == 10) (and_parts (not (x == 10)) (is_open xs) h).0

pub rest-open : (x : ℕ) (xs : List ℕ) → is_open (x ∷ xs) ≡ true → is_open xs ≡ true
rest-open x xs h = (and_parts (not (x == 10)) (is_open xs) h).1

-- no line end begins with a byte before one that is not a line feed
not_end : (x y : ℕ) (zs : List ℕ) → (x == 10) ≡ false → (y == 10) ≡ false → is_end (x ∷ y ∷ zs) ≡ false
not_end x y zs a b = elim (cases_Bool (x == 13)) [ inl e ↦ rw (a, b, e) refl | inr e ↦ rw (a, e) refl ]

body-in : (x y : ℕ) (zs : List ℕ) → (x == 10) ≡ false → (y == 10) ≡ false → body_of (x ∷ y ∷ zs) ≡ x ∷ body_of (y ∷ zs)
body-in x y zs a b = rw (not_end x y zs a b) refl

end-in : (x y : ℕ) (zs : List ℕ) → (x == 10) ≡ false → (y == 10) ≡ false → end_of (x ∷ y ∷ zs) ≡ end_of (y ∷ zs)
end-in x y zs a b = rw (not_end x y zs a b) refl

-- a line without an end
one_not_end : (x : ℕ) → (x == 10) ≡ false → is_end (x ∷ []) ≡ false
one_not_end x a = elim (cases_Bool (x == 13)) [ inl e ↦ rw (a, e) refl | inr e ↦ rw (a, e) refl ]

pub body-open : (xs : List ℕ) → is_open xs ≡ true → body_of xs ≡ xs
body-open [] h = refl
body-open (x ∷ []) h = rw (one_not_end x (first-open x [] h)) refl
body-open (x ∷ y ∷ ys) h =
    let rest = rest-open x (y ∷ ys) h in
    body-in x y ys (first-open x (y ∷ ys) h) (first-open y ys rest) ∙ ap (λ (line : List ℕ). x ∷ line) (body-open (y ∷ ys) rest)

end-open : (xs : List ℕ) → is_open xs ≡ true → end_of xs ≡ []
end-open [] h = refl
end-open (x ∷ []) h = rw (one_not_end x (first-open x [] h)) refl
end-open (x ∷ y ∷ ys) h =
    let rest = rest-open x (y ∷ ys) h in
    end-in x y ys (first-open x (y ∷ ys) h) (first-open y ys rest) ∙ end-open (y ∷ ys) rest

-- a line with a carriage return and a line feed
body-pair : (xs : List ℕ) → is_open xs ≡ true → body_of (xs ++ 13 ∷ 10 ∷ []) ≡ xs
body-pair [] h = refl
body-pair (x ∷ []) h = body-in x 13 (10 ∷ []) (first-open x [] h) refl
body-pair (x ∷ y ∷ ys) h =
    let rest = rest-open x (y ∷ ys) h in
    body-in x y (ys ++ 13 ∷ 10 ∷ []) (first-open x (y ∷ ys) h) (first-open y ys rest) ∙ ap (λ (line : List ℕ). x ∷ line) (body-pair (y ∷ ys) rest)

end-pair : (xs : List ℕ) → is_open xs ≡ true → end_of (xs ++ 13 ∷ 10 ∷ []) ≡ 13 ∷ 10 ∷ []
end-pair [] h = refl
end-pair (x ∷ []) h = end-in x 13 (10 ∷ []) (first-open x [] h) refl
end-pair (x ∷ y ∷ ys) h =
    let rest = rest-open x (y ∷ ys) h in
    end-in x y (ys ++ 13 ∷ 10 ∷ []) (first-open x (y ∷ ys) h) (first-open y ys rest) ∙ end-pair (y ∷ ys) rest

-- a line with a line feed alone
last_not_end : (x : ℕ) → (x == 10) ≡ false → (x == 13) ≡ false → is_end (x ∷ 10 ∷ []) ≡ false
last_not_end x a b = rw (a, b) refl

body-feed : (xs : List ℕ) (x : ℕ) → is_open xs ≡ true → (x == 10) ≡ false → (x == 13) ≡ false → body_of (xs ++ x ∷ 10 ∷ []) ≡ xs ++ x ∷ []
body-feed [] x h a b = rw (last_not_end x a b) refl
body-feed (y ∷ []) x h a b = body-in y x (10 ∷ []) (first-open y [] h) a ∙ ap (λ (line : List ℕ). y ∷ line) (body-feed [] x refl a b)
body-feed (y ∷ z ∷ zs) x h a b =
    let rest = rest-open y (z ∷ zs) h in
    body-in y z (zs ++ x ∷ 10 ∷ []) (first-open y (z ∷ zs) h) (first-open z zs rest) ∙ ap (λ (line : List ℕ). y ∷ line) (body-feed (z ∷ zs) x rest a b)

end-feed : (xs : List ℕ) (x : ℕ) → is_open xs ≡ true → (x == 10) ≡ false → (x == 13) ≡ false → end_of (xs ++ x ∷ 10 ∷ []) ≡ 10 ∷ []
end-feed [] x h a b = rw (last_not_end x a b) refl
end-feed (y ∷ []) x h a b = end-in y x (10 ∷ []) (first-open y [] h) a ∙ end-feed [] x refl a b
end-feed (y ∷ z ∷ zs) x h a b =
    let rest = rest-open y (z ∷ zs) h in
    end-in y z (zs ++ x ∷ 10 ∷ []) (first-open y (z ∷ zs) h) (first-open z zs rest) ∙ end-feed (z ∷ zs) x rest a b

-- Before a line feed is an empty line, one that a carriage return ends, or any other.

pub nothing-body : (line : List ℕ) → length line ≡ 0 → line ≡ body_of (line ++ 10 ∷ [])
nothing-body [] h = refl
nothing-body (b ∷ bs) h = absurd (omega arith)

pub nothing-end : (line : List ℕ) → length line ≡ 0 → ◌≡◌ {A = List ℕ} (10 ∷ []) (end_of (line ++ 10 ∷ []))
nothing-end [] h = refl
nothing-end (b ∷ bs) h = absurd (omega arith)

pub return-body : (line body : List ℕ) → is_open line ≡ true → line ≡ body ++ 13 ∷ [] → body ≡ body_of (line ++ 10 ∷ [])
return-body line body h e =
    let parts = open-parts body (13 ∷ []) (sym (ap is_open e) ∙ h) in
    sym (ap (λ (l : List ℕ). body_of (l ++ 10 ∷ [])) e ∙ ap body_of (append_assoc body (13 ∷ []) (10 ∷ [])) ∙ body-pair body parts.0)

pub return-end : (line body : List ℕ) → is_open line ≡ true → line ≡ body ++ 13 ∷ [] → ◌≡◌ {A = List ℕ} (13 ∷ 10 ∷ []) (end_of (line ++ 10 ∷ []))
return-end line body h e =
    let parts = open-parts body (13 ∷ []) (sym (ap is_open e) ∙ h) in
    sym (ap (λ (l : List ℕ). end_of (l ++ 10 ∷ [])) e ∙ ap end_of (append_assoc body (13 ∷ []) (10 ∷ [])) ∙ end-pair body parts.0)

pub other-body : (line body : List ℕ) (last : ℕ) → is_open line ≡ true → line ≡ body ++ last ∷ [] → (last == 13) ≡ false → line ≡ body_of (line ++ 10 ∷ [])
other-body line body last h e b =
    let parts = open-parts body (last ∷ []) (sym (ap is_open e) ∙ h) in
    e ∙ sym (ap (λ (l : List ℕ). body_of (l ++ 10 ∷ [])) e ∙ ap body_of (append_assoc body (last ∷ []) (10 ∷ [])) ∙ body-feed body last parts.0 (first-open last [] parts.1) b)

pub other-end : (line body : List ℕ) (last : ℕ) → is_open line ≡ true → line ≡ body ++ last ∷ [] → (last == 13) ≡ false → ◌≡◌ {A = List ℕ} (10 ∷ []) (end_of (line ++ 10 ∷ []))
other-end line body last h e b =
    let parts = open-parts body (last ∷ []) (sym (ap is_open e) ∙ h) in
    sym (ap (λ (l : List ℕ). end_of (l ++ 10 ∷ [])) e ∙ ap end_of (append_assoc body (last ∷ []) (10 ∷ [])) ∙ end-feed body last parts.0 (first-open last [] parts.1) b)

pub ruleset ends = (nothing-body, nothing-end, return-body, return-end, other-body, other-end)

-- the last line of a text has no end
pub shown-last : (line : List ℕ) → is_open line ≡ true → shown line ≡ line ++ note_of line
shown-last line h =
    ap₂ (λ (body end : List ℕ). body ++ note_of body ++ end) (body-open line h) (end-open line h) ∙ append-nil (line ++ note_of line)

-- a line is its text and its end
pub whole : (line : List ℕ) → body_of line ++ end_of line ≡ line
whole [] = refl
whole (b ∷ line) = elim (cases_Bool (is_end (b ∷ line))) [ inl e ↦ rw e refl | inr e ↦ rw e (ap (λ (l : List ℕ). b ∷ l) (whole line)) ]

-- of a line that begins so, at most a carriage return belongs to the end
pub body-front : (xs ys : List ℕ) → is_open xs ≡ true → length xs ≤ length (body_of (xs ++ ys)) + 1
body-front [] ys h = omega arith
body-front (x ∷ []) ys h = omega arith
body-front (x ∷ y ∷ zs) ys h =
    let rest = rest-open x (y ∷ zs) h in
    let more : length (y ∷ zs) ≤ length (body_of (y ∷ (zs ++ ys))) + 1 = body-front (y ∷ zs) ys rest in
    let is : length (body_of (x ∷ y ∷ (zs ++ ys))) ≡ suc (length (body_of (y ∷ (zs ++ ys)))) = ap length (body-in x y (zs ++ ys) (first-open x (y ∷ zs) h) (first-open y zs rest)) in
    omega (arith, more, is)
