-- What is unfinished is all of the earlier bytes that a byte continues.
use Rattle.std.proofs.Common.{◌≡◌, ℕ, ◌<◌, ◌≤◌, Bool, true, false, List, [], ◌∷◌, ◌++◌, length, Option, Some, None, length-append, refl, ap, sym, ◌∙◌, inl, inr, arith, nat_lt}
use Rattle.std.proofs.lemmas.Bool.{and_parts, and_from, both_ways, ltb-true, lt-ltb, le-leb, eqb-true, cases_lt, cases_Bool}
use Rattle.std.proofs.lemmas.List.Folds.{list_all-append}
use Rattle.ln_frame.specs.Message.{message_len, are_data, is_len, has_form, is_whole}
use Rattle.ln_frame.specs.Stream.{message_at_end}
use Rattle.ln_frame.specs.Unfinished.{is_longer, is_unfinished, unfinished_of}
use Rattle.ln_frame.proofs.Framing.{whole-data, unfinished-data, is_unfinished-unfinished_of}

pub len-longer : (o : Option ℕ) (n k : ℕ) → is_len o n ≡ true → k < n → is_longer o k ≡ true
len-longer None n k h l = cc
len-longer (Some len) n k h l = lt-ltb k len (omega (arith, eqb-true len n h))

longer-longer : (o : Option ℕ) (n k : ℕ) → is_longer o n ≡ true → k < n → is_longer o k ≡ true
longer-longer None n k h l = cc
longer-longer (Some len) n k h l = lt-ltb k len (omega (arith, ltb-true n len h))

data-front : (xs : List ℕ) (b : ℕ) → are_data (xs ++ b ∷ []) ≡ true → are_data xs ≡ true
data-front xs b h = (and_parts (are_data xs) (are_data (b ∷ [])) (sym (list_all-append (λ x. nat_lt x 128) xs (b ∷ [])) ∙ h)).0

-- what no byte of data begins begins with an opcode
opcode-by : (begins : List ℕ → Bool) (x : ℕ) (ys : List ℕ) → (x < 128 → begins (x ∷ ys) ≡ false) → begins (x ∷ ys) ≡ true → 128 ≤ x
opcode-by begins x ys none h = elim (cases_lt x 128) [
  | inl low ↦ absurd (both_ways (begins (x ∷ ys)) (none low) h)
  | inr high ↦ high
]

pub opcode : (x : ℕ) (ys : List ℕ) → is_whole (x ∷ ys) ≡ true → 128 ≤ x
opcode x ys = opcode-by is_whole x ys (whole-data x ys)

-- a message without its last byte is unfinished
pub unfinished-before_whole : (x : ℕ) (xs : List ℕ) (b : ℕ) → is_whole (x ∷ xs ++ b ∷ []) ≡ true → is_unfinished (x ∷ xs) ≡ true
unfinished-before_whole x [] b h = le-leb 128 x (opcode x (b ∷ []) h)
unfinished-before_whole x (s ∷ m) b h =
    let form = (and_parts (has_form (x ∷ s ∷ m ++ b ∷ [])) _ h).0 in
    let p = and_parts (is_len (message_len x s) (length (x ∷ s ∷ m ++ b ∷ []))) (are_data (s ∷ m ++ b ∷ [])) form in
    and_from _ _ (len-longer (message_len x s) _ (length (x ∷ s ∷ m)) p.0 (omega (arith, length-append m (b ∷ [])))) (data-front (s ∷ m) b p.1)

opcode-unfinished : (x : ℕ) (ys : List ℕ) → is_unfinished (x ∷ ys) ≡ true → 128 ≤ x
opcode-unfinished x ys = opcode-by is_unfinished x ys (unfinished-data x ys)

pub unfinished-before : (x : ℕ) (xs : List ℕ) (b : ℕ) → is_unfinished (x ∷ xs ++ b ∷ []) ≡ true → is_unfinished (x ∷ xs) ≡ true
unfinished-before x [] b h = le-leb 128 x (opcode-unfinished x (b ∷ []) h)
unfinished-before x (s ∷ m) b h =
    let p = and_parts (is_longer (message_len x s) (length (x ∷ s ∷ m ++ b ∷ []))) (are_data (s ∷ m ++ b ∷ [])) h in
    and_from _ _ (longer-longer (message_len x s) _ (length (x ∷ s ∷ m)) p.0 (omega (arith, length-append m (b ∷ [])))) (data-front (s ∷ m) b p.1)

not-from : (p q : Bool) → (p ≡ true → q ≡ true) → q ≡ false → p ≡ false
not-from true q f e = absurd (both_ways q e (f refl))
not-from false q f e = refl

at_end-skip : (x : ℕ) (xs : List ℕ) → is_whole (x ∷ xs) ≡ false → message_at_end (x ∷ xs) ≡ message_at_end xs
at_end-skip x xs h = rw h refl

pub unfinished-skip : (x : ℕ) (xs : List ℕ) → is_unfinished (x ∷ xs) ≡ false → unfinished_of (x ∷ xs) ≡ unfinished_of xs
unfinished-skip x xs h = rw h refl

unfinished-here : (x : ℕ) (xs : List ℕ) → is_unfinished (x ∷ xs) ≡ true → unfinished_of (x ∷ xs) ≡ x ∷ xs
unfinished-here x xs h = rw h refl

-- what passes over a byte that begins nothing unfinished looks, with one byte more, at what is
-- unfinished alone
rest-by : {X : Type 0} (f : List ℕ → X) (b : ℕ) → ((x : ℕ) (xs : List ℕ) → is_unfinished (x ∷ xs) ≡ false → f (x ∷ (xs ++ b ∷ [])) ≡ f (xs ++ b ∷ []))
    → (xs : List ℕ) → f (xs ++ b ∷ []) ≡ f (unfinished_of xs ++ b ∷ [])
rest-by f b skip [] = refl
rest-by f b skip (x ∷ xs) = elim (cases_Bool (is_unfinished (x ∷ xs))) [
  | inl here ↦ ap (λ (w : List ℕ). f (w ++ b ∷ [])) (sym (unfinished-here x xs here))
  | inr past ↦ skip x xs past ∙ rest-by f b skip xs ∙ ap (λ (w : List ℕ). f (w ++ b ∷ [])) (sym (unfinished-skip x xs past))
]

pub at_end-rest : (xs : List ℕ) (b : ℕ) → message_at_end (xs ++ b ∷ []) ≡ message_at_end (unfinished_of xs ++ b ∷ [])
at_end-rest xs b = rest-by message_at_end b (λ x ys past. at_end-skip x (ys ++ b ∷ []) (not-from _ _ (unfinished-before_whole x ys b) past)) xs

pub unfinished-rest : (xs : List ℕ) (b : ℕ) → unfinished_of (xs ++ b ∷ []) ≡ unfinished_of (unfinished_of xs ++ b ∷ [])
unfinished-rest xs b = rest-by unfinished_of b (λ x ys past. unfinished-skip x (ys ++ b ∷ []) (not-from _ _ (unfinished-before x ys b) past)) xs

pub unfinished-whole : (w : List ℕ) → is_unfinished w ≡ true → unfinished_of w ≡ w
unfinished-whole [] h = refl
unfinished-whole (x ∷ xs) h = unfinished-here x xs h

pub unfinished-once : (xs : List ℕ) → unfinished_of (unfinished_of xs) ≡ unfinished_of xs
unfinished-once xs = unfinished-whole (unfinished_of xs) (is_unfinished-unfinished_of xs)
