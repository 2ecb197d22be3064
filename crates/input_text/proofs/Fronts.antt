-- A text that is written piece by piece, and a prefix of it.
use Rattle.std.proofs.Common.{◌≡◌, ◌<◌, ℕ, suc, ◌+◌, ◌-◌, List, [], ◌∷◌, ◌++◌, length, length-append, take, drop, append_assoc, append-nil, Option, refl, ap, sym, subst, ◌∙◌, arith}
use Rattle.std.specs.Prelude.{Result, Ok, Err, OnErr}
use Rattle.std.specs.Io.KnownBytes.{Appends, Keeps}
use Rattle.std.proofs.KnownBytes.{Appends-kept, Appends-nil, Appends-trans}
use Rattle.std.proofs.Math.Seq.{take-append-add, take-append_seam}
use Rattle.std.proofs.lemmas.List.{take-append-drop, take-append-le, take_rest}
use Rattle.input_text.specs.Write.{AppendsFront}

-- a prefix of the text has been written, and this is the rest
abbrev pub HasWritten : (old new : Option (List ℕ)) → (text rest : List ℕ) → Type 0
HasWritten old new text rest = (written : List ℕ) × Appends old new written × (text ≡ written ++ rest)

pub written_none : (o : Option (List ℕ)) (text : List ℕ) → HasWritten o o text text
written_none o text = ([], Appends-nil o, refl)

-- `k` more bytes were written, and this is the rest
pub written_part : (o p q : Option (List ℕ)) (text rest left : List ℕ) (k : ℕ) → HasWritten o p text rest → Appends p q (take k rest) → left ≡ take (length rest - k) (drop k rest) → HasWritten o q text left
written_part o p q text rest left k so_far more is =
    let written = so_far.0 in
    let parts : rest ≡ take k rest ++ left = sym (ap (λ (bs : List ℕ). take k rest ++ bs) (is ∙ take_rest rest k) ∙ take-append-drop k rest) in
    (written ++ take k rest, Appends-trans o p q written (take k rest) so_far.1 more, so_far.2 ∙ ap (λ (bs : List ℕ). written ++ bs) parts ∙ sym (append_assoc written (take k rest) left))

pub written_all : (o p : Option (List ℕ)) (text rest : List ℕ) → HasWritten o p text rest → length rest ≡ 0 → Appends o p text
written_all o p text [] so_far none = subst (λ (bs : List ℕ). Appends o p bs) (sym (so_far.2 ∙ append-nil so_far.0)) so_far.1
written_all o p text (b ∷ rest) so_far none = absurd (omega (arith, none))

-- a prefix of a text, of which this rest is not written
pub front_of : (o p q : Option (List ℕ)) (text rest : List ℕ) → HasWritten o p text rest → 0 < length rest → Keeps p q → AppendsFront o q text
front_of o p q text rest so_far some kept =
    let front : List ℕ = so_far.0 in
    let sum : length text ≡ length front + length rest = ap length so_far.2 ∙ length-append front rest in (
      length front,
      omega (arith, sum, some),
      subst (λ (bs : List ℕ). Appends o q bs) (sym (ap (take (length front)) so_far.2 ∙ take-append_seam front rest)) (Appends-kept o p q front so_far.1 kept),
    )

take_within : (n : ℕ) (front back : List ℕ) → n < length front → take n (front ++ back) ≡ take n front
take_within n front back below = take-append-le n front back (omega (arith, below))

-- a prefix of the first part is a prefix of the whole
pub front_before : (o p : Option (List ℕ)) (text more : List ℕ) → AppendsFront o p text → AppendsFront o p (text ++ more)
front_before o p text more front =
    let n : ℕ = front.0 in
    let sum : length (text ++ more) ≡ length text + length more = length-append text more in
    (n, omega (arith, front.1, sum), subst (λ (bs : List ℕ). Appends o p bs) (sym (take_within n text more front.1)) front.2)

-- so is all of the first part followed by a prefix of the second
pub front_behind : (o p q : Option (List ℕ)) (text more : List ℕ) → Appends o p text → AppendsFront p q more → AppendsFront o q (text ++ more)
front_behind o p q text more whole front =
    let n : ℕ = front.0 in
    let sum : length (text ++ more) ≡ length text + length more = length-append text more in (
      length text + n,
      omega (arith, front.1, sum),
      subst (λ (bs : List ℕ). Appends o q bs) (sym (take-append-add text more n)) (Appends-trans o p q text (take n more) whole front.2),
    )

pub on_err : {A E : Type 0} (r : Result A E) (P : Type 0) → P → OnErr r P
on_err (Ok a) P holds = tt
on_err (Err e) P holds = holds
