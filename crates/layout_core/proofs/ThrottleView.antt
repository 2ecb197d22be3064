-- How steps on known bytes join.
use Rattle.std.proofs.Common.{ℕ, ◌+◌, List, [], ◌++◌, length, length-append, take, sym, subst, append_assoc, arith, Option, Result, Ok, Err, OnErr}
use Rattle.std.proofs.KnownBytes.{Appends-trans, Consumes-trans}
use Rattle.std.proofs.lemmas.List.{append-nil, take-append-le}
use Rattle.std.proofs.Math.Seq.{take-append-add}
use Rattle.std.specs.Io.KnownBytes.{Appends, Consumes}
use Rattle.layout_core.specs.Faults.{AppendsFront}

-- nothing was left to consume
pub Consumes-end : (a b c : Option (List ℕ)) (xs : List ℕ) → Consumes a b xs → Consumes b c [] → Consumes a c xs
Consumes-end a b c xs h k = subst (λ (bs : List ℕ). Consumes a c bs) (append-nil xs) (Consumes-trans a b c xs [] h k)

-- a prefix of more, after what was appended whole
pub front_behind : (a b c : Option (List ℕ)) (xs whole cut : List ℕ) → Appends a b xs → AppendsFront b c whole cut → AppendsFront a c (xs ++ whole) cut
front_behind a b c xs whole cut h front =
    (front.0, front.1, subst (λ (bs : List ℕ). Appends a c bs) (sym (append_assoc xs whole (take front.0 cut))) (Appends-trans a b c xs (whole ++ take front.0 cut) h front.2))

-- a prefix of a list is a prefix of that list and more
pub front_of_first : (a b : Option (List ℕ)) (xs ys : List ℕ) → AppendsFront a b [] xs → AppendsFront a b [] (xs ++ ys)
front_of_first a b xs ys front = (
  front.0,
  omega (arith, front.1, length-append xs ys),
  subst (λ (bs : List ℕ). Appends a b bs) (sym (take-append-le front.0 xs ys (omega (arith, front.1)))) front.2,
)

pub on_err : {X Y P : Type 0} (r : Result X Y) → P → OnErr r P
on_err (Ok x) holds = tt
on_err (Err y) holds = holds

-- both are one list
pub front_of_both : (a b c : Option (List ℕ)) (xs ys : List ℕ) → Appends a b xs → AppendsFront b c [] ys → AppendsFront a c [] (xs ++ ys)
front_of_both a b c xs ys h front = (
  length xs + front.0,
  omega (arith, front.1, length-append xs ys),
  subst (λ (bs : List ℕ). Appends a c bs) (sym (take-append-add xs ys front.0)) (Appends-trans a b c xs (take front.0 ys) h front.2),
)
