-- Reading from left to right, one part after the other.
use Rattle.std.proofs.Common.{◌≡◌, List, [], ◌++◌, Result, Ok, Err, refl, sym, ap}
use Rattle.std.proofs.lemmas.List.{append-nil, append_assoc}
use Rattle.text.specs.Sequence.{before, followed_by}

-- once the first part is read, the rest is read after it
pub goes_on : {A E : Type 0} (old mid : List A) (first more : Result (List A) E) → before old first ≡ Ok mid → before old (followed_by first more) ≡ before mid more
goes_on old mid (Ok cs) (Ok ds) h =
    let e : old ++ cs ≡ mid = cc in
    rw (← e) (ap Ok (sym (append_assoc old cs ds)))
goes_on old mid (Ok cs) (Err e) h = refl
goes_on old mid (Err e) more h = cc

pub ends : {A E : Type 0} (old : List A) → before {A = A} {E = E} old (Ok []) ≡ Ok old
ends old = ap Ok (append-nil old)

pub after_none : {A E : Type 0} (r : Result (List A) E) → before [] r ≡ r
after_none (Ok read) = refl
after_none (Err e) = refl
