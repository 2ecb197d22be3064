-- Buffered bytes, after those that an output holds.
use Rattle.std.proofs.Common.{◌≡◌, ℕ, List, [], ◌++◌, take, drop, append_assoc, append-nil, Option, Some, None, ap, sym, ◌∙◌}
use Rattle.std.proofs.lemmas.List.{take-append-drop}
use Rattle.std.specs.Prelude.{Result, Ok, Err, OnOk}
use Rattle.std.specs.Io.KnownBytes.{Appends, Keeps, append_known}

-- n more bytes were written
pub written_more : (old o p : Option (List ℕ)) (waiting later : List ℕ) (n : ℕ) → Keeps old (append_known o waiting) → Appends o p (take n waiting) → later ≡ drop n waiting
    → Keeps old (append_known p later)
written_more None o p waiting later n kept more is = tt
written_more (Some xs) None p waiting later n kept more is = absurd kept
written_more (Some xs) (Some os) None waiting later n kept more is = absurd more
written_more (Some xs) (Some os) (Some ps) waiting later n kept more is =
    ap (λ (bs : List ℕ). bs ++ later) more ∙ append_assoc os (take n waiting) later ∙ ap (λ (bs : List ℕ). os ++ (take n waiting ++ bs)) is
    ∙ ap (λ (bs : List ℕ). os ++ bs) (take-append-drop n waiting) ∙ kept

-- all was written, and the buffer is empty
emptied : (old o p : Option (List ℕ)) (waiting : List ℕ) → waiting ≡ [] → Keeps old (append_known o waiting) → Keeps o p → Keeps old p
emptied None o p waiting none kept flushed = tt
emptied (Some xs) None p waiting none kept flushed = absurd kept
emptied (Some xs) (Some os) None waiting none kept flushed = absurd flushed
emptied (Some xs) (Some os) (Some ps) waiting none kept flushed =
    flushed ∙ sym (append-nil os) ∙ ap (λ (bs : List ℕ). os ++ bs) (sym none) ∙ kept

pub flushed_all : {A E : Type 0} (r : Result A E) (old o p : Option (List ℕ)) (waiting : List ℕ) (written : ℕ) → waiting ≡ [] → written ≡ 0
    → Keeps old (append_known o (drop written waiting)) → Keeps o p → OnOk r (Keeps old p)
flushed_all (Ok a) old o p waiting written none start kept flushed =
    emptied old o p (drop written waiting) (ap (drop written) none ∙ ap (λ (n : ℕ). drop n []) start) kept flushed
flushed_all (Err e) old o p waiting written none start kept flushed = tt
