-- The output, line after line.
use Rattle.std.proofs.Common.{◌≡◌, ◌<◌, ℕ, ◌+◌, List, [], ◌∷◌, ◌++◌, length, take, drop, get_or, Option, refl, ap, sym, subst, ◌∙◌, append_assoc}
use Rattle.std.proofs.lemmas.List.{append-nil, drop_more, take-append-drop, take_more}
use Rattle.std.specs.Io.KnownBytes.{Appends}
use Rattle.std.specs.Prelude.{Result, Ok, Err, OnErr}
use Rattle.console.specs.Printed.{ended, lines_text}
use Rattle.std.proofs.KnownBytes.{Appends-trans}

drop_more_get : (lines : List (List ℕ)) (i : ℕ) → i < length lines → drop i lines ≡ get_or lines i [] ∷ drop (i + 1) lines
drop_more_get lines i below = drop_more lines i [] below

pub lines-append : (lines more : List (List ℕ)) → lines_text (lines ++ more) ≡ lines_text lines ++ lines_text more
lines-append [] more = refl
lines-append (line ∷ lines) more = ap (λ bs. ended line ++ bs) (lines-append lines more) ∙ sym (append_assoc (ended line) (lines_text lines) (lines_text more))

-- a number of lines were printed, and the next one is
pub one_line_more : (lines : List (List ℕ)) (i : ℕ) (line : List ℕ) (old now new : Option (List ℕ)) → i < length lines → get_or lines i [] ≡ line → Appends old now (lines_text (take i lines)) → Appends now new (line ++ 10 ∷ [])
    → Appends old new (lines_text (take (i + 1) lines))
one_line_more lines i line old now new below is so_far more =
    let all : lines_text (take (i + 1) lines) ≡ lines_text (take i lines) ++ ended line =
    ap lines_text (take_more lines i [] below)
    ∙ lines-append (take i lines) (get_or lines i [] ∷ [])
    ∙ ap (λ (l : List ℕ). lines_text (take i lines) ++ (ended l ++ [])) is
    ∙ ap (λ (bs : List ℕ). lines_text (take i lines) ++ bs) (append-nil (ended line)) in
    subst (λ (bs : List ℕ). Appends old new bs) (sym all) (Appends-trans old now new (lines_text (take i lines)) (ended line) so_far more)

-- the lines before one, this one, and the lines after it
pub lines_around : (lines : List (List ℕ)) (i : ℕ) (line : List ℕ) → i < length lines → get_or lines i [] ≡ line
    → lines_text lines ≡ lines_text (take i lines) ++ (ended line ++ lines_text (drop (i + 1) lines))
lines_around lines i line below is =
    let whole : lines ≡ take i lines ++ (line ∷ drop (i + 1) lines) =
    sym (take-append-drop i lines) ∙ ap (λ (more : List (List ℕ)). take i lines ++ more) (drop_more_get lines i below ∙ ap (λ (l : List ℕ). l ∷ drop (i + 1) lines) is) in
    ap lines_text whole ∙ lines-append (take i lines) (line ∷ drop (i + 1) lines)

pub on_err : {A E : Type 0} (r : Result A E) (P : Type 0) → P → OnErr r P
on_err (Ok a) P holds = tt
on_err (Err e) P holds = holds
