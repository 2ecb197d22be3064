-- The lines of a text that is split at its line feeds.
use Rattle.std.proofs.Common.{◌≡◌, ℕ, ◌+◌, ◌≤◌, Bool, List, [], ◌∷◌, length, ◌==◌, refl, arith}
use Rattle.std.specs.List.{slice_split}
use Rattle.std.specs.Str.Lines.{lines, lines_of_parts, strip_carriage_return}
use Rattle.std.proofs.lemmas.Grind.{common_steps}
use Rattle.std.proofs.lemmas.Bool.Decides.{nat_tests}
use Rattle.std.proofs.lemmas.List.Splits.{length-slice_split}
use Rattle.std.proofs.lemmas.List.Sums.{count_by-le-length}

pub parts_after : (x : List ℕ) (p : ℕ → Bool) (rest : List ℕ) → lines_of_parts (x ∷ slice_split p rest) ≡ strip_carriage_return x ∷ lines_of_parts (slice_split p rest)
parts_after x p [] = refl
parts_after x p (b ∷ bs) = grind (arith, common_steps)

few_parts : (parts : List (List ℕ)) → length (lines_of_parts parts) ≤ length parts
few_parts [] = omega arith
few_parts (x ∷ []) = grind (arith, nat_tests)
few_parts (x ∷ y ∷ more) = omega (arith, few_parts (y ∷ more))

pub few_lines : (text : List ℕ) → length (lines text) ≤ length text + 1
few_lines text =
    let feeds : ℕ → Bool = λ b. b == 10 in
    omega (arith, few_parts (slice_split feeds text), length-slice_split feeds text, count_by-le-length feeds text)
