use Rattle.std.proofs.Common.{◌≡◌, ◌<◌, ◌^◌, ℕ, List, Option, Some, None, Result, Ok, Err, refl, subst}
use Rattle.std.specs.Prelude.{MatchOption}
use Rattle.std.specs.Str.Parse.{ExplainsUnsignedError, HasUnsignedDigitsIfOk, ParsesUnsigned}
use Rattle.clap.specs.Words.{ReadsOne, Text, found_of}
use Rattle.clap.proofs.WalkLemmas.{one_text-rows}
use Rattle.command_line.specs.Values.{Writes, WritesNone}
use Rattle.command_line.proofs.values.any_number.Goals as goal

-- the number read from a text, by cases on the result
read : {E : Type 0} (gives : List ℕ → Result ℕ E → Type 0) (o : Option Text) (r : Option ℕ)
    → (o ≡ None → r ≡ None) → ((t : Text) → o ≡ Some t → ReadsOne gives t r) → ((t : Text) (n : ℕ) → gives t (Ok n) → Writes (Some t) n) → ((t : Text) (e : E) → gives t (Err e) → WritesNone (Some t))
    → MatchOption r (WritesNone o) (λ n. Writes o n)
read gives None None none some ok err = λ n small is. is
read gives (Some t) None none some ok err = let found = some t refl in err t found.0 found.1
read gives None (Some v) none some ok err = let bad : Some v ≡ None = none refl in cc
read gives (Some t) (Some v) none some ok err = ok t v (some t refl)

pub returns : goal.returns
returns c = subst (λ (o : Option Text). MatchOption c.get_one.result (WritesNone o) (λ n. Writes o n)) (one_text-rows (found_of c.args.found.now) c.args.id.now)
    (read (λ bs r. ParsesUnsigned 32 10 bs r × ExplainsUnsignedError 10 bs r × HasUnsignedDigitsIfOk bs r) _ c.get_one.result c.get_one.ensures.none c.get_one.ensures.value
    (λ t n g. (g.0.0.0, g.0.1))
    (λ t e g n small is. g.0 (is.0, subst (λ (m : ℕ). m < 2 ^ 32) is.1 small)))
