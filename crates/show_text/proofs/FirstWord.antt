-- What a line says by its first word.
use Rattle.std.proofs.Common.{◌≡◌, ℕ, true, false, List, [], ◌∷◌, drop, Ok, Err, codes, nat_lt, refl}
use Rattle.std.specs.Prelude.{if◌then◌else◌}
use Rattle.show_text.specs.declared.command.ScriptFaultKind.{ScriptFaultKind}
use Rattle.show_text.specs.declared.command.ScriptFaultKind.TheVariants.{BadLine, BadNumber, BadWord}
use Rattle.show_text.specs.declared.command.Command.TheVariants.{Turns}
use Rattle.text.specs.Words.{is_empty, is_first}
use Rattle.show_text.specs.Script.{◌>>=◌, command_of, first_number_of, is_count, line_of, missed_of, some_bytes, turn_of}

pub no_words_say_nothing : (lines nodes : ℕ) (words : List (List ℕ)) → is_empty words ≡ true → command_of lines nodes words ≡ Ok []
no_words_say_nothing lines nodes [] h = refl
no_words_say_nothing lines nodes (word ∷ words) h = cc

pub other_word : (lines nodes : ℕ) (words : List (List ℕ)) → is_empty words ≡ false → is_first (codes "line") words ≡ false → is_first (codes "turn") words ≡ false → is_first (codes "show") words ≡ false
    → command_of lines nodes words ≡ Err BadWord
other_word lines nodes [] h line turn show = cc
other_word lines nodes (word ∷ words) h line turn show = rw (line, turn, show) refl

pub ruleset command_steps = (no_words_say_nothing, other_word)

pub none_missed : (nodes : ℕ) (words : List (List ℕ)) → is_empty words ≡ true → missed_of nodes words ≡ Ok 0
none_missed nodes [] h = refl
none_missed nodes (word ∷ words) h = cc

pub other_than_miss : (nodes : ℕ) (words : List (List ℕ)) → is_empty words ≡ false → is_first (codes "miss") words ≡ false → missed_of nodes words ≡ Err BadWord
other_than_miss nodes [] h other = cc
other_than_miss nodes (word ∷ words) h other = rw other refl

pub ruleset missed_steps = (none_missed, other_than_miss)

-- what follows the number of a line, or of turns

pub line_faults : (lines : ℕ) (words : List (List ℕ)) (why : ScriptFaultKind) → first_number_of words ≡ Err why → line_of lines words ≡ Err why
line_faults lines [] why h = cc
line_faults lines (word ∷ words) why h = rw h refl

pub line_known : (lines n : ℕ) (words : List (List ℕ)) → first_number_of words ≡ Ok n
    → line_of lines words ≡ ((if nat_lt n lines then Ok n else Err BadLine) >>= (λ l. some_bytes l (drop 1 words)))
line_known lines n [] h = cc
line_known lines n (word ∷ words) h = rw h refl

pub ruleset line_steps = (line_faults, line_known)

pub turns_fault : (nodes : ℕ) (words : List (List ℕ)) (why : ScriptFaultKind) → first_number_of words ≡ Err why → turn_of nodes words ≡ Err why
turns_fault nodes [] why h = cc
turns_fault nodes (word ∷ words) why h = rw h refl

pub turns_known : (nodes n : ℕ) (words : List (List ℕ)) → first_number_of words ≡ Ok n
    → turn_of nodes words ≡ ((if is_count n then Ok n else Err BadNumber) >>= (λ n. missed_of nodes (drop 1 words) >>= (λ missed. Ok (Turns n missed ∷ []))))
turns_known nodes n [] h = cc
turns_known nodes n (word ∷ words) h = rw h refl

pub ruleset turn_steps = (turns_fault, turns_known)
