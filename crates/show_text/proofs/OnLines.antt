-- What holds of every command that a script can say.
use Rattle.std.proofs.Common.{◌≡◌, ℕ, ◌+◌, ◌<◌, true, false, Bool, IsTrue, List, [], ◌∷◌, Result, Ok, Err, nat_eq, nat_lt, length, codes, if◌then◌else◌, refl, ◌∙◌}
use Rattle.std.proofs.lemmas.Bool.{and_from, cond_both, lt-ltb, ltb-true}
use Rattle.std.proofs.lemmas.List.Folds.{list_all-append}
use Rattle.std.specs.List.{list_all, starts_with}
use Rattle.std.specs.Str.{bytes_eq}
use Rattle.std.specs.Str.Lines.{lines}
use Rattle.show_text.specs.declared.command.Command.{Command}
use Rattle.show_text.specs.declared.command.Command.TheVariants.{Byte, Turns, Show}
use Rattle.show_text.specs.declared.command.ScriptFaultKind.{ScriptFaultKind}
use Rattle.show_text.specs.declared.command.ScriptFaultKind.TheVariants.{BadWord, BadNumber, BadLine, TooLong}
use Rattle.text.specs.Sequence.{followed_by}
use Rattle.text.specs.Words.{words_of, is_empty}
use Rattle.show_text.specs.Script.{◌>>=◌, number_of, below, is_count, count_of, byte_of, byte_command, bytes_of, some_bytes, line_of, missed_of, turn_of, show_of, after_word, command_of, line_commands, fault_at, at_line, commands_of, script_of, is_on_line, AreOnLines, is_counted, AreCounted}

-- what each kind of command is to pass
record AcceptsLine (count : ℕ) (p : Command → Bool) : Type 0 where
  byte : (l b : ℕ) → l < count → p (Byte l b) ≡ true
  turns : (n missed : ℕ) → is_count n ≡ true → p (Turns n missed) ≡ true
  show : p Show ≡ true

-- all that is read passes, where there is no fault
abbrev Read : {E : Type 0} → (Command → Bool) → Result (List Command) E → Type 0
Read p (Ok commands) = IsTrue (list_all p commands)
Read p (Err fault) = Unit {0}

followed : {E : Type 0} (p : Command → Bool) (first more : Result (List Command) E) → Read p first → Read p more → Read p (followed_by first more)
followed p (Ok cs) (Ok ds) h k = list_all-append p cs ds ∙ and_from _ _ h k
followed p (Ok cs) (Err e) h k = tt
followed p (Err e) more h k = tt

bound : {A : Type 0} (p : Command → Bool) (r : Result A ScriptFaultKind) (f : A → Result (List Command) ScriptFaultKind) → ((x : A) → r ≡ Ok x → Read p (f x)) → Read p (r >>= f)
bound p (Ok x) f h = h x refl
bound p (Err e) f h = tt

-- a number that is tested passed the test
tested : (test : ℕ → Bool) (n : ℕ) (why : ScriptFaultKind) (r : Result ℕ ScriptFaultKind) → (r >>= (λ m. if test m then Ok m else Err why)) ≡ Ok n → test n ≡ true
tested test n why (Ok m) h = kept (test m) refl h
  where
    kept : (b : Bool) → test m ≡ b → (if b then Ok m else Err why) ≡ Ok n → test n ≡ true
    kept true e k =
        let same : m ≡ n = cc in
        rw (← same) e
    kept false e k = cc
tested test n why (Err e) h = cc

below-small : (limit n : ℕ) (why : ScriptFaultKind) (word : List ℕ) → below limit why word ≡ Ok n → n < limit
below-small limit n why word h = ltb-true n limit (tested (λ m. nat_lt m limit) n why (number_of word) h)

one_byte : (count l : ℕ) (p : Command → Bool) (word : List ℕ) → AcceptsLine count p → l < count → Read p (byte_command l word)
one_byte count l p word passes h = bound p (byte_of word) (λ b. Ok (Byte l b ∷ [])) (λ b e. and_from (p (Byte l b)) true (passes.byte l b h) refl)

bytes : (count l : ℕ) (p : Command → Bool) (words : List (List ℕ)) → AcceptsLine count p → l < count → Read p (bytes_of l words)
unfolding bytes_of
bytes count l p [] passes h = refl
bytes count l p (word ∷ words) passes h = followed p (byte_command l word) (bytes_of l words) (one_byte count l p word passes h) (bytes count l p words passes h)

line : (count : ℕ) (p : Command → Bool) (words : List (List ℕ)) → AcceptsLine count p → Read p (line_of count words)
line count p [] passes = tt
line count p (word ∷ words) passes =
    bound p (below count BadLine word) (λ l. some_bytes l words) (λ l e.
    cond_both (is_empty words) (Err BadWord) (bytes_of l words) (Read p) (λ _. tt) (λ _. bytes count l p words passes (below-small count l BadLine word e)))

turn : (count nodes : ℕ) (p : Command → Bool) (words : List (List ℕ)) → AcceptsLine count p → Read p (turn_of nodes words)
turn count nodes p [] passes = tt
turn count nodes p (word ∷ words) passes =
    bound p (count_of word) (λ n. missed_of nodes words >>= (λ missed. Ok (Turns n missed ∷ []))) (λ n e.
    bound p (missed_of nodes words) (λ missed. Ok (Turns n missed ∷ [])) (λ missed _.
    and_from (p (Turns n missed)) true (passes.turns n missed (tested is_count n BadNumber (number_of word) e)) refl))

show : (count : ℕ) (p : Command → Bool) (words : List (List ℕ)) → AcceptsLine count p → Read p (show_of words)
show count p words passes = cond_both (is_empty words) (Ok (Show ∷ [])) (Err BadWord) (Read p) (λ _. and_from (p Show) true passes.show refl) (λ _. tt)

after : (count nodes : ℕ) (p : Command → Bool) (word : List ℕ) (words : List (List ℕ)) → AcceptsLine count p → Read p (after_word count nodes word words)
after count nodes p word words passes =
    cond_both (bytes_eq word (codes "line")) (line_of count words) _ (Read p) (λ _. line count p words passes) (λ _.
    cond_both (bytes_eq word (codes "turn")) (turn_of nodes words) _ (Read p) (λ _. turn count nodes p words passes) (λ _.
    cond_both (bytes_eq word (codes "show")) (show_of words) (Err BadWord) (Read p) (λ _. show count p words passes) (λ _. tt)))

command : (count nodes : ℕ) (p : Command → Bool) (words : List (List ℕ)) → AcceptsLine count p → Read p (command_of count nodes words)
command count nodes p [] passes = refl
command count nodes p (word ∷ words) passes = after count nodes p word words passes

one_line : (count nodes : ℕ) (p : Command → Bool) (text : List ℕ) → AcceptsLine count p → Read p (line_commands count nodes text)
one_line count nodes p text passes =
    cond_both (starts_with nat_eq text (codes "#")) (Ok []) (command_of count nodes (words_of text)) (Read p) (λ _. refl) (λ _. command count nodes p (words_of text) passes)

at : (n : ℕ) (p : Command → Bool) (r : Result (List Command) ScriptFaultKind) → Read p r → Read p (at_line n r)
at n p (Ok cs) h = h
at n p (Err e) h = tt

all_lines : (count nodes n : ℕ) (p : Command → Bool) (texts : List (List ℕ)) → AcceptsLine count p → Read p (commands_of count nodes n texts)
unfolding commands_of
all_lines count nodes n p [] passes = refl
all_lines count nodes n p (text ∷ more) passes =
    followed p (at_line n (line_commands count nodes text)) (commands_of count nodes (n + 1) more) (at n p (line_commands count nodes text) (one_line count nodes p text passes)) (all_lines count nodes (n + 1) p more passes)

script : (count nodes : ℕ) (p : Command → Bool) (text : List ℕ) → AcceptsLine count p → Read p (script_of count nodes text)
script count nodes p text passes =
    cond_both (nat_lt 1048576 (length text)) (Err (fault_at TooLong 0)) (commands_of count nodes 1 (lines text)) (Read p) (λ _. tt) (λ _. all_lines count nodes 1 p (lines text) passes)

given : {E : Type 0} (p : Command → Bool) (r : Result (List Command) E) (commands : List Command) → Read p r → r ≡ Ok commands → IsTrue (list_all p commands)
given p (Ok cs) commands h e =
    let same : cs ≡ commands = cc in
    rw (← same) h
given p (Err f) commands h e = cc

on_line : (count : ℕ) → AcceptsLine count (is_on_line count)
on_line count = record { byte = λ l b h. lt-ltb l count h; turns = λ n missed _. refl; show = refl }

counted : (count : ℕ) → AcceptsLine count is_counted
counted count = record { byte = λ l b _. refl; turns = λ n missed h. h; show = refl }

pub on_lines : (count nodes : ℕ) (text : List ℕ) (commands : List Command) → script_of count nodes text ≡ Ok commands → AreOnLines count commands
on_lines count nodes text commands e = given (is_on_line count) (script_of count nodes text) commands (script count nodes (is_on_line count) text (on_line count)) e

pub are_counted : (count nodes : ℕ) (text : List ℕ) (commands : List Command) → script_of count nodes text ≡ Ok commands → AreCounted commands
are_counted count nodes text commands e = given is_counted (script_of count nodes text) commands (script count nodes is_counted text (counted count)) e
