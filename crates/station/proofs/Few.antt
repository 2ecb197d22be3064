-- A script has fewer turns than can be numbered: a line requests at most a million, and there is at
-- most one line more than bytes.
use Rattle.std.proofs.Common.{◌≡◌, ℕ, ◌+◌, ◌*◌, ◌^◌, ◌==◌, ◌<◌, ◌≤◌, true, false, Bool, List, [], ◌∷◌, ◌++◌, Result, Ok, Err, nat_eq, nat_lt, nat_le, length, codes, if◌then◌else◌, refl, ap, ◌∙◌, arith}
use Rattle.std.proofs.lemmas.Bool.{and_parts, cond_both, leb-true, ltb-false}
use Rattle.std.proofs.lemmas.Bool.Decides.{nat_tests}
use Rattle.std.proofs.lemmas.List.Sums.{count_by-le-length}
use Rattle.std.proofs.lemmas.List.Splits.{length-slice_split}
use Rattle.std.specs.List.{slice_split, starts_with}
use Rattle.std.specs.Str.{bytes_eq}
use Rattle.std.specs.Str.Lines.{lines, lines_of_parts}
use Rattle.show_text.specs.declared.command.Command.{Command}
use Rattle.show_text.specs.declared.command.Command.TheVariants.{Byte, Turns, Show}
use Rattle.show_text.specs.declared.command.ScriptFaultKind.{ScriptFaultKind}
use Rattle.show_text.specs.declared.command.ScriptFaultKind.TheVariants.{BadWord, BadNumber, BadLine, TooLong}
use Rattle.text.specs.Sequence.{followed_by}
use Rattle.text.specs.Words.{words_of, is_empty}
use Rattle.show_text.specs.Script.{◌>>=◌, number_of, below, is_count, count_of, byte_of, byte_command, bytes_of, some_bytes, line_of, missed_of, turn_of, show_of, after_word, command_of, line_commands, fault_at, at_line, commands_of, script_of}
use Rattle.station.specs.Replayed.{events_in, events_of, turns_among}
use Rattle.station.proofs.Replaying.{events-append, turns-append, turns_of_many}

-- the commands read have at most this number of turns
abbrev Few : {E : Type 0} → ℕ → Result (List Command) E → Type 0
Few most (Ok commands) = turns_among (events_in commands) ≤ most
Few most (Err fault) = Unit {0}

followed : {E : Type 0} (m n : ℕ) (first more : Result (List Command) E) → Few m first → Few n more → Few (m + n) (followed_by first more)
followed m n (Ok cs) (Ok ds) h k =
    let all : turns_among (events_in (cs ++ ds)) ≡ turns_among (events_in cs) + turns_among (events_in ds) = ap turns_among (events-append cs ds) ∙ turns-append (events_in cs) (events_in ds) in
    omega (arith, all, h, k)
followed m n (Ok cs) (Err e) h k = tt
followed m n (Err e) more h k = tt

bound : {A : Type 0} (m : ℕ) (r : Result A ScriptFaultKind) (f : A → Result (List Command) ScriptFaultKind) → ((x : A) → r ≡ Ok x → Few m (f x)) → Few m (r >>= f)
bound m (Ok x) f h = h x refl
bound m (Err e) f h = tt

more_than : {E : Type 0} (m n : ℕ) (r : Result (List Command) E) → m ≤ n → Few m r → Few n r
more_than m n (Ok cs) le h = omega (arith, le, h)
more_than m n (Err e) le h = tt

-- a number of turns that passed its test
counted : (n : ℕ) (r : Result ℕ ScriptFaultKind) → (r >>= (λ m. if is_count m then Ok m else Err BadNumber)) ≡ Ok n → n ≤ 1000000
counted n (Ok m) h = kept (is_count m) refl h
  where
    kept : (b : Bool) → is_count m ≡ b → (if b then Ok m else Err BadNumber) ≡ Ok n → n ≤ 1000000
    kept true e k =
        let same : m ≡ n = cc in
        let least : m ≤ 1000000 = leb-true m 1000000 (and_parts (nat_le 1 m) (nat_le m 1000000) e).1 in
        omega (arith, same, least)
    kept false e k = cc
counted n (Err e) h = cc

none : turns_among (events_in []) ≤ 0
none = omega arith

one_byte : (l : ℕ) (word : List ℕ) → Few 0 (byte_command l word)
one_byte l word = bound 0 (byte_of word) (λ b. Ok (Byte l b ∷ [])) (λ b e. none)

bytes : (l : ℕ) (words : List (List ℕ)) → Few 0 (bytes_of l words)
unfolding bytes_of
bytes l [] = none
bytes l (word ∷ words) = followed 0 0 (byte_command l word) (bytes_of l words) (one_byte l word) (bytes l words)

line : (count : ℕ) (words : List (List ℕ)) → Few 0 (line_of count words)
line count [] = tt
line count (word ∷ words) =
    bound 0 (below count BadLine word) (λ l. some_bytes l words) (λ l e.
    cond_both (is_empty words) (Err BadWord) (bytes_of l words) (Few 0) (λ _. tt) (λ _. bytes l words))

turn : (nodes : ℕ) (words : List (List ℕ)) → Few 1000000 (turn_of nodes words)
turn nodes [] = tt
turn nodes (word ∷ words) =
    bound 1000000 (count_of word) (λ n. missed_of nodes words >>= (λ missed. Ok (Turns n missed ∷ []))) (λ n e.
    bound 1000000 (missed_of nodes words) (λ missed. Ok (Turns n missed ∷ [])) (λ missed _.
    let all : turns_among (events_of (Turns n missed) ++ []) ≡ turns_among (events_of (Turns n missed)) + 0 = turns-append (events_of (Turns n missed)) [] in
    omega (arith, all, turns_of_many n missed, counted n (number_of word) e)))

show : (words : List (List ℕ)) → Few 0 (show_of words)
show words = cond_both (is_empty words) (Ok (Show ∷ [])) (Err BadWord) (Few 0) (λ _. none) (λ _. tt)

after : (count nodes : ℕ) (word : List ℕ) (words : List (List ℕ)) → Few 1000000 (after_word count nodes word words)
after count nodes word words =
    cond_both (bytes_eq word (codes "line")) (line_of count words) _ (Few 1000000) (λ _. more_than 0 1000000 (line_of count words) (omega arith) (line count words)) (λ _.
    cond_both (bytes_eq word (codes "turn")) (turn_of nodes words) _ (Few 1000000) (λ _. turn nodes words) (λ _.
    cond_both (bytes_eq word (codes "show")) (show_of words) (Err BadWord) (Few 1000000) (λ _. more_than 0 1000000 (show_of words) (omega arith) (show words)) (λ _. tt)))

no_more : turns_among (events_in []) ≤ 1000000
no_more = omega arith

command : (count nodes : ℕ) (words : List (List ℕ)) → Few 1000000 (command_of count nodes words)
command count nodes [] = no_more
command count nodes (word ∷ words) = after count nodes word words

one_line : (count nodes : ℕ) (text : List ℕ) → Few 1000000 (line_commands count nodes text)
one_line count nodes text =
    cond_both (starts_with nat_eq text (codes "#")) (Ok []) (command_of count nodes (words_of text)) (Few 1000000) (λ _. no_more) (λ _. command count nodes (words_of text))

at : (n : ℕ) (r : Result (List Command) ScriptFaultKind) → Few 1000000 r → Few 1000000 (at_line n r)
at n (Ok cs) h = h
at n (Err e) h = tt

all_lines : (count nodes n : ℕ) (texts : List (List ℕ)) → Few (1000000 * length texts) (commands_of count nodes n texts)
unfolding commands_of
all_lines count nodes n [] = none
all_lines count nodes n (text ∷ more) =
    more_than (1000000 + 1000000 * length more) (1000000 * length (text ∷ more)) (followed_by (at_line n (line_commands count nodes text)) (commands_of count nodes (n + 1) more)) (omega arith)
    (followed 1000000 (1000000 * length more) (at_line n (line_commands count nodes text)) (commands_of count nodes (n + 1) more) (at n (line_commands count nodes text) (one_line count nodes text)) (all_lines count nodes (n + 1) more))

few_parts : (parts : List (List ℕ)) → length (lines_of_parts parts) ≤ length parts
few_parts [] = omega arith
few_parts (x ∷ []) = grind (arith, nat_tests)
few_parts (x ∷ y ∷ more) = omega (arith, few_parts (y ∷ more))

few_lines : (text : List ℕ) → length (lines text) ≤ length text + 1
few_lines text =
    let feeds : ℕ → Bool = λ b. b == 10 in
    omega (arith, few_parts (slice_split feeds text), length-slice_split feeds text, count_by-le-length feeds text)

few_in_all : (count nodes : ℕ) (text : List ℕ) → Few (1000000 * 1048577) (script_of count nodes text)
few_in_all count nodes text =
    cond_both (nat_lt 1048576 (length text)) (Err (fault_at TooLong 0)) (commands_of count nodes 1 (lines text)) (Few (1000000 * 1048577)) (λ _. tt) (λ short.
    let size : length text ≤ 1048576 = ltb-false 1048576 (length text) short in
    more_than (1000000 * length (lines text)) (1000000 * 1048577) (commands_of count nodes 1 (lines text)) (omega (arith, few_lines text, size)) (all_lines count nodes 1 (lines text)))

given : {E : Type 0} (m : ℕ) (r : Result (List Command) E) (commands : List Command) → Few m r → r ≡ Ok commands → turns_among (events_in commands) ≤ m
given m (Ok cs) commands h e =
    let same : cs ≡ commands = cc in
    rw (← same) h
given m (Err f) commands h e = cc

pub can_be_numbered : (count nodes : ℕ) (text : List ℕ) (commands : List Command) → script_of count nodes text ≡ Ok commands → turns_among (events_in commands) + 1 < 2 ^ 64
can_be_numbered count nodes text commands e =
    let few : turns_among (events_in commands) ≤ 1000000 * 1048577 = given (1000000 * 1048577) (script_of count nodes text) commands (few_in_all count nodes text) e in
    omega (arith, few)
