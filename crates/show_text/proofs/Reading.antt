-- Reading from left to right, one command after the other.
use Rattle.std.proofs.Common.{◌≡◌, ◌≢◌, ℕ, ◌+◌, ◌<◌, ◌≤◌, ◌++◌, Fits, w64, length, drop, arith, List, [], ◌∷◌, Option, Some, None, Result, Ok, Err, refl, sym, ap, ◌∙◌}
use Rattle.std.specs.Str.Lines.{lines}
use Rattle.std.proofs.lemmas.Bool.{lt-ltb}
use Rattle.std.proofs.lemmas.Bool.Decides.{nat_tests}
use Rattle.show_text.specs.declared.command.Command.{Command}
use Rattle.show_text.specs.declared.command.Command.TheVariants.{Byte}
use Rattle.show_text.specs.declared.command.ScriptFaultKind.{ScriptFaultKind}
use Rattle.show_text.specs.declared.command.ScriptFaultKind.TheVariants.{BadHex, NoMemory, TooLong}
use Rattle.show_text.specs.declared.command.ScriptFault.{ScriptFault}
use Rattle.text.specs.Sequence.{before, followed_by}
use Rattle.show_text.proofs.Cuts.{few_lines}
use Rattle.show_text.proofs.Sequences.{after_none, goes_on, stops, ends}
use Rattle.text.specs.Hex.{pair_of}
use Rattle.text.specs.Words.{first_value, value_or_invalid}
use Rattle.text.specs.declared.words.WordError.TheVariants.{Invalid, Missing}
use Rattle.show_text.specs.Script.{◌>>=◌, or_fault, bytes_of, line_commands, at_line, fault_at, commands_of, script_of}

pair_read : (line byte : ℕ) (old : List Command) (pair : Option ℕ) (more : Result (List Command) ScriptFaultKind) → value_or_invalid pair ≡ Ok byte
    → before old (followed_by (or_fault pair BadHex >>= (λ b. Ok (Byte line b ∷ []))) more) ≡ before (old ++ Byte line byte ∷ []) more
pair_read line byte old (Some b) more h =
    let same : b ≡ byte = cc in
    rw same (goes_on old (old ++ Byte line byte ∷ []) (Ok (Byte line byte ∷ [])) more refl)
pair_read line byte old None more h = cc

no_pair : (line : ℕ) (old : List Command) (pair : Option ℕ) (more : Result (List Command) ScriptFaultKind) → value_or_invalid pair ≡ Err Invalid
    → before old (followed_by (or_fault pair BadHex >>= (λ b. Ok (Byte line b ∷ []))) more) ≡ Err BadHex
no_pair line old (Some b) more h = cc
no_pair line old None more h = refl

-- one more byte is read
pub byte_goes_on : (line byte : ℕ) (old : List Command) (words : List (List ℕ)) → first_value pair_of words ≡ Ok byte
    → before old (bytes_of line words) ≡ before (old ++ Byte line byte ∷ []) (bytes_of line (drop 1 words))
unfolding bytes_of
byte_goes_on line byte old [] h = cc
byte_goes_on line byte old (word ∷ words) h = pair_read line byte old (pair_of word) (bytes_of line words) h

-- the first fault is that of this byte
pub byte_stops : (line : ℕ) (old : List Command) (words : List (List ℕ)) → first_value pair_of words ≡ Err Invalid → before old (bytes_of line words) ≡ Err BadHex
unfolding bytes_of
byte_stops line old [] h = cc
byte_stops line old (word ∷ words) h = no_pair line old (pair_of word) (bytes_of line words) h

missing : (pair : Option ℕ) → value_or_invalid pair ≡ Err Missing → ⊥
missing (Some b) h = cc
missing None h = cc

-- no byte is left
pub bytes_end : (line : ℕ) (old : List Command) (words : List (List ℕ)) → first_value pair_of words ≡ Err Missing → before old (bytes_of line words) ≡ Ok old
unfolding bytes_of
bytes_end line old [] h = ends old
bytes_end line old (word ∷ words) h = absurd (missing (pair_of word) h)

pub fewer_words : (byte : ℕ) (words : List (List ℕ)) → first_value pair_of words ≡ Ok byte → length (drop 1 words) < length words
fewer_words byte [] h = cc
fewer_words byte (word ∷ words) h = omega arith

pub ruleset byte_steps = (byte_goes_on, byte_stops, bytes_end, fewer_words)

at_line_ok : (n : ℕ) (old mid : List Command) (read : Result (List Command) ScriptFaultKind) → before old read ≡ Ok mid → before old (at_line n read) ≡ Ok mid
at_line_ok n old mid (Ok cs) h = cc
at_line_ok n old mid (Err why) h = cc

at_line_err : (n : ℕ) (old : List Command) (read : Result (List Command) ScriptFaultKind) (why : ScriptFaultKind) → before old read ≡ Err why → before old (at_line n read) ≡ Err (fault_at why n)
at_line_err n old (Ok cs) why h = cc
at_line_err n old (Err e) why h = cc

-- one more line of the script is read
pub line_goes_on : (lines nodes n : ℕ) (old mid : List Command) (line : List ℕ) (more all : List (List ℕ)) (total : Result (List Command) ScriptFault)
    → all ≡ line ∷ more → before old (line_commands lines nodes line) ≡ Ok mid → before old (commands_of lines nodes n all) ≡ total → before mid (commands_of lines nodes (n + 1) more) ≡ total
unfolding commands_of
line_goes_on lines nodes n old mid line more all total split read so_far =
    let now : before old (commands_of lines nodes n all) ≡ before mid (commands_of lines nodes (n + 1) more) =
    rw split (goes_on old mid (at_line n (line_commands lines nodes line)) (commands_of lines nodes (n + 1) more) (at_line_ok n old mid (line_commands lines nodes line) read)) in
    sym now ∙ so_far

-- the first fault of the script is that of this line
pub line_stops : (lines nodes n : ℕ) (old : List Command) (line : List ℕ) (more all : List (List ℕ)) (why : ScriptFaultKind) (total : Result (List Command) ScriptFault)
    → all ≡ line ∷ more → before old (line_commands lines nodes line) ≡ Err why → before old (commands_of lines nodes n all) ≡ total → total ≡ Err (fault_at why n)
unfolding commands_of
line_stops lines nodes n old line more all why total split fault so_far =
    let now : before old (commands_of lines nodes n all) ≡ Err (fault_at why n) =
    rw split (stops old (at_line n (line_commands lines nodes line)) (commands_of lines nodes (n + 1) more) (fault_at why n) (at_line_err n old (line_commands lines nodes line) why fault)) in
    sym so_far ∙ now

pub script_within : (count nodes : ℕ) (text : List ℕ) → length text ≤ 1048576 → script_of count nodes text ≡ commands_of count nodes 1 (lines text)
script_within count nodes text h = grind (arith, nat_tests)

-- before the first line
pub reads_all : (lines nodes : ℕ) (old : List Command) (all texts : List (List ℕ)) → old ≡ [] → all ≡ texts → before old (commands_of lines nodes 1 all) ≡ commands_of lines nodes 1 texts
reads_all lines nodes old all texts none same = rw (none, same) (after_none _)

pub counts_on : (n count : ℕ) (line : List ℕ) (all more : List (List ℕ)) → all ≡ line ∷ more → n + length all ≡ count → n + 1 + length more ≡ count
counts_on n count line all more split so_far = omega (arith, ap length split, so_far)

pub few_counted : (n : ℕ) (text : List ℕ) (rest : List (List ℕ)) → length text ≤ 1048576 → n + length rest ≡ length (lines text) → Fits w64 (n + 1)
few_counted n text rest within so_far = omega (arith, few_lines text, within, so_far)

pub script_too_long : (count nodes : ℕ) (text : List ℕ) (fault : ScriptFault) → 1048576 < length text → (TooLong ≢ NoMemory → fault ≡ fault_at TooLong 0) → script_of count nodes text ≡ Err fault
script_too_long count nodes text fault h is = rw (is (λ e. cc), lt-ltb 1048576 (length text) h) refl

-- the script is read to its end
pub no_more : (lines nodes n : ℕ) (commands : List Command) (all : List (List ℕ)) (total : Result (List Command) ScriptFault)
    → all ≡ [] → before commands (commands_of lines nodes n all) ≡ total → total ≡ Ok commands
unfolding commands_of
no_more lines nodes n commands all total none so_far =
    let now : before commands (commands_of lines nodes n all) ≡ Ok commands = rw none (ends commands) in
    sym so_far ∙ now
