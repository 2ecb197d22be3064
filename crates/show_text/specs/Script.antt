-- The commands of a script. Each part is read from left to right, and the first fault is reported.
use Rattle.std.specs.Prelude.{ℕ, ◌+◌, ◌^◌, ◌≡◌, ◌≢◌, ◌&&◌, Bool, true, IsTrue, List, [], ◌∷◌, Option, Some, None, Result, Ok, Err, nat_eq, nat_lt, nat_le, if◌then◌else◌, length, codes, bit_or, fold}
use Rattle.std.specs.Str.{bytes_eq}
use Rattle.std.specs.Str.Lines.{lines}
use Rattle.std.specs.List.{starts_with, list_all}
use Rattle.show_text.specs.declared.command.Command.{Command}
use Rattle.show_text.specs.declared.command.Command.TheVariants.{Byte, Turns, Show}
use Rattle.show_text.specs.declared.command.ScriptFaultKind.{ScriptFaultKind}
use Rattle.show_text.specs.declared.command.ScriptFaultKind.TheVariants.{BadWord, BadHex, BadNumber, BadLine, BadNode, TooLong, NoMemory}
use Rattle.show_text.specs.declared.command.ScriptFault.{ScriptFault}
use Rattle.text.specs.Sequence.{before, followed_by}
use Rattle.text.specs.Words.{words_of, is_empty}
use Rattle.text.specs.Hex.{pair_of}
use Rattle.text.specs.Decimal.{decimal_of}

infixl 10 ◌>>=◌
abbrev pub ◌>>=◌ : {A B : Type 0} → Result A ScriptFaultKind → (A → Result B ScriptFaultKind) → Result B ScriptFaultKind
(Ok x) >>= f = f x
(Err e) >>= f = Err e

abbrev pub or_fault : {A : Type 0} → Option A → ScriptFaultKind → Result A ScriptFaultKind
or_fault (Some x) why = Ok x
or_fault None why = Err why

-- Numbers, each in its range.

abbrev pub number_of : List ℕ → Result ℕ ScriptFaultKind
number_of word = or_fault (decimal_of word) BadNumber

abbrev pub below : ℕ → ScriptFaultKind → List ℕ → Result ℕ ScriptFaultKind
below limit why word = do
  n ← number_of word
  if nat_lt n limit then Ok n else Err why

-- the number of the first word
abbrev pub first_number_of : List (List ℕ) → Result ℕ ScriptFaultKind
first_number_of [] = Err BadWord
first_number_of (word ∷ words) = number_of word

-- of turns
abbrev pub is_count : ℕ → Bool
is_count n = nat_le 1 n && nat_le n 1000000

abbrev pub count_of : List ℕ → Result ℕ ScriptFaultKind
count_of word = do
  n ← number_of word
  if is_count n then Ok n else Err BadNumber

-- `line L HH HH ..`: the bytes of line l

abbrev pub byte_of : List ℕ → Result ℕ ScriptFaultKind
byte_of word = or_fault (pair_of word) BadHex

abbrev pub byte_command : ℕ → List ℕ → Result (List Command) ScriptFaultKind
byte_command l word = do
  b ← byte_of word
  Ok (Byte l b ∷ [])

unfoldable pub bytes_of : ℕ → List (List ℕ) → Result (List Command) ScriptFaultKind
bytes_of l [] = Ok []
bytes_of l (word ∷ words) = followed_by (byte_command l word) (bytes_of l words)

-- at least one is required
abbrev pub some_bytes : ℕ → List (List ℕ) → Result (List Command) ScriptFaultKind
some_bytes l words = if is_empty words then Err BadWord else bytes_of l words

abbrev pub line_of : ℕ → List (List ℕ) → Result (List Command) ScriptFaultKind
line_of lines [] = Err BadWord
line_of lines (word ∷ words) = do
  l ← below lines BadLine word
  some_bytes l words

-- `turn N` and `turn N miss I I ..`: the turns, and the nodes that miss them

abbrev pub node_of : ℕ → List ℕ → Result (List ℕ) ScriptFaultKind
node_of nodes word = do
  i ← below nodes BadNode word
  Ok (i ∷ [])

unfoldable pub nodes_of : ℕ → List (List ℕ) → Result (List ℕ) ScriptFaultKind
nodes_of nodes [] = Ok []
nodes_of nodes (word ∷ words) = followed_by (node_of nodes word) (nodes_of nodes words)

-- in a set of nodes node i is bit i
abbrev pub with_node : ℕ → ℕ → ℕ
with_node set i = bit_or set (2 ^ i)

-- a set, and the nodes that are read as well
abbrev pub set_with : ℕ → Result (List ℕ) ScriptFaultKind → Result ℕ ScriptFaultKind
set_with set read = do
  named ← read
  Ok (fold with_node set named)

-- at least one is required
abbrev pub some_nodes : ℕ → List (List ℕ) → Result ℕ ScriptFaultKind
some_nodes nodes words = if is_empty words then Err BadWord else set_with 0 (nodes_of nodes words)

abbrev pub missed_of : ℕ → List (List ℕ) → Result ℕ ScriptFaultKind
missed_of nodes [] = Ok 0
missed_of nodes (word ∷ words) = if bytes_eq word (codes "miss") then some_nodes nodes words else Err BadWord

abbrev pub turn_of : ℕ → List (List ℕ) → Result (List Command) ScriptFaultKind
turn_of nodes [] = Err BadWord
turn_of nodes (word ∷ words) = do
  n ← count_of word
  missed ← missed_of nodes words
  Ok (Turns n missed ∷ [])

-- `show`, alone
abbrev pub show_of : List (List ℕ) → Result (List Command) ScriptFaultKind
show_of words = if is_empty words then Ok (Show ∷ []) else Err BadWord

-- The first word.
abbrev pub after_word : ℕ → ℕ → List ℕ → List (List ℕ) → Result (List Command) ScriptFaultKind
after_word lines nodes word words =
    if bytes_eq word (codes "line") then line_of lines words
    else if bytes_eq word (codes "turn") then turn_of nodes words
    else if bytes_eq word (codes "show") then show_of words
    else Err BadWord

-- A line without words has no command.
abbrev pub command_of : ℕ → ℕ → List (List ℕ) → Result (List Command) ScriptFaultKind
command_of lines nodes [] = Ok []
command_of lines nodes (word ∷ words) = after_word lines nodes word words

-- A line whose first character is '#' has none either.
abbrev pub line_commands : ℕ → ℕ → List ℕ → Result (List Command) ScriptFaultKind
line_commands lines nodes line = if starts_with nat_eq line (codes "#") then Ok [] else command_of lines nodes (words_of line)

abbrev pub fault_at : ScriptFaultKind → ℕ → ScriptFault
fault_at why line = record { why = why; line = line }

-- a fault is that of line n
abbrev pub at_line : ℕ → Result (List Command) ScriptFaultKind → Result (List Command) ScriptFault
at_line n (Ok commands) = Ok commands
at_line n (Err why) = Err (fault_at why n)

-- The commands of the lines from line n on.
unfoldable pub commands_of : ℕ → ℕ → ℕ → List (List ℕ) → Result (List Command) ScriptFault
commands_of lines nodes n [] = Ok []
commands_of lines nodes n (line ∷ more) = followed_by (at_line n (line_commands lines nodes line)) (commands_of lines nodes (n + 1) more)

-- The commands of a script of at most 1,048,576 bytes.
abbrev pub script_of : ℕ → ℕ → List ℕ → Result (List Command) ScriptFault
script_of count nodes text = if nat_lt 1048576 (length text) then Err (fault_at TooLong 0) else commands_of count nodes 1 (lines text)

-- each byte is received on one of the lines
abbrev pub is_on_line : ℕ → Command → Bool
is_on_line lines (Byte line byte) = nat_lt line lines
is_on_line lines (Turns count missed) = true
is_on_line lines Show = true

abbrev pub AreOnLines : ℕ → List Command → Type 0
AreOnLines lines commands = IsTrue (list_all (is_on_line lines) commands)

-- each number of turns is in its range
abbrev pub is_counted : Command → Bool
is_counted (Byte line byte) = true
is_counted (Turns count missed) = is_count count
is_counted Show = true

abbrev pub AreCounted : List Command → Type 0
AreCounted commands = IsTrue (list_all is_counted commands)

-- The result of a function that appends commands: those read, unless memory is out.
abbrev pub Adds : {Y : Type 0} → List Command → List Command → Result Y ScriptFaultKind → Result (List Command) ScriptFaultKind → Type 0
Adds old new (Ok y) read = before old read ≡ Ok new
Adds old new (Err why) read = why ≢ NoMemory → before old read ≡ Err why
