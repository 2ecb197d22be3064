-- The plainest script that requests commands, each on a separate line (own).
use Rattle.std.specs.Prelude.{ℕ, zero, suc, ◌^◌, ◌==◌, ◌&&◌, Bool, true, if◌then◌else◌, nat_lt, List, [], ◌∷◌, ◌++◌, codes}
use Rattle.std.specs.Fmt.{decimal}
use Rattle.std.specs.Int.{bit_at}
use Rattle.text.specs.Hex.{hex_word}
use Rattle.show_text.specs.Script.{is_count}
use Rattle.show_text.specs.declared.command.Command.{Command}
use Rattle.show_text.specs.declared.command.Command.TheVariants.{Byte, Turns, Show}

-- the nodes below n that are in a set, in order
abbrev pub named_below : (n set : ℕ) → List ℕ
named_below zero set = []
named_below (suc n) set = named_below n set ++ (if bit_at set n == 1 then n ∷ [] else [])

-- each number after a space
abbrev pub number_words : List ℕ → List ℕ
number_words [] = []
number_words (n ∷ ns) = 32 ∷ (decimal n ++ number_words ns)

-- the nodes of a set, of `count` nodes, after `miss`; nothing if there is none
abbrev pub missed_text : (nodes missed : ℕ) → List ℕ
missed_text nodes missed = if missed == 0 then [] else codes " miss" ++ number_words (named_below nodes missed)

-- `line L HH`, `turn N`, `turn N miss I I ..` or `show`
abbrev pub command_text : (nodes : ℕ) → Command → List ℕ
command_text nodes (Byte line byte) = codes "line " ++ decimal line ++ hex_word byte
command_text nodes (Turns count missed) = codes "turn " ++ decimal count ++ missed_text nodes missed
command_text nodes Show = codes "show"

-- each with its line feed
abbrev pub script_text : (nodes : ℕ) → List Command → List ℕ
script_text nodes [] = []
script_text nodes (command ∷ commands) = command_text nodes command ++ 10 ∷ script_text nodes commands

-- a byte on one of the lines, a number of turns in its range that some of the nodes miss
abbrev pub can_be_asked : (lines nodes : ℕ) → Command → Bool
can_be_asked lines nodes (Byte line byte) = nat_lt line lines && nat_lt byte 256
can_be_asked lines nodes (Turns count missed) = is_count count && nat_lt missed (2 ^ nodes)
can_be_asked lines nodes Show = true
