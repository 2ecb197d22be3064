-- The text of the bus as a page receives it: behind the line of each message a line with its words,
-- as docs/PAGES.md says.
use Rattle.std.specs.Prelude.{ℕ, ◌==◌, if◌then◌else◌, nat_lt, List, [], ◌∷◌, ◌++◌, length, Option, Some, None, codes}
use Rattle.std.specs.List.{after_first, before_first}
use Rattle.std.specs.Str.{bytes_eq}
use Rattle.text.specs.Words.{is_blank, words_of}
use Rattle.describe.specs.Messages.{message_words}
use Rattle.loconet_tcp.specs.ClientLines.{line_end}
use Rattle.loconet_tcp.specs.Requests.{bytes_of}

-- the bytes of the message that a line says was on the bus
abbrev pub received : (line : List ℕ) → Option (List ℕ)
received line =
    if bytes_eq (before_first is_blank line) (codes "RECEIVE")
    then bytes_of (words_of (after_first is_blank line)) else None

-- the line with the words of a message
abbrev pub words_line : (message : Option (List ℕ)) → List ℕ
words_line None = []
words_line (Some message) = codes "WORDS " ++ message_words message ++ line_end

-- the line that has begun, after its next byte: its first 400 bytes, without a carriage return
abbrev pub line_after : (line : List ℕ) → ℕ → List ℕ
line_after line b =
    if b == 10 then [] else if b == 13 then line
    else if nat_lt (length line) 400 then line ++ b ∷ [] else line

-- a byte, and behind the end of a line the words of its message
abbrev pub with_words : (line : List ℕ) → ℕ → List ℕ
with_words line b = b ∷ (if b == 10 then words_line (received line) else [])

-- what a page receives of a text, after the line that has begun
abbrev pub page_text : (line : List ℕ) → List ℕ → List ℕ
page_text line [] = []
page_text line (b ∷ text) = with_words line b ++ page_text (line_after line b) text

abbrev pub line_along : (line : List ℕ) → List ℕ → List ℕ
line_along line [] = line
line_along line (b ∷ text) = line_along (line_after line b) text

-- the line that has begun, and what the page has not taken yet
pub record PageTextState : Type 0 where
  pub line : List ℕ
  pub queued : List ℕ
