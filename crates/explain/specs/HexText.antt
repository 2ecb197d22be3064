-- The hex text of a log: its whole messages, one a line (own).
use Rattle.std.specs.Prelude.{ℕ, ◌/◌, ◌%◌, ◌==◌, ◌||◌, if◌then◌else◌, nat_lt, List, [], ◌∷◌, ◌++◌, length, flat_map, Option, Some, None, codes}
use Rattle.std.specs.List.{starts_with}
use Rattle.text.specs.Hex.{hex_char, hex_words}
use Rattle.text.specs.Words.{words_of}
use Rattle.ln_frame.specs.Message.{is_whole}
use Rattle.loconet_tcp.specs.Requests.{bytes_of, leading_bytes}
use Rattle.explain.specs.Brackets.{without_brackets}
use Rattle.explain.specs.Lines.{body_of, lines_of}
use Rattle.explain.specs.LineKinds.{begins_with, rest_after}

-- the bytes, if there are any
abbrev pub bytes_or_none : Option (List ℕ) → List ℕ
bytes_or_none None = []
bytes_or_none (Some bytes) = bytes

-- the bytes of a text whose words are all pairs of digits
abbrev pub pairs_in : List ℕ → List ℕ
pairs_in text = bytes_or_none (bytes_of (words_of text))

-- the text before the first two spaces
unfoldable pub before_two_spaces : List ℕ → List ℕ
before_two_spaces [] = []
before_two_spaces (b ∷ text) =
    if starts_with ◌==◌ (b ∷ text) (codes "  ") then [] else b ∷ before_two_spaces text

-- a line without the explanation that `lbserver` prints after a message
abbrev pub without_explanation : List ℕ → List ℕ
without_explanation line =
    if begins_with (codes "message") line then before_two_spaces line else line

-- The bytes in a line, by its first word: after `message` and `msg` those before other words, after
-- `reply` those after the line of the station, after `RECEIVE` and `SEND` all; or the line is bytes
-- alone, or has them between brackets.
abbrev pub bytes_in : List ℕ → List ℕ
bytes_in line =
    if begins_with (codes "message") line || begins_with (codes "msg") line
    then leading_bytes (words_of (rest_after line)) else
    (if begins_with (codes "reply") line then pairs_in (rest_after (rest_after line)) else
    (if begins_with (codes "RECEIVE") line || begins_with (codes "SEND") line then pairs_in (rest_after line) else pairs_in (without_brackets line)))

-- the message in a text of at most 400 characters, if its bytes are a whole one
abbrev pub message_in_text : List ℕ → Option (List ℕ)
message_in_text line =
    if nat_lt 400 (length line) then None
    else (if is_whole (bytes_in line) then Some (bytes_in line) else None)

-- the message in a line
abbrev pub message_in_line : List ℕ → Option (List ℕ)
message_in_line line = message_in_text (without_explanation line)

abbrev pub hex_pair : ℕ → List ℕ
hex_pair byte = hex_char (byte / 16) ∷ hex_char (byte % 16) ∷ []

-- bytes as pairs of digits with a space between them, and a line feed
abbrev pub hex_line : List ℕ → List ℕ
hex_line [] = []
hex_line (byte ∷ bytes) = hex_pair byte ++ hex_words bytes ++ 10 ∷ []

abbrev pub hex_line_if : Option (List ℕ) → List ℕ
hex_line_if None = []
hex_line_if (Some message) = hex_line message

unfoldable pub hex_line_of : List ℕ → List ℕ
hex_line_of line = hex_line_if (message_in_line line)

unfoldable pub hex_text : (log : List ℕ) → List ℕ
hex_text log = flat_map (λ line. hex_line_of (body_of line)) (lines_of log)
