-- The subject of a line, and its explanation (own). The explanations of messages and packets are
-- those of `describe`.
use Rattle.std.specs.Prelude.{ℕ, Bool, if◌then◌else◌, List, [], ◌∷◌, Option, Some, None, codes}
use Rattle.std.specs.List.{before_first, after_first}
use Rattle.std.specs.Str.{bytes_eq}
use Rattle.text.specs.Words.{is_blank, words_of}
use Rattle.loconet_tcp.specs.Requests.{bytes_of, leading_bytes}
use Rattle.describe.specs.Messages.{message_words}
use Rattle.describe.specs.Packets.{packet_words}
use Rattle.describe.specs.ServicePackets.{service_words}
use Rattle.explain.specs.Brackets.{without_brackets}
use Rattle.explain.specs.FaultLines.{fault_in, names_program}

-- the explanation of bytes; none if there are no bytes, or if a word is not a pair of digits
abbrev pub said_by : (List ℕ → List ℕ) → Option (List ℕ) → List ℕ
said_by say None = []
said_by say (Some []) = []
said_by say (Some (b ∷ bs)) = say (b ∷ bs)

-- words that are a message, and nothing else
unfoldable pub message_in : List ℕ → List ℕ
message_in text = said_by message_words (bytes_of (words_of text))

-- what a turn sent: `off`, or the words of a packet and nothing else
unfoldable pub turn_in : List ℕ → List ℕ
turn_in text = if bytes_eq text (codes "off") then codes "no power, nothing is sent" else said_by packet_words (bytes_of (words_of text))

-- the words of a packet of the programming track, and nothing else
unfoldable pub programming_in : List ℕ → List ℕ
programming_in text = said_by service_words (bytes_of (words_of text))

-- a message, followed by words that describe it, none of which begins with a pair
unfoldable pub monitored_in : List ℕ → List ℕ
monitored_in text = said_by message_words (Some (leading_bytes (words_of text)))

-- the text after the first word
abbrev pub rest_after : List ℕ → List ℕ
rest_after text = after_first is_blank text

abbrev pub begins_with : List ℕ → List ℕ → Bool
begins_with word line = bytes_eq (before_first is_blank line) word

-- The explanation of a line, by its first word. After `reply` is the line of the station, after
-- `track` the turn, after `programming` the number of the packet, and after the name of a program a
-- fault. A line that begins with none of these words is a message, which may be between brackets, or
-- has no explanation.
abbrev pub words_about : List ℕ → List ℕ
words_about line =
    if begins_with (codes "reply") line then message_in (rest_after (rest_after line)) else
    (if begins_with (codes "track") line then turn_in (rest_after (rest_after line)) else
    (if begins_with (codes "programming") line then programming_in (rest_after (rest_after line)) else
    (if begins_with (codes "msg") line then monitored_in (rest_after line) else
    (if begins_with (codes "RECEIVE") line then message_in (rest_after line) else
    (if begins_with (codes "SEND") line then message_in (rest_after line) else
    (if names_program (before_first is_blank line) then fault_in (rest_after line) else message_in (without_brackets line)))))))

-- two spaces before words
abbrev pub set_off : List ℕ → List ℕ
set_off [] = []
set_off (w ∷ words) = 32 ∷ 32 ∷ w ∷ words
