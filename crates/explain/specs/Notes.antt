-- The explanation that is added to a line.
use Rattle.std.specs.Prelude.{ℕ, ◌||◌, Bool, if◌then◌else◌, nat_lt, List, [], length, codes}
use Rattle.std.specs.List.{before_first}
use Rattle.text.specs.Words.{is_blank, words_of}
use Rattle.loconet_tcp.specs.Requests.{bytes_of}
use Rattle.explain.specs.Brackets.{without_brackets}
use Rattle.explain.specs.FaultLines.{names_program}
use Rattle.explain.specs.LineKinds.{begins_with, set_off, words_about}
use Rattle.explain.specs.HexText.{bytes_or_none}
use Rattle.explain.specs.Parts.{has_several, parts_note, parts_of}

-- the first word says what the line is about
abbrev pub is_named : List ℕ → Bool
is_named line =
    begins_with (codes "reply") line || (begins_with (codes "track") line || (begins_with (codes "programming") line
    || (begins_with (codes "msg") line || (begins_with (codes "RECEIVE") line || (begins_with (codes "SEND") line
    || names_program (before_first is_blank line))))))

-- The bytes of a line that is bytes alone, or has them between brackets: they may be several
-- messages, and have bytes between them.
abbrev pub captured_in : List ℕ → List ℕ
captured_in line = if is_named line then [] else bytes_or_none (bytes_of (words_of (without_brackets line)))

-- two spaces before each explanation
abbrev pub notes_about : List ℕ → List ℕ
notes_about line =
    if has_several (captured_in line) then parts_note (parts_of (captured_in line)) else set_off (words_about line)

-- the explanation added to a line, given without its end: none for one of more than 400 characters
abbrev pub note_of : List ℕ → List ℕ
note_of line = if nat_lt 400 (length line) then [] else notes_about line
