-- The words for the fault lines of `station`, by kind and number (own).
use Rattle.std.specs.Prelude.{ℕ, Bool, if◌then◌else◌, List, [], codes}
use Rattle.std.specs.List.{before_first, after_first}
use Rattle.std.specs.Str.{bytes_eq}
use Rattle.text.specs.Words.{is_blank}
use Rattle.roster.specs.declared.fault.RosterFaultKind.TheVariants.{NotToml, BadShape, TooMany, BadName, BadCv, BadModule, Empty, BadCvList}
use Rattle.roster.specs.FaultWords.{words_of}

unfoldable pub roster_fault : (number : List ℕ) → List ℕ
roster_fault number =
    if bytes_eq number (codes "1") then words_of NotToml else
    if bytes_eq number (codes "2") then words_of BadShape else
    if bytes_eq number (codes "3") then words_of TooMany else
    if bytes_eq number (codes "4") then words_of BadName else
    if bytes_eq number (codes "5") then words_of BadCv else
    if bytes_eq number (codes "6") then words_of BadModule else
    if bytes_eq number (codes "7") then words_of Empty else
    if bytes_eq number (codes "9") then words_of BadCvList else []

unfoldable pub script_fault : (number : List ℕ) → List ℕ
script_fault number =
    if bytes_eq number (codes "1") then codes "a line begins with line, turn or show; or a word is missing, or one too many" else
    if bytes_eq number (codes "2") then codes "a byte is not two hexadecimal digits" else
    if bytes_eq number (codes "3") then codes "a number is not one to seven decimal digits, or turns are out of their range" else
    if bytes_eq number (codes "4") then codes "the station has no such line" else
    if bytes_eq number (codes "5") then codes "the roster has no such node" else
    if bytes_eq number (codes "6") then codes "the script has more than 1,048,576 bytes" else []

unfoldable pub hex_fault : (number : List ℕ) → List ℕ
hex_fault number =
    if bytes_eq number (codes "1") then codes "a word is not two hexadecimal digits" else
    if bytes_eq number (codes "2") then codes "the text has more than 1,048,576 bytes" else []

unfoldable pub serve_fault : (number : List ℕ) → List ℕ
serve_fault number =
    if bytes_eq number (codes "1") then codes "a read of the connection failed" else
    if bytes_eq number (codes "2") then codes "a write to the connection failed" else
    if bytes_eq number (codes "3") then codes "standard output could not be written" else
    if bytes_eq number (codes "4") then codes "the most reads of a connection were made" else []

unfoldable pub fault_words : (kind number : List ℕ) → List ℕ
fault_words kind number =
    if bytes_eq kind (codes "roster") then roster_fault number else
    if bytes_eq kind (codes "script") then script_fault number else
    if bytes_eq kind (codes "hex") then hex_fault number else
    if bytes_eq kind (codes "serve") then serve_fault number else []

-- the first word of a text, and the text after it
abbrev pub first_word : List ℕ → List ℕ
first_word text = before_first is_blank text

abbrev pub behind_word : List ℕ → List ℕ
behind_word text = after_first is_blank text

abbrev pub names_program : List ℕ → Bool
names_program word = bytes_eq word (codes "station:")

-- the words for a line after the program's name: a kind, `fault` and a number
unfoldable pub fault_in : List ℕ → List ℕ
fault_in text =
    if bytes_eq (first_word (behind_word text)) (codes "fault") then fault_words (first_word text) (first_word (behind_word (behind_word text))) else []
