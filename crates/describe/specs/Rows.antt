-- The explanation of bytes by a table: the first row that applies, its parts in order.
use Rattle.std.specs.Prelude.{ℕ, zero, suc, ◌+◌, ◌%◌, ◌==◌, ◌&&◌, Bool, true, max, nat_le, if◌then◌else◌, List, [], ◌∷◌, ◌++◌, length, map}
use Rattle.std.specs.Borrow.{Bor}
use Rattle.std.specs.List.{list_all}
use Rattle.std.specs.Fmt.{decimal}
use Rattle.describe.specs.declared.fields.Field.{Field}
use Rattle.describe.specs.declared.rows.Part.{Part}
use Rattle.describe.specs.declared.rows.Part.TheVariants.{Text, Number, Hex, Choice, On}
use Rattle.describe.specs.Fields.{value_of}
use Rattle.describe.specs.Pieces.{hex_pair, states_words}

-- the byte between the texts of a choice
abbrev pub is_bar : ℕ → Bool
is_bar byte = byte == 124

-- the text at this index of those between bars, and nothing after the last
unfoldable pub choice_text : List ℕ → ℕ → List ℕ
choice_text [] n = []
choice_text (byte ∷ texts) zero = if is_bar byte then [] else byte ∷ choice_text texts zero
choice_text (byte ∷ texts) (suc n) = if is_bar byte then choice_text texts n else choice_text texts (suc n)

-- how a part is made, and its text
abbrev pub Phrase : Type 0
Phrase = Part × List ℕ

-- the values that fields must have, and the explanation
abbrev pub Row : Type 0
Row = List (Field × ℕ) × List Phrase

-- the rows of a constant, in which a reference has its value alone
abbrev pub Constant : Type 0 → Type 0
Constant X = record { now : X }

abbrev pub table_of : List (Constant (List (Field × ℕ)) × Constant (List (Part × Constant (List ℕ)))) → List Row
table_of = map (λ row. (row.0.now, map (λ said. (said.0, said.1.now)) row.1.now))

-- phrases and rows, wherever their texts are in memory
abbrev pub phrase_of : Part × Bor (List ℕ) → Phrase
phrase_of said = (said.0, said.1.now)

abbrev pub phrases_of : List (Part × Bor (List ℕ)) → List Phrase
phrases_of = map phrase_of

abbrev pub rows_of : List (Bor (List (Field × ℕ)) × Bor (List (Part × Bor (List ℕ)))) → List Row
rows_of = map (λ row. (row.0.now, phrases_of row.1.now))

-- a part: its text, with a field in decimal or hexadecimal digits or the functions that are on; or the
-- one of its texts that a field selects
abbrev pub made_text : List ℕ → Part → List ℕ → List ℕ
made_text bytes Text text = text
made_text bytes (Number field) text = text ++ decimal (value_of field bytes)
made_text bytes (Hex field) text = text ++ hex_pair (value_of field bytes % 256)
made_text bytes (Choice field) texts = choice_text texts (value_of field bytes)
made_text bytes (On first field) text = text ++ states_words first (value_of field bytes)

abbrev pub part_text : List ℕ → Phrase → List ℕ
part_text bytes said = made_text bytes said.0 said.1

-- parts one after another
unfoldable pub parts_text : List ℕ → List Phrase → List ℕ
parts_text bytes [] = []
parts_text bytes (said ∷ parts) = part_text bytes said ++ parts_text bytes parts

-- each field has its value
abbrev pub applies : List (Field × ℕ) → List ℕ → Bool
applies when bytes = list_all (λ test. value_of test.0 bytes == test.1) when

-- the explanation of the first row that applies, and nothing if none does
unfoldable pub parts_of : List Row → List ℕ → List Phrase
parts_of [] bytes = []
parts_of (row ∷ rows) bytes = if applies row.0 bytes then row.1 else parts_of rows bytes

abbrev pub row_text : List Row → List ℕ → List ℕ
row_text rows bytes = parts_text bytes (parts_of rows bytes)

-- the greatest length of one of the texts between bars, the first begun with this many bytes
unfoldable pub longest_after : ℕ → List ℕ → ℕ
longest_after begun [] = begun
longest_after begun (byte ∷ texts) = if is_bar byte then max begun (longest_after 0 texts) else longest_after (suc begun) texts

abbrev pub longest : List ℕ → ℕ
longest texts = longest_after 0 texts

-- the greatest length of a part
abbrev pub made_most : Part → List ℕ → ℕ
made_most Text text = length text
made_most (Number field) text = length text + 5
made_most (Hex field) text = length text + 2
made_most (Choice field) texts = longest texts
made_most (On first field) text = length text + 59

abbrev pub part_most : Phrase → ℕ
part_most said = made_most said.0 said.1

-- the greatest length of parts together
unfoldable pub most_of : List Phrase → ℕ
most_of [] = 0
most_of (said ∷ parts) = part_most said + most_of parts

-- no row gives more than 250 bytes
unfoldable pub fits : List Row → Bool
fits [] = true
fits (row ∷ rows) = nat_le (most_of row.1) 250 && fits rows
