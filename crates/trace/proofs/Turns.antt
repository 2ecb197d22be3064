-- The line of a turn: its number, and the bytes of its packet.
use Rattle.std.proofs.Common.{◌≡◌, ℕ, suc, ◌+◌, ◌-◌, ◌*◌, ◌/◌, ◌%◌, ◌<◌, ◌≤◌, ◌^◌, ◌==◌, Bool, true, false, List, [], ◌∷◌, ◌++◌, length, length-append, length-drop, take, drop, Option, Some, None, position, refl, ap, sym, subst, ◌∙◌, arith, ne_eqb, ltb-true, append_assoc, ap₂, inl, inr, ◌⊎◌, ◌&&◌, nat_lt, codes, IsTrue, if◌then◌else◌}
use Rattle.std.specs.Prelude.{Result, Ok}
use Rattle.std.specs.List.{list_all, position_or_len}
use Rattle.std.specs.Char.{digit_value}
use Rattle.std.specs.Fmt.{decimal}
use Rattle.std.specs.Str.Parse.{AllDigits}
use Rattle.std.proofs.lemmas.Bool.{and_parts, cases_eq}
use Rattle.std.proofs.lemmas.Bool.Decides.{nat_tests}
use Rattle.std.proofs.lemmas.Fmt.{decimal_is_IsNumeral}
use Rattle.std.proofs.lemmas.List.{append-nil, take_all}
use Rattle.std.proofs.lemmas.List.Folds.{list_all-append}
use Rattle.dcc_packet.specs.Packet.{IsPacket, has_packet_length, is_checked}
use Rattle.text.specs.Hex.{hex_char, hex_word, hex_words}
use Rattle.show_text.specs.Lines.{off_text, track_text}
use Rattle.trace.specs.Traffic.{IsOfTurn, Parses, Prints, is_gap, is_of_turn}
use Rattle.trace.specs.declared.turn.Turn.{Turn}

not_space : (digit : ℕ) → digit_value digit < 10 → (digit == 32) ≡ false
not_space digit small = elim (cases_eq digit 32) [
  | inl same ↦ absurd (let space : digit_value 32 < 10 = subst (λ (n : ℕ). digit_value n < 10) same small in omega (arith, space))
  | inr other ↦ ne_eqb digit 32 other
]

behind_digits : (digits rest : List ℕ) → AllDigits 10 digits → position_or_len (λ b. b == 32) (digits ++ 32 ∷ rest) ≡ length digits
behind_digits [] rest all = refl
behind_digits (digit ∷ digits) rest all =
    let no : (digit == 32) ≡ false = not_space digit all.0 in
    rw no (omega (arith, behind_digits digits rest all.1))

front : (xs ys : List ℕ) → take (length xs) (xs ++ ys) ≡ xs
front [] ys = refl
front (x ∷ xs) ys = ap (λ zs. x ∷ zs) (front xs ys)

back : (xs ys : List ℕ) → drop (length xs) (xs ++ ys) ≡ ys
back [] ys = refl
back (x ∷ xs) ys = back xs ys

place : (text : List ℕ) (turn : ℕ) (rest : List ℕ) → turn < 2 ^ 64 → text ≡ decimal turn ++ 32 ∷ rest → position (λ b. b == 32) text ≡ Some (length (decimal turn))
place text turn rest small is =
    let first : position_or_len (λ b. b == 32) text ≡ length (decimal turn) = ap (position_or_len (λ b. b == 32)) is ∙ behind_digits (decimal turn) rest (decimal_is_IsNumeral turn small).0.1 in
    let inside : length (decimal turn) < length text = (let all : length text ≡ length (decimal turn) + suc (length rest) = ap length is ∙ length-append (decimal turn) (32 ∷ rest) in omega (arith, all)) in
    grind (arith, nat_tests)

-- there is a space after the number
pub some_space : (text : List ℕ) (turn : ℕ) (rest : List ℕ) → turn < 2 ^ 64 → text ≡ decimal turn ++ 32 ∷ rest → position (λ b. b == 32) text ≡ None → ⊥
some_space text turn rest small is none =
    let there : Some (length (decimal turn)) ≡ None = sym (place text turn rest small is) ∙ none in
    cc

-- and the first one splits the line after it
pub cut_there : (text : List ℕ) (end turn : ℕ) (rest : List ℕ) → turn < 2 ^ 64 → text ≡ decimal turn ++ 32 ∷ rest → position (λ b. b == 32) text ≡ Some end
    → (take end text ≡ decimal turn) × (take (length text - end) (drop end text) ≡ 32 ∷ rest)
cut_there text end turn rest small is found =
    let same : Some (length (decimal turn)) ≡ Some end = sym (place text turn rest small is) ∙ found in
    let at : length (decimal turn) ≡ end = cc in
    let rest_after : drop end text ≡ 32 ∷ rest = ap (λ n. drop n text) (sym at) ∙ ap (drop (length (decimal turn))) is ∙ back (decimal turn) (32 ∷ rest) in
    let whole : take (length text - end) (drop end text) ≡ drop end text = take_all (length text - end) (drop end text) (omega (arith, length-drop end text)) in
    (ap (λ n. take n text) (sym at) ∙ ap (take (length (decimal turn))) is ∙ front (decimal turn) (32 ∷ rest), whole ∙ rest_after)

-- the bytes of a packet are below 256, and at least three
some_byte : (packet items : List ℕ) (x : ℕ) (xs : List ℕ) → IsPacket packet → items ++ x ∷ xs ≡ packet → x < 256
some_byte packet items x xs is parts =
    let below : ℕ → Bool = λ byte. nat_lt byte 256 in
    let all : list_all below packet ≡ true = (and_parts (has_packet_length packet) (list_all below packet) is).1 in
    let split : (list_all below items && list_all below (x ∷ xs)) ≡ true = sym (list_all-append below items (x ∷ xs)) ∙ ap (list_all below) parts ∙ all in
    let rest : list_all below (x ∷ xs) ≡ true = (and_parts (list_all below items) (list_all below (x ∷ xs)) split).1 in
    ltb-true x 256 (and_parts (below x) (list_all below xs) rest).0

few : (packet : List ℕ) → IsPacket packet → (3 ≤ length packet) × (length packet ≤ 6)
few packet is = (grind (arith, nat_tests), grind (arith, nat_tests))

-- If words are those of a packet, these bytes are its first, and the remaining words are those of
-- the others.
abbrev pub HasRead : List ℕ → List ℕ → List ℕ → Type 0
HasRead words items rest = (packet : List ℕ) → IsPacket packet → words ≡ hex_words packet → (left : List ℕ) × (items ++ left ≡ packet) × (rest ≡ hex_words left)

-- the leading bytes of words, as far as they are those of a packet
abbrev pub Cuts : List ℕ → Option (ℕ × List ℕ) → Type 0
Cuts words None = (byte : ℕ) (rest : List ℕ) → byte < 256 → words ≡ hex_word byte ++ rest → ⊥
Cuts words (Some cut) = (byte : ℕ) (rest : List ℕ) → byte < 256 → words ≡ hex_word byte ++ rest → (cut.0 ≡ byte) × (cut.1 ≡ rest)

pub read_more : (words items rest : List ℕ) (byte : ℕ) (after now : List ℕ) → HasRead words items rest → 0 < length rest → Cuts rest (Some (byte, after)) → now ≡ items ++ byte ∷ [] → HasRead words now after
read_more words items rest byte after now has some cut pushed = λ packet is w.
    let so_far = has packet is w in
    more so_far.0 (so_far.1) (so_far.2) is
  where
    more : {packet : List ℕ} (left : List ℕ) → items ++ left ≡ packet → rest ≡ hex_words left → IsPacket packet → (left : List ℕ) × (now ++ left ≡ packet) × (after ≡ hex_words left)
    more [] e r is = absurd (let none : length rest ≡ 0 = ap length r in omega (arith, none, some))
    more {packet} (x ∷ xs) e r is =
        let c = cut x (hex_words xs) (some_byte packet items x xs is e) r in
        (xs, ap (λ bs. bs ++ xs) pushed ∙ append_assoc items (byte ∷ []) xs ∙ ap (λ b. items ++ b ∷ xs) c.0 ∙ e, c.1)

pub read_fails : (words items rest : List ℕ) → HasRead words items rest → 0 < length rest → Cuts rest None → (packet : List ℕ) → IsPacket packet → words ≡ hex_words packet → ⊥
read_fails words items rest has some cut packet is w =
    let so_far = has packet is w in
    none so_far.0 so_far.1 so_far.2
  where
    none : (left : List ℕ) → items ++ left ≡ packet → rest ≡ hex_words left → ⊥
    none [] e r = let nothing : length rest ≡ 0 = ap length r in omega (arith, nothing, some)
    none (x ∷ xs) e r = cut x (hex_words xs) (some_byte packet items x xs is e) r

pub read_all : (words items rest : List ℕ) → HasRead words items rest → (length rest ≡ 0) ⊎ (6 ≤ length items) → (packet : List ℕ) → IsPacket packet → words ≡ hex_words packet → (items ≡ packet) × (has_packet_length items ≡ true)
read_all words items rest has end packet is w =
    let so_far = has packet is w in
    let same : items ≡ packet = none so_far.0 so_far.1 so_far.2 in
    (same, ap has_packet_length same ∙ (and_parts (has_packet_length packet) (list_all (λ byte. nat_lt byte 256) packet) is).0)
  where
    none : (left : List ℕ) → items ++ left ≡ packet → rest ≡ hex_words left → items ≡ packet
    none [] e r = sym (append-nil items) ∙ e
    none (x ∷ xs) e r = absurd (
        let most : length packet ≤ 6 = (few packet is).1 in
        let count : length items + suc (length xs) ≡ length packet = sym (length-append items (x ∷ xs)) ∙ ap length e in
        let some : length rest ≡ suc (suc (suc (length (hex_words xs)))) = ap length r in
        elim end [ inl nothing ↦ omega (arith, nothing, some) | inr full ↦ omega (arith, full, count, most) ])

pub nonempty : (xs : List ℕ) (none : Bool) → none ≡ (length xs == 0) → none ≡ false → 0 < length xs
nonempty xs none is some = grind (arith, nat_tests)

pub empty : (xs : List ℕ) (none : Bool) → none ≡ (length xs == 0) → none ≡ true → length xs ≡ 0
empty xs none is same = grind (arith, nat_tests)

pub full : (xs : List ℕ) (all : Bool) → all ≡ (length xs == 6) → all ≡ true → 6 ≤ length xs
full xs all is same = grind (arith, nat_tests)

pub made : (packet : Option (List ℕ)) (bytes items all : List ℕ) → packet ≡ (if has_packet_length bytes then Some bytes else None) → bytes ≡ items → items ≡ all → has_packet_length items ≡ true → packet ≡ Some all
made packet bytes items all is same whole long =
    let now : (if has_packet_length items then Some items else None) ≡ Some items = rw long refl in
    is ∙ ap (λ bs. if has_packet_length bs then Some bs else None) same ∙ now ∙ ap Some whole

-- a text that was compared and differs
pub is_other : {line text : List ℕ} {result : Bool} → (IsTrue result → line ≡ text) × (line ≡ text → IsTrue result) → result ≡ false → line ≡ text → ⊥
is_other compared other same = let both : true ≡ false = sym (compared.1 same) ∙ other in cc

-- The text after the number of a line of a turn with this packet.
abbrev pub Behind : Option (List ℕ) → List ℕ → Type 0
Behind (Some packet) rest = IsPacket packet × (is_checked packet ≡ true) × (rest ≡ hex_words packet)
Behind None rest = rest ≡ codes " off"

-- a line of the turn with this number, with this packet
pub record IsTurn (line : List ℕ) (number : ℕ) (packet : Option (List ℕ)) : Type 0 where
  pub rest : List ℕ
  pub line_is : line ≡ codes "track " ++ decimal number ++ 32 ∷ rest
  pub rest_after : Behind packet (32 ∷ rest)

pub is_turn : (line : List ℕ) (number : ℕ) (packet : Option (List ℕ)) → Prints line number packet → IsTurn line number packet
is_turn line number (Some []) prints = absurd (let many = few [] prints.0 in omega (arith, many.0))
is_turn line number (Some (b ∷ bs)) prints = record { rest = hex_char (b / 16) ∷ hex_char (b % 16) ∷ hex_words bs; line_is = prints.2; rest_after = (prints.0, prints.1, refl) }
is_turn line number None prints = record { rest = codes "off"; line_is = prints; rest_after = refl }

-- the number and the rest that are split off such a line
pub record IsCut (line : List ℕ) (number : ℕ) (packet : Option (List ℕ)) (cut : ℕ) (rest : List ℕ) : Type 0 where
  pub same : cut ≡ number
  pub line_is : line ≡ codes "track " ++ decimal cut ++ rest
  pub rest_after : Behind packet rest

pub is_cut : (line : List ℕ) (number : ℕ) (packet : Option (List ℕ)) (cut : ℕ) (rest : List ℕ) → number < 2 ^ 64 → Prints line number packet
    → ((t : ℕ) (r : List ℕ) → t < 2 ^ 64 → line ≡ codes "track " ++ decimal t ++ 32 ∷ r → (cut ≡ t) × (rest ≡ 32 ∷ r)) → IsCut line number packet cut rest
is_cut line number packet cut rest small prints cuts =
    let is : IsTurn line number packet = is_turn line number packet prints in
    let same = cuts number is.rest small is.line_is in
    record {
      same = same.0;
      line_is = is.line_is ∙ sym (ap₂ (λ (t : ℕ) (r : List ℕ). codes "track " ++ decimal t ++ r) same.0 same.1);
      rest_after = subst (Behind packet) (sym same.1) is.rest_after;
    }

length-hex_words : (bs : List ℕ) → length (hex_words bs) ≡ 3 * length bs
length-hex_words [] = refl
length-hex_words (b ∷ bs) = omega (arith, length-hex_words bs)

-- the line of a turn that sent nothing has no packet
pub tells_off : (line : List ℕ) (number : ℕ) (packet : Option (List ℕ)) (cut : ℕ) (rest : List ℕ) → IsCut line number packet cut rest → line ≡ off_text cut → None ≡ packet
tells_off line number None cut rest is off = refl
tells_off line number (Some packet) cut rest is off = absurd (
    let same : codes "track " ++ (decimal cut ++ rest) ≡ codes "track " ++ (decimal cut ++ codes " off") = sym is.line_is ∙ off in
    let longer : length (decimal cut ++ rest) ≡ length (decimal cut ++ codes " off") = ap (λ bs. length (drop 6 bs)) same in
    let left : length (decimal cut ++ rest) ≡ length (decimal cut) + length rest = length-append (decimal cut) rest in
    let right : length (decimal cut ++ codes " off") ≡ length (decimal cut) + 4 = length-append (decimal cut) (codes " off") in
    let words : length rest ≡ 3 * length packet = ap length is.rest_after.2 ∙ length-hex_words packet in
    let some : 3 ≤ length packet = (few packet is.rest_after.0).0 in
    omega (arith, longer, left, right, words, some))

-- and any other has the packet that is read
pub tells_packet : (line : List ℕ) (number : ℕ) (item : Option (List ℕ)) (cut : ℕ) (rest packet : List ℕ) → IsCut line number item cut rest → (line ≡ off_text cut → ⊥)
    → ((p : List ℕ) → IsPacket p → rest ≡ hex_words p → Some packet ≡ Some p) → Some packet ≡ item
tells_packet line number None cut rest packet is on read = absurd (on (is.line_is ∙ ap (λ (r : List ℕ). codes "track " ++ decimal cut ++ r) is.rest_after))
tells_packet line number (Some p) cut rest packet is on read = read p is.rest_after.0 is.rest_after.2

-- unless none is
pub tells_nothing : (line : List ℕ) (number : ℕ) (item : Option (List ℕ)) (cut : ℕ) (rest : List ℕ) → IsCut line number item cut rest → (line ≡ off_text cut → ⊥)
    → ((p : List ℕ) → IsPacket p → is_checked p ≡ true → rest ≡ hex_words p → line ≡ track_text cut p → ⊥) → ⊥
tells_nothing line number None cut rest is on read = on (is.line_is ∙ ap (λ (r : List ℕ). codes "track " ++ decimal cut ++ r) is.rest_after)
tells_nothing line number (Some p) cut rest is on read = read p is.rest_after.0 is.rest_after.1 is.rest_after.2 (is.line_is ∙ ap (λ (r : List ℕ). codes "track " ++ decimal cut ++ r) is.rest_after.2)

abbrev turn_with : ℕ → Option (List ℕ) → Turn
turn_with number packet = record { number = number; packet = packet }

pub same_turn : (number : ℕ) (packet : Option (List ℕ)) (turn : Turn) → number ≡ turn.number → packet ≡ turn.packet → turn_with number packet ≡ turn
same_turn number packet turn same_number same_packet = ap₂ turn_with same_number same_packet

-- Of the lines of turns, none says that lines were lost, and each has the first word.

printed : (line : List ℕ) (number : ℕ) (packet : Option (List ℕ)) → Prints line number packet → (is_gap line ≡ false) × (is_of_turn line ≡ true)
printed line number None prints = (ap is_gap prints, ap is_of_turn prints)
printed line number (Some packet) prints = (ap is_gap prints.2, ap is_of_turn prints.2)

pub no_gap : (line : List ℕ) (item : Option Turn) → Parses line item → is_gap line ≡ false
no_gap line None parses = parses.0
no_gap line (Some turn) parses = (printed line turn.number turn.packet parses.1).0

-- a line with another first word has none
pub no_turn : (line : List ℕ) (item : Option Turn) → Parses line item → is_of_turn line ≡ false → None ≡ item
no_turn line None parses other = refl
no_turn line (Some turn) parses other =
    let as_turn : is_of_turn line ≡ true = (printed line turn.number turn.packet parses.1).1 in
    let both : true ≡ false = sym as_turn ∙ other in
    cc

-- a line with it has the one that is read
pub one_turn : {E : Type 0} (line : List ℕ) (item : Option Turn) (result : Result Turn E) → is_of_turn line ≡ true → ((turn : Turn) → IsOfTurn line turn → result ≡ Ok turn) → Parses line item
    → (turn : Turn) × (item ≡ Some turn) × (result ≡ Ok turn)
one_turn line None result as_turn exact parses = absurd (let both : true ≡ false = sym as_turn ∙ parses.1 in cc)
one_turn line (Some turn) result as_turn exact parses = (turn, refl, exact turn parses)
