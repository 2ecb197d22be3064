-- What is written in the plainest form is read back.
use Rattle.std.proofs.Common.{◌≡◌, ℕ, zero, suc, ◌+◌, ◌-◌, ◌*◌, ◌/◌, ◌%◌, ◌^◌, ◌<◌, ◌≤◌, ◌==◌, ◌&&◌, nat_lt, nat_le, Bool, true, false, if◌then◌else◌, List, [], ◌∷◌, ◌++◌, length, get_or, map, fold, filter, codes, Option, Some, Ok, Err, Result, refl, ap, ap₂, sym, ◌∙◌, arith, append-nil, ne_eqb, bit_or}
use Rattle.std.specs.Char.{is_ascii_digit}
use Rattle.std.specs.Fmt.{decimal}
use Rattle.std.specs.Int.{bit_at}
use Rattle.std.specs.Int.Bits.{or_zero_l, or_zero_r}
use Rattle.std.specs.List.{AllByRecursion, list_all, slice_split, onto_first}
use Rattle.std.specs.Str.Lines.{lines, lines_of_parts, strip_carriage_return}
use Rattle.std.specs.Str.Parse.{digits_value}
use Rattle.std.proofs.lemmas.Bool.{and_parts, and_from, eq-eqb, eqb-true, le-leb, leb-true, le-ltb, lt-ltb, ltb-true}
use Rattle.std.proofs.lemmas.Bool.Decides.{nat_tests}
use Rattle.std.proofs.lemmas.Fmt.{decimal_nonempty, digits_decimal, digits_value-decimal, length-decimal-le}
use Rattle.std.proofs.lemmas.List.Splits.{slice_split-cons_no, slice_split-cons_yes}
use Rattle.std.proofs.lemmas.Nat.{mod-pow-add, or_block, pow_pos}
use Rattle.std.proofs.lemmas.Nat.Bits.{bit_at-lt}
use Rattle.std.proofs.Math.Nat.{mod-eq_of_lt, mod-lt}
use Rattle.text.specs.Hex.{hex_char, both, digit_of, pair_of}
use Rattle.show_text.specs.declared.command.Command.{Command}
use Rattle.show_text.specs.declared.command.Command.TheVariants.{Byte, Turns, Show}
use Rattle.show_text.specs.declared.command.ScriptFault.{ScriptFault}
use Rattle.show_text.specs.declared.command.ScriptFaultKind.{ScriptFaultKind}
use Rattle.show_text.specs.declared.command.ScriptFaultKind.TheVariants.{BadNumber, BadNode, BadLine}
use Rattle.show_text.specs.Script.{◌>>=◌, at_line, below, bytes_of, command_of, commands_of, count_of, is_count, line_commands, missed_of, nodes_of, or_fault, script_of, set_with, some_nodes, with_node}
use Rattle.text.specs.Sequence.{followed_by}
use Rattle.text.specs.Words.{is_blank, is_word, words_of}
use Rattle.text.specs.Decimal.{decimal_of}
use Rattle.show_text.specs.Written.{can_be_asked, command_text, missed_text, named_below, number_words, script_text}
use Rattle.show_text.proofs.Cuts.{parts_after}
use Rattle.std.proofs.lemmas.Str.Parse.{IsNumeralModel, numerals_by_value, tells_all_ascii_digits}
use Rattle.std.specs.Str.{all_ascii_digits}

-- ---- cutting where the first element passes

module _ (p q : ℕ → Bool) (own_side : (b : ℕ) → q b ≡ true → p b ≡ false) where
  cut_at : (xs : List ℕ) (y : ℕ) (ys : List ℕ) → list_all q xs ≡ true → p y ≡ true → slice_split p (xs ++ y ∷ ys) ≡ xs ∷ slice_split p ys
  cut_at [] y ys h e = slice_split-cons_yes p y ys e
  cut_at (x ∷ xs) y ys h e =
      let k = and_parts (q x) (list_all q xs) h in
      slice_split-cons_no p x (xs ++ y ∷ ys) (own_side x k.0) ∙ ap (onto_first x) (cut_at xs y ys k.1 e)

  uncut : (xs : List ℕ) → list_all q xs ≡ true → slice_split p xs ≡ xs ∷ []
  uncut [] h = refl
  uncut (x ∷ xs) h =
      let k = and_parts (q x) (list_all q xs) h in
      slice_split-cons_no p x xs (own_side x k.0) ∙ ap (onto_first x) (uncut xs k.1)

-- ---- words, and lines of words

abbrev is_mark : ℕ → Bool
is_mark b = nat_le 33 b

abbrev is_shown : ℕ → Bool
is_shown b = nat_le 32 b

abbrev IsWord : List ℕ → Type 0
IsWord word = (is_word word ≡ true) × (list_all is_mark word ≡ true)

mark-not_blank : (b : ℕ) → is_mark b ≡ true → is_blank b ≡ false
mark-not_blank b h = grind (arith, nat_tests)

shown-no_feed : (b : ℕ) → is_shown b ≡ true → (b == 10) ≡ false
shown-no_feed b h = grind (arith, nat_tests)

-- each word after a space
abbrev after : List (List ℕ) → List ℕ
after [] = []
after (word ∷ words) = 32 ∷ (word ++ after words)

kept_word : (word : List ℕ) (words : List (List ℕ)) → is_word word ≡ true → filter is_word (word ∷ words) ≡ word ∷ filter is_word words
kept_word [] words h = cc
kept_word (b ∷ bs) words h = refl

words-back : (word : List ℕ) (words : List (List ℕ)) → IsWord word → AllByRecursion IsWord words → words_of (word ++ after words) ≡ word ∷ words
unfolding words_of
words-back word [] h k = ap (λ (text : List ℕ). filter is_word (slice_split is_blank text)) (append-nil word) ∙ ap (filter is_word) (uncut is_blank is_mark mark-not_blank word h.1) ∙ kept_word word [] h.0
words-back word (next ∷ words) h k =
    ap (filter is_word) (cut_at is_blank is_mark mark-not_blank word 32 (next ++ after words) h.1 refl)
    ∙ kept_word word (slice_split is_blank (next ++ after words)) h.0
    ∙ ap (λ (ws : List (List ℕ)). word ∷ ws) (words-back next words k.0 k.1)

all-append : (q : ℕ → Bool) (xs ys : List ℕ) → list_all q xs ≡ true → list_all q ys ≡ true → list_all q (xs ++ ys) ≡ true
all-append q [] ys h k = k
all-append q (x ∷ xs) ys h k =
    let p = and_parts (q x) (list_all q xs) h in
    and_from (q x) (list_all q (xs ++ ys)) p.0 (all-append q xs ys p.1 k)

all-weaker : (p q : ℕ → Bool) → ((x : ℕ) → p x ≡ true → q x ≡ true) → (xs : List ℕ) → list_all p xs ≡ true → list_all q xs ≡ true
all-weaker p q weaker [] h = refl
all-weaker p q weaker (x ∷ xs) h =
    let both = and_parts (p x) (list_all p xs) h in
    and_from (q x) (list_all q xs) (weaker x both.0) (all-weaker p q weaker xs both.1)

mark-shown : (b : ℕ) → is_mark b ≡ true → is_shown b ≡ true
mark-shown b h = grind (arith, nat_tests)

marks-shown : (xs : List ℕ) → list_all is_mark xs ≡ true → list_all is_shown xs ≡ true
marks-shown = all-weaker is_mark is_shown mark-shown

after-shown : (words : List (List ℕ)) → AllByRecursion IsWord words → list_all is_shown (after words) ≡ true
after-shown [] k = refl
after-shown (word ∷ words) k = all-append is_shown word (after words) (marks-shown word k.0.1) (after-shown words k.1)

-- a line of these words
record IsLineOf (text word : List ℕ) (words : List (List ℕ)) : Type 0 where
  is : text ≡ word ++ after words
  first : IsWord word
  others : AllByRecursion IsWord words

line_words : (text word : List ℕ) (words : List (List ℕ)) → IsLineOf text word words → words_of text ≡ word ∷ words
line_words text word words line = ap words_of line.is ∙ words-back word words line.first line.others

line_shown : (text word : List ℕ) (words : List (List ℕ)) → IsLineOf text word words → list_all is_shown text ≡ true
line_shown text word words line = ap (list_all is_shown) line.is ∙ all-append is_shown word (after words) (marks-shown word line.first.1) (after-shown words line.others)

-- ---- the lines of a text

no_return : (xs : List ℕ) → list_all is_shown xs ≡ true → (k : ℕ) → get_or xs k 0 ≡ 13 → ⊥
no_return [] h k e = omega (arith, e)
no_return (x ∷ xs) h zero e =
    let low : 32 ≤ x = leb-true 32 x (and_parts (is_shown x) (list_all is_shown xs) h).0 in
    omega (arith, e)
no_return (x ∷ xs) h (suc k) e = no_return xs (and_parts (is_shown x) (list_all is_shown xs) h).1 k e

stays : (text : List ℕ) → list_all is_shown text ≡ true → strip_carriage_return text ≡ text
stays text h = let no = ne_eqb (get_or text (length text - 1) 0) 13 (no_return text h (length text - 1)) in rw no refl

line-back : (text rest : List ℕ) → list_all is_shown text ≡ true → lines (text ++ 10 ∷ rest) ≡ text ∷ lines rest
line-back text rest h =
    ap lines_of_parts (cut_at (λ b. b == 10) is_shown shown-no_feed text 10 rest h refl)
    ∙ parts_after text (λ b. b == 10) rest
    ∙ ap (λ (line : List ℕ). line ∷ lines rest) (stays text h)

-- ---- numbers and pairs

some_word : (xs : List ℕ) → 0 < length xs → is_word xs ≡ true
some_word [] h = absurd (omega arith)
some_word (x ∷ xs) h = refl

digit-mark : (b : ℕ) → is_ascii_digit b ≡ true → is_mark b ≡ true
digit-mark b h = grind (arith, nat_tests)

digits-marks : (xs : List ℕ) → list_all is_ascii_digit xs ≡ true → list_all is_mark xs ≡ true
digits-marks = all-weaker is_ascii_digit is_mark digit-mark

own : IsNumeralModel (λ ds. all_ascii_digits ds ≡ true) (digits_value 10)
own = numerals_by_value _ tells_all_ascii_digits

all_digits : (word : List ℕ) → list_all is_ascii_digit word ≡ all_ascii_digits word
all_digits [] = refl
all_digits (b ∷ bs) = ap (λ rest. is_ascii_digit b && rest) (all_digits bs)

decimal-digits : (n : ℕ) → n < 2 ^ 64 → list_all is_ascii_digit (decimal n) ≡ true
decimal-digits n h = all_digits (decimal n) ∙ digits_decimal own n h

decimal-word : (n : ℕ) → n < 10000000 → IsWord (decimal n)
decimal-word n h =
    let fits : n < 2 ^ 64 = omega arith in
    (some_word (decimal n) (decimal_nonempty n fits), digits-marks (decimal n) (decimal-digits n fits))

decimal_by : (word : List ℕ) (n : ℕ) → 1 ≤ length word → length word ≤ 7 → list_all is_ascii_digit word ≡ true → digits_value 10 word ≡ n → decimal_of word ≡ Some n
decimal_by word n some few digits value = rw (le-leb 1 (length word) some, le-leb (length word) 7 few, digits) (ap Some value)

decimal-back : (n : ℕ) → n < 10000000 → decimal_of (decimal n) ≡ Some n
decimal-back n h =
    let fits : n < 2 ^ 64 = omega arith in
    decimal_by (decimal n) n (decimal_nonempty n fits) (length-decimal-le 7 n (omega arith) (omega arith) fits) (decimal-digits n fits) (digits_value-decimal own n fits)

below-back : (limit n : ℕ) (why : ScriptFaultKind) → n < limit → n < 10000000 → below limit why (decimal n) ≡ Ok n
below-back limit n why low small =
    ap (λ (o : Option ℕ). or_fault o BadNumber >>= (λ m. if nat_lt m limit then Ok m else Err why)) (decimal-back n small)
    ∙ ap (λ (b : Bool). if b then Ok n else Err why) (lt-ltb n limit low)

count-back : (n : ℕ) → is_count n ≡ true → n < 10000000 → count_of (decimal n) ≡ Ok n
count-back n is small =
    ap (λ (o : Option ℕ). or_fault o BadNumber >>= (λ m. if is_count m then Ok m else Err BadNumber)) (decimal-back n small)
    ∙ ap (λ (b : Bool). if b then Ok n else Err BadNumber) is

abbrev two : ℕ → List ℕ
two b = hex_char (b / 16) ∷ hex_char (b % 16) ∷ []

digit-back : (d : ℕ) → d < 16 → digit_of (hex_char d) ≡ Some d
digit-back d h = grind (arith, nat_tests)

pair-back : (b : ℕ) → b < 256 → pair_of (two b) ≡ Some b
pair-back b h =
    let high : b / 16 < 16 = omega arith in
    let low : b % 16 < 16 = omega arith in
    let whole : 16 * (b / 16) + b % 16 ≡ b = omega arith in
    ap₂ both (digit-back (b / 16) high) (digit-back (b % 16) low) ∙ ap Some whole

hex-mark : (d : ℕ) → d < 16 → is_mark (hex_char d) ≡ true
hex-mark d h = grind (arith, nat_tests)

pair-word : (b : ℕ) → b < 256 → IsWord (two b)
pair-word b h =
    let high : b / 16 < 16 = omega arith in
    let low : b % 16 < 16 = omega arith in
    (refl, and_from (is_mark (hex_char (b / 16))) _ (hex-mark (b / 16) high) (and_from (is_mark (hex_char (b % 16))) true (hex-mark (b % 16) low) refl))

-- ---- the nodes of a set

fold-append : (f : ℕ → ℕ → ℕ) (z : ℕ) (xs ys : List ℕ) → fold f z (xs ++ ys) ≡ fold f (fold f z xs) ys
fold-append f z [] ys = refl
fold-append f z (x ∷ xs) ys = fold-append f (f z x) xs ys

one_more_bit : (n set : ℕ) → set % 2 ^ suc n ≡ bit_at set n * 2 ^ n + set % 2 ^ n
one_more_bit n set = let e : suc n ≡ 1 + n = omega arith in ap (λ (m : ℕ). set % 2 ^ m) e ∙ mod-pow-add set 1 n

module _ (power : ℕ) where
  bit_is : (bit low : ℕ) → bit ≡ 1 → power + low ≡ bit * power + low
  bit_is bit low e = rw e (omega arith)

  bit_is_not : (bit low : ℕ) → bit ≡ 0 → low ≡ bit * power + low
  bit_is_not bit low e = rw e (omega arith)

joined_bit : (n low : ℕ) → low < 2 ^ n → bit_or low (2 ^ n) ≡ 2 ^ n + low
joined_bit n low small =
    let left : low ≡ 0 * 2 ^ n + low = omega arith in
    let right : 2 ^ n ≡ 1 * 2 ^ n + 0 = omega arith in
    let some : 0 < 2 ^ n = omega (arith, small) in
    ap₂ bit_or left right ∙ or_block n 0 1 low 0 small some ∙ ap₂ (λ (high rest : ℕ). high * 2 ^ n + rest) (or_zero_l 1) (or_zero_r low) ∙ one_time (2 ^ n) low
  where
    one_time : (power low : ℕ) → 1 * power + low ≡ power + low
    one_time power low = omega arith

last_bit : (n low bit : ℕ) → low < 2 ^ n → bit < 2 → fold with_node low (if bit == 1 then n ∷ [] else []) ≡ bit * 2 ^ n + low
last_bit n low zero small h = bit_is_not (2 ^ n) 0 low refl
last_bit n low (suc zero) small h = joined_bit n low small ∙ bit_is (2 ^ n) 1 low refl
last_bit n low (suc (suc bit)) small h = absurd (omega (arith, h))

low-bits : (n set : ℕ) → set % 2 ^ n < 2 ^ n
low-bits n set = mod-lt set (pow_pos n)

set-below : (n set : ℕ) → fold with_node 0 (named_below n set) ≡ set % 2 ^ n
set-below zero set = let e : set % 1 ≡ 0 = omega arith in sym e
set-below (suc n) set =
    fold-append with_node 0 (named_below n set) (if bit_at set n == 1 then n ∷ [] else [])
    ∙ ap (λ (low : ℕ). fold with_node low (if bit_at set n == 1 then n ∷ [] else [])) (set-below n set)
    ∙ last_bit n (set % 2 ^ n) (bit_at set n) (low-bits n set) (bit_at-lt set n)
    ∙ sym (one_more_bit n set)

set-back : (nodes set : ℕ) → set < 2 ^ nodes → fold with_node 0 (named_below nodes set) ≡ set
set-back nodes set h = set-below nodes set ∙ mod-eq_of_lt h

abbrev AreBelow : ℕ → List ℕ → Type 0
AreBelow limit = AllByRecursion (λ n. n < limit)

both_below : (limit : ℕ) (xs ys : List ℕ) → AreBelow limit xs → AreBelow limit ys → AreBelow limit (xs ++ ys)
both_below limit [] ys h k = k
both_below limit (x ∷ xs) ys h k = (h.0, both_below limit xs ys h.1 k)

one_below : (limit n : ℕ) (named : Bool) → n < limit → AreBelow limit (if named then n ∷ [] else [])
one_below limit n true h = (h, tt)
one_below limit n false h = tt

named-below : (n limit set : ℕ) → n ≤ limit → AreBelow limit (named_below n set)
named-below zero limit set h = tt
named-below (suc n) limit set h =
    let less : n < limit = omega (arith, h) in
    let most : n ≤ limit = omega (arith, h) in
    both_below limit (named_below n set) (if bit_at set n == 1 then n ∷ [] else []) (named-below n limit set most) (one_below limit n (bit_at set n == 1) less)

nodes-back : (nodes : ℕ) (ns : List ℕ) → nodes ≤ 64 → AreBelow nodes ns → nodes_of nodes (map decimal ns) ≡ Ok ns
unfolding nodes_of
nodes-back nodes [] h k = refl
nodes-back nodes (n ∷ ns) h k =
    let small : n < 10000000 = omega (arith, h, k.0) in
    ap₂ (λ (one : Result (List ℕ) ScriptFaultKind) (more : Result (List ℕ) ScriptFaultKind). followed_by one more)
    (ap (λ (read : Result ℕ ScriptFaultKind). read >>= (λ i. Ok (i ∷ []))) (below-back nodes n BadNode k.0 small)) (nodes-back nodes ns h k.1)

numbers-words : (ns : List ℕ) → number_words ns ≡ after (map decimal ns)
numbers-words [] = refl
numbers-words (n ∷ ns) = ap (λ (text : List ℕ). 32 ∷ (decimal n ++ text)) (numbers-words ns)

numbers-are_words : (limit : ℕ) (ns : List ℕ) → limit ≤ 64 → AreBelow limit ns → AllByRecursion IsWord (map decimal ns)
numbers-are_words limit [] h k = tt
numbers-are_words limit (n ∷ ns) h k =
    let small : n < 10000000 = omega (arith, h, k.0) in
    (decimal-word n small, numbers-are_words limit ns h k.1)

-- ---- the text after the number of turns

abbrev missed_words : (nodes missed : ℕ) → List (List ℕ)
missed_words nodes missed = if missed == 0 then [] else codes "miss" ∷ map decimal (named_below nodes missed)

words_by : (none : Bool) (ns : List ℕ) → (if none then [] else codes " miss" ++ number_words ns) ≡ after (if none then [] else codes "miss" ∷ map decimal ns)
words_by true ns = refl
words_by false ns = ap (λ (text : List ℕ). codes " miss" ++ text) (numbers-words ns)

missed-words : (nodes missed : ℕ) → missed_text nodes missed ≡ after (missed_words nodes missed)
missed-words nodes missed = words_by (missed == 0) (named_below nodes missed)

are_words_by : (none : Bool) (nodes : ℕ) (ns : List ℕ) → nodes ≤ 64 → AreBelow nodes ns → AllByRecursion IsWord (if none then [] else codes "miss" ∷ map decimal ns)
are_words_by true nodes ns h k = tt
are_words_by false nodes ns h k = ((refl, refl), numbers-are_words nodes ns h k)

missed-are_words : (nodes missed : ℕ) → nodes ≤ 64 → AllByRecursion IsWord (missed_words nodes missed)
missed-are_words nodes missed h = are_words_by (missed == 0) nodes (named_below nodes missed) h (named-below nodes nodes missed (omega arith))

-- a set of some nodes names one
some_named : (nodes missed : ℕ) (ns : List ℕ) → (missed == 0) ≡ false → fold with_node 0 ns ≡ missed → nodes_of nodes (map decimal ns) ≡ Ok ns → some_nodes nodes (map decimal ns) ≡ Ok missed
some_named nodes missed [] some e h = let none : (missed == 0) ≡ true = eq-eqb missed 0 (sym e) in cc
some_named nodes missed (n ∷ ns) some e h = ap (set_with 0) h ∙ ap Ok e

missed_by : (none : Bool) (nodes missed : ℕ) (ns : List ℕ) → (missed == 0) ≡ none → fold with_node 0 ns ≡ missed → nodes_of nodes (map decimal ns) ≡ Ok ns
    → missed_of nodes (if none then [] else codes "miss" ∷ map decimal ns) ≡ Ok missed
missed_by true nodes missed ns e set read = ap Ok (sym (eqb-true missed 0 e))
missed_by false nodes missed ns e set read = some_named nodes missed ns e set read

missed-back : (nodes missed : ℕ) → nodes ≤ 64 → missed < 2 ^ nodes → missed_of nodes (missed_words nodes missed) ≡ Ok missed
missed-back nodes missed h low =
    missed_by (missed == 0) nodes missed (named_below nodes missed) refl (set-back nodes missed low)
    (nodes-back nodes (named_below nodes missed) h (named-below nodes nodes missed (omega arith)))

-- ---- a command

record Reads (count nodes : ℕ) (text : List ℕ) (command : Command) : Type 0 where
  shown : list_all is_shown text ≡ true
  says : line_commands count nodes text ≡ Ok (command ∷ [])

turn_by : (nodes n missed : ℕ) (word : List ℕ) (words : List (List ℕ)) → count_of word ≡ Ok n → missed_of nodes words ≡ Ok missed
    → command_of 0 nodes (codes "turn" ∷ word ∷ words) ≡ Ok (Turns n missed ∷ [])
turn_by nodes n missed word words e f = rw (e, f) refl

byte_by : (count line byte : ℕ) (word pair : List ℕ) → below count BadLine word ≡ Ok line → pair_of pair ≡ Some byte
    → command_of count 0 (codes "line" ∷ word ∷ pair ∷ []) ≡ Ok (Byte line byte ∷ [])
unfolding bytes_of
byte_by count line byte word pair e f = rw (e, f) refl

turn-reads : (count nodes n missed : ℕ) → nodes ≤ 64 → is_count n ≡ true → missed < 2 ^ nodes → Reads count nodes (command_text nodes (Turns n missed)) (Turns n missed)
turn-reads count nodes n missed h is low =
    let most : n ≤ 1000000 = leb-true n 1000000 (and_parts (nat_le 1 n) (nat_le n 1000000) is).1 in
    let small : n < 10000000 = omega (arith, most) in
    let line : IsLineOf (command_text nodes (Turns n missed)) (codes "turn") (decimal n ∷ missed_words nodes missed) = record {
      is = ap (λ (text : List ℕ). codes "turn " ++ decimal n ++ text) (missed-words nodes missed);
      first = (refl, refl);
      others = (decimal-word n small, missed-are_words nodes missed h);
    } in
    record {
      shown = line_shown (command_text nodes (Turns n missed)) (codes "turn") (decimal n ∷ missed_words nodes missed) line;
      says = ap (command_of count nodes) (line_words (command_text nodes (Turns n missed)) (codes "turn") (decimal n ∷ missed_words nodes missed) line)
          ∙ turn_by nodes n missed (decimal n) (missed_words nodes missed) (count-back n is small) (missed-back nodes missed h low);
    }

byte-reads : (count nodes line byte : ℕ) → count ≤ 256 → line < count → byte < 256 → Reads count nodes (command_text nodes (Byte line byte)) (Byte line byte)
byte-reads count nodes line byte h low small =
    let fits : line < 10000000 = omega (arith, h, low) in
    let text : IsLineOf (command_text nodes (Byte line byte)) (codes "line") (decimal line ∷ two byte ∷ []) = record {
      is = refl;
      first = (refl, refl);
      others = (decimal-word line fits, (pair-word byte small, tt));
    } in
    record {
      shown = line_shown (command_text nodes (Byte line byte)) (codes "line") (decimal line ∷ two byte ∷ []) text;
      says = ap (command_of count nodes) (line_words (command_text nodes (Byte line byte)) (codes "line") (decimal line ∷ two byte ∷ []) text)
          ∙ byte_by count line byte (decimal line) (two byte) (below-back count line BadLine low fits) (pair-back byte small);
    }

show-reads : (count nodes : ℕ) → Reads count nodes (codes "show") Show
show-reads count nodes =
    let text : IsLineOf (codes "show") (codes "show") [] = record { is = refl; first = (refl, refl); others = tt } in
    record { shown = refl; says = ap (command_of count nodes) (line_words (codes "show") (codes "show") [] text) }

command-reads : (count nodes : ℕ) (command : Command) → count ≤ 256 → nodes ≤ 64 → can_be_asked count nodes command ≡ true → Reads count nodes (command_text nodes command) command
command-reads count nodes (Byte line byte) h k e =
    let p = and_parts (nat_lt line count) (nat_lt byte 256) e in
    byte-reads count nodes line byte h (ltb-true line count p.0) (ltb-true byte 256 p.1)
command-reads count nodes (Turns n missed) h k e =
    let p = and_parts (is_count n) (nat_lt missed (2 ^ nodes)) e in
    turn-reads count nodes n missed k p.0 (ltb-true missed (2 ^ nodes) p.1)
command-reads count nodes Show h k e = show-reads count nodes

-- ---- a script

commands-back : (count nodes at : ℕ) (commands : List Command) → count ≤ 256 → nodes ≤ 64 → list_all (can_be_asked count nodes) commands ≡ true
    → commands_of count nodes at (lines (script_text nodes commands)) ≡ Ok commands
unfolding commands_of
commands-back count nodes at [] h k e = refl
commands-back count nodes at (command ∷ commands) h k e =
    let p = and_parts (can_be_asked count nodes command) (list_all (can_be_asked count nodes) commands) e in
    let one = command-reads count nodes command h k p.0 in
    ap (commands_of count nodes at) (line-back (command_text nodes command) (script_text nodes commands) one.shown)
    ∙ ap₂ (λ (read : Result (List Command) ScriptFaultKind) (more : Result (List Command) ScriptFault). followed_by (at_line at read) more) one.says (commands-back count nodes (at + 1) commands h k p.1)

script-within : (count nodes : ℕ) (text : List ℕ) → length text ≤ 1048576 → script_of count nodes text ≡ commands_of count nodes 1 (lines text)
script-within count nodes text h = rw (le-ltb 1048576 (length text) h) refl

pub script-back : (count nodes : ℕ) (commands : List Command) → count ≤ 256 → nodes ≤ 64 → list_all (can_be_asked count nodes) commands ≡ true
    → length (script_text nodes commands) ≤ 1048576 → script_of count nodes (script_text nodes commands) ≡ Ok commands
script-back count nodes commands h k e short = script-within count nodes (script_text nodes commands) short ∙ commands-back count nodes 1 commands h k e
