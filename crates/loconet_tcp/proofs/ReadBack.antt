-- The bytes of a message, as `RECEIVE` writes them, request that message.
use Rattle.std.proofs.Common.{◌≡◌, ℕ, ◌+◌, ◌*◌, ◌/◌, ◌%◌, ◌<◌, ◌≤◌, Bool, true, false, List, [], ◌∷◌, ◌++◌, suc, length, get_or, map, filter, ◌&&◌, Option, Some, refl, ap, ap₂, ◌∙◌, arith, if◌then◌else◌}
use Rattle.std.specs.Prelude.{codes}
use Rattle.std.specs.List.{slice_split, onto_first}
use Rattle.std.specs.Option.{is_some}
use Rattle.std.proofs.lemmas.Bool.{le-ltb}
use Rattle.std.proofs.lemmas.Bool.Decides.{nat_tests}
use Rattle.std.proofs.lemmas.List.Splits.{slice_split-cons_no}
use Rattle.ln_frame.specs.Message.{IsWhole}
use Rattle.text.specs.Hex.{hex_char, digit_of, both, pair_of, hex_words}
use Rattle.loconet_tcp.specs.declared.request.Request.{Request}
use Rattle.loconet_tcp.specs.declared.request.Request.TheVariants.{Send, Invalid}
use Rattle.loconet_tcp.specs.declared.request.Reason.TheVariants.{TooLong}
use Rattle.text.specs.Words.{is_blank, is_word, words_of}
use Rattle.loconet_tcp.specs.Requests.{led_by, leading_bytes, are_pairs, bytes_of, parse_send, request_of}
use Rattle.loconet_tcp.proofs.Whole.{length-hex_words, length-whole}

-- A digit is read as the value that it was written for, and is no blank.

digit-back : (d : ℕ) → d < 16 → digit_of (hex_char d) ≡ Some d
digit-back d h = grind (arith, nat_tests)

digit-not_blank : (d : ℕ) → d < 16 → is_blank (hex_char d) ≡ false
digit-not_blank d h = grind (arith, nat_tests)

abbrev two : ℕ → List ℕ
two b = hex_char (b / 16) ∷ hex_char (b % 16) ∷ []

pair-back : (b : ℕ) → b < 256 → pair_of (two b) ≡ Some b
pair-back b h =
    let high : b / 16 < 16 = omega arith in
    let low : b % 16 < 16 = omega arith in
    let whole : 16 * (b / 16) + b % 16 ≡ b = omega arith in
    ap₂ both (digit-back (b / 16) high) (digit-back (b % 16) low) ∙ ap Some whole

leading_bytes-back : (bytes : List ℕ) → ((i : ℕ) → get_or bytes i 0 < 256) → leading_bytes (map two bytes) ≡ bytes
unfolding leading_bytes
leading_bytes-back [] h = refl
leading_bytes-back (b ∷ bytes) h = ap₂ led_by (pair-back b (h 0)) (leading_bytes-back bytes (λ i. h (suc i)))

pairs-back : (bytes : List ℕ) → ((i : ℕ) → get_or bytes i 0 < 256) → are_pairs (map two bytes) ≡ true
unfolding are_pairs
pairs-back [] h = refl
pairs-back (b ∷ bytes) h = ap (λ (pair : Option ℕ). is_some pair && are_pairs (map two bytes)) (pair-back b (h 0)) ∙ pairs-back bytes (λ i. h (suc i))

bytes-back : (bytes : List ℕ) → ((i : ℕ) → get_or bytes i 0 < 256) → bytes_of (map two bytes) ≡ Some bytes
unfolding bytes_of
bytes-back bytes h = rw (pairs-back bytes h) (ap Some (leading_bytes-back bytes h))

-- The words of the written text are its pairs of digits.

part : (b : ℕ) (rest : List ℕ) (parts : List (List ℕ)) → b < 256 → slice_split is_blank rest ≡ [] ∷ parts → slice_split is_blank (hex_char (b / 16) ∷ hex_char (b % 16) ∷ rest) ≡ two b ∷ parts
part b rest parts h e =
    let high : b / 16 < 16 = omega arith in
    let low : b % 16 < 16 = omega arith in
    slice_split-cons_no is_blank (hex_char (b / 16)) (hex_char (b % 16) ∷ rest) (digit-not_blank (b / 16) high)
    ∙ ap (onto_first (hex_char (b / 16))) (slice_split-cons_no is_blank (hex_char (b % 16)) rest (digit-not_blank (b % 16) low) ∙ ap (onto_first (hex_char (b % 16))) e)

parts-of_words : (bytes : List ℕ) → ((i : ℕ) → get_or bytes i 0 < 256) → slice_split is_blank (hex_words bytes) ≡ [] ∷ map two bytes
parts-of_words [] h = refl
parts-of_words (b ∷ bytes) h = ap (λ (parts : List (List ℕ)). [] ∷ parts) (part b (hex_words bytes) (map two bytes) (h 0) (parts-of_words bytes (λ i. h (suc i))))

all_words : (bytes : List ℕ) → filter is_word (map two bytes) ≡ map two bytes
all_words [] = refl
all_words (b ∷ bytes) = ap (λ (words : List (List ℕ)). two b ∷ words) (all_words bytes)

words-back : (b : ℕ) (bytes : List ℕ) → ((i : ℕ) → get_or (b ∷ bytes) i 0 < 256) → words_of (hex_char (b / 16) ∷ hex_char (b % 16) ∷ hex_words bytes) ≡ map two (b ∷ bytes)
unfolding words_of
words-back b bytes h =
    ap (filter is_word) (part b (hex_words bytes) (map two bytes) (h 0) (parts-of_words bytes (λ i. h (suc i)))) ∙ all_words (b ∷ bytes)

pub alone-back : (bytes : List ℕ) → ((i : ℕ) → get_or bytes i 0 < 256) → bytes_of (words_of (hex_words bytes)) ≡ Some bytes
unfolding words_of
alone-back bytes h = ap bytes_of (ap (filter is_word) (parts-of_words bytes h) ∙ all_words bytes) ∙ bytes-back bytes h

-- So they are before other words.

parts-before : (bytes text : List ℕ) → ((i : ℕ) → get_or bytes i 0 < 256) → slice_split is_blank (hex_words bytes ++ 32 ∷ text) ≡ [] ∷ (map two bytes ++ slice_split is_blank text)
parts-before [] text h = refl
parts-before (b ∷ bytes) text h =
    ap (λ (parts : List (List ℕ)). [] ∷ parts) (part b (hex_words bytes ++ 32 ∷ text) (map two bytes ++ slice_split is_blank text) (h 0) (parts-before bytes text (λ i. h (suc i))))

words-before : (bytes : List ℕ) (more : List (List ℕ)) → filter is_word (map two bytes ++ more) ≡ map two bytes ++ filter is_word more
words-before [] more = refl
words-before (b ∷ bytes) more = ap (λ (words : List (List ℕ)). two b ∷ words) (words-before bytes more)

leading_bytes-before : (bytes : List ℕ) (more : List (List ℕ)) → ((i : ℕ) → get_or bytes i 0 < 256) → leading_bytes (map two bytes ++ more) ≡ bytes ++ leading_bytes more
unfolding leading_bytes
leading_bytes-before [] more h = refl
leading_bytes-before (b ∷ bytes) more h = ap₂ led_by (pair-back b (h 0)) (leading_bytes-before bytes more (λ i. h (suc i)))

pub before-back : (bytes text : List ℕ) → ((i : ℕ) → get_or bytes i 0 < 256) → leading_bytes (words_of (hex_words bytes ++ 32 ∷ text)) ≡ bytes ++ leading_bytes (words_of text)
unfolding words_of
before-back bytes text h =
    ap leading_bytes (ap (filter is_word) (parts-before bytes text h) ∙ words-before bytes (slice_split is_blank text)) ∙ leading_bytes-before bytes (words_of text) h

sends : (message : List ℕ) → IsWhole message → parse_send (Some message) ≡ Send message
sends message w = rw w refl

abbrev asked_when : Bool → Request → Option Request
asked_when long request = Some (if long then Invalid TooLong else request)

pub request-back : (message : List ℕ) → IsWhole message → ((i : ℕ) → get_or message i 0 < 256) → request_of (codes "SEND" ++ hex_words message) ≡ Some (Send message)
request-back [] w h = cc
request-back (b ∷ bytes) w h =
    let line = codes "SEND" ++ hex_words (b ∷ bytes) in
    let text = hex_char (b / 16) ∷ hex_char (b % 16) ∷ hex_words bytes in
    let size : length (codes "SEND" ++ hex_words (b ∷ bytes)) ≤ 400 = omega (arith, length-hex_words (b ∷ bytes), length-whole (b ∷ bytes) w) in
    ap (λ (long : Bool). asked_when long (parse_send (bytes_of (words_of text)))) (le-ltb 400 (length line) size)
    ∙ ap (λ (words : List (List ℕ)). Some (parse_send (bytes_of words))) (words-back b bytes h)
    ∙ ap (λ (written : Option (List ℕ)). Some (parse_send written)) (bytes-back (b ∷ bytes) h)
    ∙ ap Some (sends (b ∷ bytes) w)
