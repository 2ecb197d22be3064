-- The lines that `station` prints are read back.
use Rattle.std.proofs.Common.{◌≡◌, ℕ, ◌+◌, ◌^◌, ◌/◌, ◌%◌, ◌<◌, ◌&&◌, suc, nat_eq, Bool, true, false, if◌then◌else◌, List, [], ◌∷◌, ◌++◌, length, drop, get_or, Some, append-nil, append_assoc, refl, ap, ◌∙◌, arith}
use Rattle.std.specs.Char.{is_ascii_digit}
use Rattle.std.specs.Fmt.{decimal}
use Rattle.std.specs.List.{after_first, position_or_len}
use Rattle.std.specs.Prelude.{codes}
use Rattle.std.specs.Str.{all_ascii_digits, bytes_eq}
use Rattle.std.specs.Str.Parse.{digits_value}
use Rattle.std.proofs.lemmas.Bool.{and_parts}
use Rattle.std.proofs.lemmas.Bool.Decides.{nat_tests}
use Rattle.std.proofs.lemmas.Fmt.{digits_decimal}
use Rattle.std.proofs.lemmas.Str.Parse.{IsNumeralModel, numerals_by_value, tells_all_ascii_digits}
use Rattle.text.specs.Hex.{hex_char, hex_words, hex_words as printed_words}
use Rattle.text.specs.Words.{is_blank, words_of}
use Rattle.ln_frame.specs.Message.{IsWhole}
use Rattle.ln_ops.specs.Message.{op_of}
use Rattle.ln_ops.specs.Reply.{reply_bytes}
use Rattle.ln_ops.specs.declared.op.Op.{Op}
use Rattle.ln_ops.specs.declared.op.Op.TheVariants.{PowerOff}
use Rattle.ln_ops.specs.declared.reply.Reply.{Reply}
use Rattle.ln_ops.specs.declared.reply.Reply.TheVariants as reply
use Rattle.loconet_tcp.specs.Requests.{bytes_of, leading_bytes}
use Rattle.show_text.specs.Lines.{off_text, reply_text, track_text}
use Rattle.show_text.specs.Messages.{message_text, op_text}
use Rattle.describe.specs.Messages.{message_words}
use Rattle.describe.specs.Packets.{packet_words}
use Rattle.explain.specs.LineKinds.{message_in, monitored_in, said_by, turn_in, words_about}

abbrev AreBytes : List ℕ → Type 0
AreBytes bytes = (i : ℕ) → get_or bytes i 0 < 256

-- the laws of LocoNet over TCP

abbrev pub ReadAlone : Type 0
ReadAlone = (bytes : List ℕ) → AreBytes bytes → bytes_of (words_of (hex_words bytes)) ≡ Some bytes

abbrev pub ReadBefore : Type 0
ReadBefore = (bytes text : List ℕ) → AreBytes bytes → leading_bytes (words_of (hex_words bytes ++ 32 ∷ text)) ≡ bytes ++ leading_bytes (words_of text)

-- `station` writes bytes as LocoNet over TCP does
same_words : (bytes : List ℕ) → printed_words bytes ≡ hex_words bytes
same_words [] = refl
same_words (b ∷ bytes) = ap (λ (text : List ℕ). 32 ∷ hex_char (b / 16) ∷ hex_char (b % 16) ∷ text) (same_words bytes)

-- the bytes without the space before them
abbrev tail : ℕ → List ℕ → List ℕ
tail b bs = hex_char (b / 16) ∷ hex_char (b % 16) ∷ printed_words bs

tail-back : ReadAlone → (b : ℕ) (bs : List ℕ) → AreBytes (b ∷ bs) → bytes_of (words_of (tail b bs)) ≡ Some (b ∷ bs)
unfolding words_of
tail-back law b bs h = ap (λ (text : List ℕ). bytes_of (words_of text)) (same_words (b ∷ bs)) ∙ law (b ∷ bs) h

-- ---- `msg`: no operation begins with a pair of digits

no_pair : (op : Op) → leading_bytes (words_of (op_text op)) ≡ []
unfolding leading_bytes words_of
no_pair PowerOff = refl
no_pair _ = refl

leading-back : ReadBefore → (b : ℕ) (bs : List ℕ) (op : Op) → AreBytes (b ∷ bs) → leading_bytes (words_of (tail b bs ++ 32 ∷ op_text op)) ≡ b ∷ bs
unfolding words_of
leading-back law b bs op h =
    ap (λ (text : List ℕ). leading_bytes (words_of (text ++ 32 ∷ op_text op))) (same_words (b ∷ bs))
    ∙ law (b ∷ bs) (op_text op) h
    ∙ ap (λ (more : List ℕ). (b ∷ bs) ++ more) (no_pair op)
    ∙ append-nil (b ∷ bs)

monitored : ReadBefore → (b : ℕ) (bs : List ℕ) (op : Op) → AreBytes (b ∷ bs) → monitored_in (tail b bs ++ 32 ∷ op_text op) ≡ message_words (b ∷ bs)
unfolding monitored_in
monitored law b bs op h = ap (λ (bytes : List ℕ). said_by message_words (Some bytes)) (leading-back law b bs op h)

pub message-words : ReadBefore → (message : List ℕ) → IsWhole message → AreBytes message → words_about (message_text message) ≡ message_words message
message-words law [] w h = cc
message-words law (b ∷ bs) w h =
    ap (λ (text : List ℕ). monitored_in (hex_char (b / 16) ∷ hex_char (b % 16) ∷ text)) (append_assoc (printed_words bs) (codes " ") (op_text (op_of (b ∷ bs))))
    ∙ monitored law b bs (op_of (b ∷ bs)) h

-- ---- `reply` and `track`: behind a number

own : IsNumeralModel (λ ds. all_ascii_digits ds ≡ true) (digits_value 10)
own = numerals_by_value _ tells_all_ascii_digits

digit-not_blank : (b : ℕ) → is_ascii_digit b ≡ true → is_blank b ≡ false
digit-not_blank b h = grind (arith, nat_tests)

drop-cons : (k b : ℕ) (line : List ℕ) → drop (1 + k + 1) (b ∷ line) ≡ drop (k + 1) line
drop-cons k b line = let e : 1 + k + 1 ≡ suc (k + 1) = omega arith in ap (λ (n : ℕ). drop n (b ∷ line)) e

after-cons : (b : ℕ) (line : List ℕ) → is_blank b ≡ false → after_first is_blank (b ∷ line) ≡ after_first is_blank line
after-cons b line other = rw other (drop-cons (position_or_len is_blank line) b line)

behind_digits : (xs ys : List ℕ) → all_ascii_digits xs ≡ true → after_first is_blank (xs ++ 32 ∷ ys) ≡ ys
behind_digits [] ys h = refl
behind_digits (x ∷ xs) ys h =
    let digits = and_parts (is_ascii_digit x) (all_ascii_digits xs) h in
    after-cons x (xs ++ 32 ∷ ys) (digit-not_blank x digits.0) ∙ behind_digits xs ys digits.1

behind : (n : ℕ) (text : List ℕ) → n < 2 ^ 64 → after_first is_blank (decimal n ++ 32 ∷ text) ≡ text
behind n text h = behind_digits (decimal n) text (digits_decimal own n h)

replied : ReadAlone → (line : ℕ) (bytes : List ℕ) → line < 2 ^ 64 → 0 < length bytes → AreBytes bytes → words_about (codes "reply " ++ decimal line ++ printed_words bytes) ≡ message_words bytes
unfolding message_in
replied law line [] l some h = absurd (omega (arith, some))
replied law line (b ∷ bs) l some h = ap message_in (behind line (tail b bs) l) ∙ ap (said_by message_words) (tail-back law b bs h)

some_bytes : (reply : Reply) → 0 < length (reply_bytes reply)
some_bytes (reply.SlotData fields) = omega arith
some_bytes (reply.LongAck opc ack) = omega arith

pub reply-words : ReadAlone → (line : ℕ) (reply : Reply) → line < 2 ^ 64 → AreBytes (reply_bytes reply) → words_about (reply_text line reply) ≡ message_words (reply_bytes reply)
reply-words law line reply l h = replied law line (reply_bytes reply) l (some_bytes reply) h

not_off : (d : ℕ) (text : List ℕ) → d < 16 → bytes_eq (hex_char d ∷ text) (codes "off") ≡ false
not_off d text h =
    let first : nat_eq (hex_char d) 111 ≡ false = grind (arith, nat_tests) in
    ap (λ (same : Bool). same && bytes_eq text (codes "ff")) first

turned : ReadAlone → (b : ℕ) (bs : List ℕ) → AreBytes (b ∷ bs) → turn_in (tail b bs) ≡ packet_words (b ∷ bs)
unfolding turn_in
turned law b bs h =
    let byte : b < 256 = h 0 in
    let high : b / 16 < 16 = omega arith in
    ap (λ (off : Bool). if off then codes "no power, nothing is sent" else said_by packet_words (bytes_of (words_of (tail b bs)))) (not_off (b / 16) (hex_char (b % 16) ∷ printed_words bs) high)
    ∙ ap (said_by packet_words) (tail-back law b bs h)

pub packet-words : ReadAlone → (turn : ℕ) (packet : List ℕ) → turn < 2 ^ 64 → 0 < length packet → AreBytes packet → words_about (track_text turn packet) ≡ packet_words packet
packet-words law turn [] t some h = absurd (omega (arith, some))
packet-words law turn (b ∷ bs) t some h = ap turn_in (behind turn (tail b bs) t) ∙ turned law b bs h

no_power : turn_in (codes "off") ≡ codes "no power, nothing is sent"
unfolding turn_in
no_power = refl

pub off-words : (turn : ℕ) → turn < 2 ^ 64 → words_about (off_text turn) ≡ codes "no power, nothing is sent"
off-words turn t = ap turn_in (behind turn (codes "off") t) ∙ no_power
