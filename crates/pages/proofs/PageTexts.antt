-- The text of the bus with the words of its messages: in pieces, and behind one message.
use Rattle.std.proofs.Common.{◌≡◌, ℕ, ◌+◌, ◌/◌, ◌%◌, ◌<◌, ◌≤◌, ◌==◌, ◌&&◌, Bool, true, false, List, [], ◌∷◌, ◌++◌, suc, length, take, append_assoc, length-append, slice_index, not, refl, ap, sym, ◌∙◌, arith, Option, Some}
use Rattle.std.specs.Prelude.{if◌then◌else◌, codes}
use Rattle.std.specs.List.{list_all}
use Rattle.std.proofs.lemmas.Bool.{and_parts, lt-ltb, not-true}
use Rattle.std.proofs.lemmas.Bool.Decides.{nat_tests}
use Rattle.std.proofs.lemmas.List.{append-nil, take_more}
use Rattle.text.specs.Hex.{hex_char, hex_words}
use Rattle.text.specs.Words.{words_of}
use Rattle.ln_frame.specs.Message.{IsWhole}
use Rattle.loconet_tcp.specs.ClientLines.{line_end, receive_text}
use Rattle.loconet_tcp.specs.Requests.{bytes_of}
use Rattle.pages.specs.PageText.{line_after, line_along, page_text, received, with_words, words_line}

-- ---- pieces

pub along-pieces : (line front back : List ℕ) → line_along line (front ++ back) ≡ line_along (line_along line front) back
along-pieces line [] back = refl
along-pieces line (b ∷ front) back = along-pieces (line_after line b) front back

pub text-pieces : (line front back : List ℕ) → page_text line (front ++ back) ≡ page_text line front ++ page_text (line_along line front) back
text-pieces line [] back = refl
text-pieces line (b ∷ front) back =
    ap (λ (t : List ℕ). with_words line b ++ t) (text-pieces (line_after line b) front back)
    ∙ sym (append_assoc (with_words line b) (page_text (line_after line b) front) (page_text (line_along (line_after line b) front) back))

-- one more byte

pub along-more : (line bytes : List ℕ) (i : ℕ) → i < length bytes
    → line_along line (take (i + 1) bytes) ≡ line_after (line_along line (take i bytes)) (slice_index bytes i)
along-more line bytes i inside =
    ap (line_along line) (take_more bytes i 0 inside) ∙ along-pieces line (take i bytes) (slice_index bytes i ∷ [])

pub text-more : (line bytes : List ℕ) (i : ℕ) → i < length bytes
    → page_text line (take (i + 1) bytes) ≡ page_text line (take i bytes) ++ with_words (line_along line (take i bytes)) (slice_index bytes i)
text-more line bytes i inside =
    ap (page_text line) (take_more bytes i 0 inside) ∙ text-pieces line (take i bytes) (slice_index bytes i ∷ [])
    ∙ ap (λ (t : List ℕ). page_text line (take i bytes) ++ t) (append-nil (with_words (line_along line (take i bytes)) (slice_index bytes i)))

-- ---- a message

-- bytes that end no line and are no carriage return
abbrev is_plain_byte : ℕ → Bool
is_plain_byte b = not (b == 10) && not (b == 13)

abbrev is_plain : List ℕ → Bool
is_plain = list_all is_plain_byte

after-plain : (line : List ℕ) (b : ℕ) → (b == 10) ≡ false → (b == 13) ≡ false → length line < 400 → line_after line b ≡ line ++ b ∷ []
after-plain line b feed return room = rw feed (rw return (rw (lt-ltb (length line) 400 room) refl))

along-plain : (line text : List ℕ) → is_plain text ≡ true → length line + length text ≤ 400 → line_along line text ≡ line ++ text
along-plain line [] plain room = sym (append-nil line)
along-plain line (b ∷ text) plain room =
    let parts = and_parts (is_plain_byte b) (is_plain text) plain in
    let byte = and_parts (not (b == 10)) (not (b == 13)) parts.0 in
    ap (λ (l : List ℕ). line_along l text) (after-plain line b (not-true (b == 10) byte.0) (not-true (b == 13) byte.1) (omega arith))
    ∙ along-plain (line ++ b ∷ []) text parts.1 (omega (arith, length-append line (b ∷ [])))
    ∙ append_assoc line (b ∷ []) text

text-plain : (line text : List ℕ) → is_plain text ≡ true → page_text line text ≡ text
text-plain line [] plain = refl
text-plain line (b ∷ text) plain =
    let parts = and_parts (is_plain_byte b) (is_plain text) plain in
    let byte = and_parts (not (b == 10)) (not (b == 13)) parts.0 in
    ap (λ (ends : Bool). (b ∷ (if ends then words_line (received line) else [])) ++ page_text (line_after line b) text) (not-true (b == 10) byte.0)
    ∙ ap (λ (t : List ℕ). b ∷ t) (text-plain (line_after line b) text parts.1)

digit-plain : (d : ℕ) → d < 16 → is_plain_byte (hex_char d) ≡ true
digit-plain d h = grind (arith, nat_tests)

hex-plain : (bytes : List ℕ) → ((i : ℕ) → slice_index bytes i < 256) → is_plain (hex_words bytes) ≡ true
hex-plain [] h = refl
hex-plain (b ∷ bytes) h =
    let first : b < 256 = h 0 in
    let high : b / 16 < 16 = omega arith in
    let low : b % 16 < 16 = omega arith in
    rw (digit-plain (b / 16) high) (rw (digit-plain (b % 16) low) (hex-plain bytes (λ i. h (suc i))))

-- its line without the line end
abbrev line_of : List ℕ → List ℕ
line_of message = codes "RECEIVE" ++ hex_words message

-- that the line of a whole message is short
abbrev pub AreShort : Type 0
AreShort = (message : List ℕ) → IsWhole message → length (receive_text message) ≤ 390

-- that bytes as `RECEIVE` writes them are read back
abbrev pub AreReadBack : Type 0
AreReadBack = (bytes : List ℕ) → ((i : ℕ) → slice_index bytes i < 256) → bytes_of (words_of (hex_words bytes)) ≡ Some bytes

received-back : AreReadBack → (message : List ℕ) → IsWhole message → ((i : ℕ) → slice_index message i < 256) → received (line_of message) ≡ Some message
unfolding words_of
received-back read [] w h = cc
received-back read (b ∷ bytes) w h = read (b ∷ bytes) h

pub words-behind : AreReadBack → AreShort → (message : List ℕ) → IsWhole message → ((i : ℕ) → slice_index message i < 256)
    → page_text [] (receive_text message) ≡ receive_text message ++ words_line (Some message)
words-behind read short message w h =
    let line = line_of message in
    let words = words_line (Some message) in
    let plain : is_plain line ≡ true = hex-plain message h in
    let size : length {A = ℕ} [] + length line ≤ 400 = omega (arith, short message w, length-append (hex_words message) line_end) in
    let along : line_along [] line ≡ line = along-plain [] line plain size in
    let behind : page_text line line_end ≡ line_end ++ words =
    ap (λ (found : Option (List ℕ)). 13 ∷ 10 ∷ (words_line found ++ [])) (received-back read message w h)
    ∙ ap (λ (t : List ℕ). 13 ∷ 10 ∷ t) (append-nil words) in
    let parts : line ++ line_end ≡ receive_text message = append_assoc (codes "RECEIVE") (hex_words message) line_end in
    ap (page_text []) (sym parts) ∙ text-pieces [] line line_end
    ∙ ap (λ (t : List ℕ). t ++ page_text (line_along [] line) line_end) (text-plain [] line plain)
    ∙ ap (λ (l : List ℕ). line ++ page_text l line_end) along
    ∙ ap (λ (t : List ℕ). line ++ t) behind
    ∙ sym (append_assoc line line_end words) ∙ ap (λ (t : List ℕ). t ++ words) parts

pub line-ends : (message : List ℕ) → line_along [] (receive_text message) ≡ []
line-ends message = along-pieces [] (line_of message) line_end
