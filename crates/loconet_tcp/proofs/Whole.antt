-- Whole messages: what a line requests to send is one, and how long its own line is.
use Rattle.std.proofs.Common.{◌≡◌, ℕ, ◌*◌, ◌≤◌, Bool, true, false, List, [], ◌∷◌, length, Option, Some, None, refl, subst, arith, if◌then◌else◌}
use Rattle.std.specs.Prelude.{Err, nat_lt}
use Rattle.std.specs.List.{after_first}
use Rattle.std.proofs.lemmas.Bool.{and_parts}
use Rattle.std.proofs.lemmas.Bool.Decides.{nat_tests}
use Rattle.std.proofs.lemmas.List.{length-append}
use Rattle.ln_frame.specs.Message.{IsWhole, are_data, has_form, is_len, is_whole, message_len}
use Rattle.text.specs.Hex.{hex_words}
use Rattle.text.specs.Words.{is_blank, words_of}
use Rattle.loconet_tcp.specs.declared.request.PlaceError.TheVariants as place_error
use Rattle.loconet_tcp.specs.declared.request.Reason.TheVariants.{NoMessage, TooLong, WrongCheck}
use Rattle.loconet_tcp.specs.declared.request.Request.{Request}
use Rattle.loconet_tcp.specs.declared.request.Request.TheVariants.{Device, Invalid, Place, Send, Turns}
use Rattle.loconet_tcp.specs.declared.request.DeviceRequest.TheVariants.{Fail, Mount}
use Rattle.loconet_tcp.specs.declared.request.Things.{Things}
use Rattle.loconet_tcp.specs.ClientLines.{line_end, receive_text}
use Rattle.loconet_tcp.specs.Reading.{request_of_byte}
use Rattle.loconet_tcp.specs.Requests.{ask_states, bytes_of, is_fail, is_mount, is_place, is_send, is_turns, parse_fail, parse_mount, parse_place, parse_send, request_of, things_of, turns_of, words_within}
use Rattle.loconet_tcp.specs.Text.{is_end}

-- Its length.

pub length-hex_words : (bytes : List ℕ) → length (hex_words bytes) ≡ 3 * length bytes
length-hex_words [] = refl
length-hex_words (b ∷ bytes) = let more = length-hex_words bytes in omega arith

most : (op s n : ℕ) → is_len (message_len op s) n ≡ true → n ≤ 127
most op s n h = grind (arith, nat_tests)

pub length-whole : (message : List ℕ) → IsWhole message → length message ≤ 127
length-whole [] w = cc
length-whole (op ∷ []) w = cc
length-whole (op ∷ s ∷ m) w =
    let form = and_parts (has_form (op ∷ s ∷ m)) _ w in
    most op s (length (op ∷ s ∷ m)) (and_parts (is_len (message_len op s) (length (op ∷ s ∷ m))) (are_data (s ∷ m)) form.0).0

pub received-short : (message : List ℕ) → IsWhole message → length (receive_text message) ≤ 390
received-short message whole = omega (arith, length-hex_words message, length-whole message whole, length-append (hex_words message) line_end)

-- What is requested.

abbrev SendsWhole : Option Request → Type 0
SendsWhole (Some (Send message)) = IsWhole message
SendsWhole other = Unit {0}

sent-when : (whole form : Bool) (bytes : List ℕ) → is_whole bytes ≡ whole → SendsWhole (Some (if whole then Send bytes else if form then Invalid WrongCheck else Invalid NoMessage))
sent-when true form bytes e = e
sent-when false true bytes e = tt
sent-when false false bytes e = tt

sent-bytes : (bytes : Option (List ℕ)) → SendsWhole (Some (parse_send bytes))
sent-bytes None = tt
sent-bytes (Some bytes) = sent-when (is_whole bytes) (has_form bytes) bytes refl

asked-states : (things : Option Things) → SendsWhole (ask_states things)
asked-states None = tt
asked-states (Some things) = tt

sent-line : (long : Bool) (bytes : Option (List ℕ)) → SendsWhole (Some (if long then Invalid TooLong else parse_send bytes))
sent-line true bytes = tt
sent-line false bytes = sent-bytes bytes

either-line : (is : Bool) (one other : Option Request) → SendsWhole one → SendsWhole other → SendsWhole (if is then one else other)
either-line true one other h k = h
either-line false one other h k = k

line-whole : (line : List ℕ) → SendsWhole (request_of line)
line-whole line =
    let rest : List ℕ = after_first is_blank line in
    let long : Bool = nat_lt 400 (length line) in
    let sent : Option Request = Some (if long then Invalid TooLong else parse_send (bytes_of (words_of rest))) in
    let turns : Option Request = Some (Turns (turns_of rest)) in
    let placed : Option Request = Some (Place (if long then Err place_error.TooLong else parse_place (words_of rest))) in
    let states : Option Request = ask_states (things_of line) in
    let mounts : Option Request = Some (Device (Mount (parse_mount (words_within line)))) in
    let fails : Option Request = Some (Device (Fail (parse_fail (words_within line)))) in
    let no_mount : Option Request = if is_fail line then fails else states in
    let no_place : Option Request = if is_mount line then mounts else no_mount in
    let no_turns : Option Request = if is_place line then placed else no_place in
    let no_send : Option Request = if is_turns line then turns else no_turns in
    either-line (is_send line) sent no_send (sent-line long (bytes_of (words_of rest)))
    (either-line (is_turns line) turns no_turns tt
    (either-line (is_place line) placed no_place tt
    (either-line (is_mount line) mounts no_mount tt (either-line (is_fail line) fails states tt (asked-states (things_of line))))))

byte-whole : (ends : Bool) (request : Option Request) → SendsWhole request → SendsWhole (if ends then request else None)
byte-whole true request h = h
byte-whole false request h = tt

pub request-whole : (kept : List ℕ) (byte : ℕ) (message : List ℕ) → request_of_byte kept byte ≡ Some (Send message) → IsWhole message
request-whole kept byte message e = subst SendsWhole e (byte-whole (is_end byte) (request_of kept) (line-whole kept))
