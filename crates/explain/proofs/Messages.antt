-- The lines of LocoNet over TCP are read back.
use Rattle.std.proofs.Common.{◌≡◌, ℕ, ◌/◌, ◌%◌, Bool, true, false, List, [], ◌∷◌, ◌++◌, length, Option, Some, None, nat_lt, if◌then◌else◌, ap}
use Rattle.std.specs.Prelude.{codes}
use Rattle.ln_frame.specs.Message.{has_form, is_whole}
use Rattle.text.specs.Hex.{hex_char, hex_words}
use Rattle.loconet_tcp.specs.declared.request.Request.TheVariants.{Send, Invalid}
use Rattle.loconet_tcp.specs.declared.request.Reason.TheVariants.{TooLong, NoMessage, WrongCheck}
use Rattle.text.specs.Words.{words_of}
use Rattle.loconet_tcp.specs.Requests.{are_pairs, parse_send, request_of, bytes_of, leading_bytes}
use Rattle.describe.specs.Messages.{message_words}
use Rattle.explain.specs.LineKinds.{message_in, said_by, words_about}

whole_sent : (whole form : Bool) (bytes message : List ℕ) → (if whole then Send bytes else if form then Invalid WrongCheck else Invalid NoMessage) ≡ Send message → bytes ≡ message
whole_sent true form bytes message e = cc
whole_sent false true bytes message e = cc
whole_sent false false bytes message e = cc

-- a message requested to be sent was written
sent : (long : Bool) (written : Option (List ℕ)) (message : List ℕ) → Some (if long then Invalid TooLong else parse_send written) ≡ Some (Send message) → written ≡ Some message
sent true written message e = cc
sent false None message e = cc
sent false (Some bytes) message e =
    let same : parse_send (Some bytes) ≡ Send message = cc in
    ap Some (whole_sent (is_whole bytes) (has_form bytes) bytes message same)

-- after the first word
abbrev tail : ℕ → List ℕ → List ℕ
tail b bs = hex_char (b / 16) ∷ hex_char (b % 16) ∷ hex_words bs

read : (b : ℕ) (bs : List ℕ) → request_of (codes "SEND" ++ hex_words (b ∷ bs)) ≡ Some (Send (b ∷ bs)) → message_in (tail b bs) ≡ message_words (b ∷ bs)
unfolding message_in
read b bs e = ap (said_by message_words) (sent (nat_lt 400 (length (codes "SEND" ++ hex_words (b ∷ bs)))) (bytes_of (words_of (tail b bs))) (b ∷ bs) e)

pub received-words : (message : List ℕ) → request_of (codes "SEND" ++ hex_words message) ≡ Some (Send message) → words_about (codes "RECEIVE" ++ hex_words message) ≡ message_words message
unfolding message_in bytes_of are_pairs leading_bytes words_of
received-words [] e = cc
received-words (b ∷ bs) e = read b bs e

pub sent-words : (message : List ℕ) → request_of (codes "SEND" ++ hex_words message) ≡ Some (Send message) → words_about (codes "SEND" ++ hex_words message) ≡ message_words message
unfolding message_in bytes_of are_pairs leading_bytes words_of
sent-words [] e = cc
sent-words (b ∷ bs) e = read b bs e
