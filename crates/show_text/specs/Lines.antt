-- The texts of lines of traffic.
use Rattle.std.specs.Prelude.{ℕ, ◌+◌, List, ◌++◌, codes, map}
use Rattle.std.specs.Fmt.{decimal}
use Rattle.std.specs.Int.{bit_at}
use Rattle.std.specs.List.{range_with_len}
use Rattle.text.specs.Hex.{hex_words}
use Rattle.ln_ops.specs.declared.reply.Reply.{Reply}
use Rattle.ln_ops.specs.Reply.{reply_bytes}

-- the lowest `count` bits of a number, each as a digit, bit 0 first
unfoldable pub bits_text : ℕ → ℕ → List ℕ
bits_text count n = map (λ k. 48 + bit_at n k) (range_with_len 0 count)

-- `reply L` and the bytes of the reply
abbrev pub reply_text : ℕ → Reply → List ℕ
reply_text line reply = codes "reply " ++ decimal line ++ hex_words (reply_bytes reply)

-- `track T` and the bytes of the packet of turn T
abbrev pub track_text : ℕ → List ℕ → List ℕ
track_text turn packet = codes "track " ++ decimal turn ++ hex_words packet

-- a turn while the power is off
abbrev pub off_text : ℕ → List ℕ
off_text turn = codes "track " ++ decimal turn ++ codes " off"
