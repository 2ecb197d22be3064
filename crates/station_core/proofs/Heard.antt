-- What a byte that a line's framer took makes of the station.
use Rattle.std.proofs.Common.{◌≡◌, ℕ, ◌<◌, List, [], ◌∷◌, ◌++◌, length, set, slice_index_or, slice_set, Option, Some, None, option_to_list, ap, sym, ◌∙◌}
use Rattle.std.proofs.lemmas.List.{get_or_default, length-set, get_or-set_same}
use Rattle.std.specs.List.{refill}
use Rattle.ln_frame.specs.Stream.{message_at_end, messages_of}
use Rattle.ln_frame.specs.Unfinished.{unfinished_of}
use Rattle.ln_ops.specs.Message.{op_of}
use Rattle.ln_ops.specs.declared.op.Op.{Op}
use Rattle.ln_ops.specs.declared.reply.Reply.{Reply}
use Rattle.refresh_ring.specs.Jobs.{requests_in}
use Rattle.refresh_ring.specs.Scheduled.{Scheduled}
use Rattle.station_core.specs.Answer.{answer}
use Rattle.station_core.specs.Station.{after_byte, after_message, after_op, answer_to_byte, answer_to_message, message_ended}
use Rattle.station_core.specs.Powered.{PoweredDesk}
use Rattle.station_core.specs.Seen.{Seen, line_of, seen_with}
use Rattle.station_core.proofs.Framed.{lent_and_set}

-- the lines after it, the message that it ends, and the bytes that it leaves on its line
pub record Heard (seen : Seen) (line byte : ℕ) (lines : List (List ℕ)) (ended : Option (List ℕ)) : Type 0 where
  pub message : message_ended seen line byte ≡ ended
  pub lines_are : lines ≡ slice_set seen.lines line (unfinished_of (line_of seen line ++ byte ∷ []))
  pub further : (z : List ℕ) → messages_of (line_of seen line ++ byte ∷ z) ≡ option_to_list ended ++ messages_of (unfinished_of (line_of seen line ++ byte ∷ []) ++ z)

-- of what the framer says of itself, where the array of framers was lent
pub heard_by : (all now : List (List ℕ)) (powered : PoweredDesk) (s : Scheduled) (line byte : ℕ) (none left : List ℕ) (result ended : Option (List ℕ)) → now ≡ all → line < length all
    → result ≡ message_at_end (slice_index_or now line none ++ byte ∷ []) → left ≡ unfinished_of (slice_index_or now line none ++ byte ∷ [])
    → ((z : List ℕ) → messages_of (slice_index_or now line none ++ byte ∷ z) ≡ option_to_list result ++ messages_of (left ++ z))
    → result ≡ ended → Heard (seen_with all powered s) line byte (refill (length all) all (set now line left)) ended
heard_by all now powered s line byte none left result ended same below given unfinished further is =
    let at : slice_index_or now line none ≡ slice_index_or all line [] =
    ap (λ (xs : List (List ℕ)). slice_index_or xs line none) same ∙ get_or_default all line none [] below in
    let leaves : left ≡ unfinished_of (slice_index_or all line [] ++ byte ∷ []) =
    unfinished ∙ ap (λ (bytes : List ℕ). unfinished_of (bytes ++ byte ∷ [])) at in
    record {
      message = sym (ap (λ (bytes : List ℕ). message_at_end (bytes ++ byte ∷ [])) at) ∙ sym given ∙ is;
      lines_are = lent_and_set all now line left same ∙ ap (set all line) leaves;
      further = λ z. sym (ap (λ (bytes : List ℕ). messages_of (bytes ++ byte ∷ z)) at)
          ∙ further z
          ∙ ap (λ (e : Option (List ℕ)). option_to_list e ++ messages_of (left ++ z)) is
          ∙ ap (λ (bytes : List ℕ). option_to_list ended ++ messages_of (bytes ++ z)) leaves;
    }

module _ (all : List (List ℕ)) (powered : PoweredDesk) (s : Scheduled) (line byte : ℕ) (lines : List (List ℕ)) where
  pub quiet_reply : Heard (seen_with all powered s) line byte lines None → None ≡ answer_to_byte (seen_with all powered s) line byte
  quiet_reply heard = sym (ap (answer_to_message (seen_with all powered s)) heard.message)

  pub quiet_state : Heard (seen_with all powered s) line byte lines None → seen_with lines powered s ≡ after_byte (seen_with all powered s) line byte
  quiet_state heard =
      let left : List ℕ = unfinished_of (line_of (seen_with all powered s) line ++ byte ∷ []) in
      ap (λ (ls : List (List ℕ)). seen_with ls powered s) heard.lines_are
      ∙ sym (ap (λ (ended : Option (List ℕ)). record (after_message (seen_with all powered s) ended) { lines = slice_set all line left }) heard.message)

  module _ (message : List ℕ) (op : Op) where
    pub told_reply : (reply : Option Reply) → Heard (seen_with all powered s) line byte lines (Some message) → op ≡ op_of message
        → reply ≡ answer powered op (requests_in s.jobs) → reply ≡ answer_to_byte (seen_with all powered s) line byte
    told_reply reply heard is reported =
        reported
        ∙ ap (λ (o : Op). answer powered o (requests_in s.jobs)) is
        ∙ sym (ap (answer_to_message (seen_with all powered s)) heard.message)

    pub told_state : (state : Seen) → Heard (seen_with all powered s) line byte lines (Some message) → op ≡ op_of message
        → state ≡ after_op (seen_with lines powered s) op → state ≡ after_byte (seen_with all powered s) line byte
    told_state state heard is reported =
        let left : List ℕ = unfinished_of (line_of (seen_with all powered s) line ++ byte ∷ []) in
        reported
        ∙ ap (after_op (seen_with lines powered s)) is
        ∙ ap (λ (ls : List (List ℕ)). record (after_op (seen_with all powered s) (op_of message)) { lines = ls }) heard.lines_are
        ∙ sym (ap (λ (ended : Option (List ℕ)). record (after_message (seen_with all powered s) ended) { lines = slice_set all line left }) heard.message)

-- the count of lines, and the rest of the line, of the station that a byte leaves
module _ (seen state : Seen) (line byte : ℕ) (left : state ≡ after_byte seen line byte) where
  pub kept_count : length state.lines ≡ length seen.lines
  kept_count =
      ap (λ (it : Seen). length it.lines) left ∙ length-set seen.lines line (unfinished_of (line_of seen line ++ byte ∷ []))

  pub kept_messages : (lines : List (List ℕ)) (ended : Option (List ℕ)) → Heard seen line byte lines ended → line < length seen.lines
      → (z : List ℕ) → messages_of (line_of seen line ++ byte ∷ z) ≡ option_to_list (message_ended seen line byte) ++ messages_of (line_of state line ++ z)
  kept_messages lines ended heard below z =
      let rest : List ℕ = unfinished_of (line_of seen line ++ byte ∷ []) in
      let there : line_of state line ≡ rest =
      ap (λ (it : Seen). line_of it line) left ∙ get_or-set_same seen.lines line rest [] below in
      heard.further z
      ∙ ap (λ (e : Option (List ℕ)). option_to_list e ++ messages_of (rest ++ z)) (sym heard.message)
      ∙ ap (λ (bytes : List ℕ). option_to_list (message_ended seen line byte) ++ messages_of (bytes ++ z)) (sym there)
