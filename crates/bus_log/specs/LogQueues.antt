-- Lines that are queued to be printed, as far as they fit.
use Rattle.std.specs.Prelude.{ℕ, ◌≡◌, ◌<◌, ◌⊎◌, ◌+◌, ◌==◌, ◌&&◌, Bool, if◌then◌else◌, nat_le, nat_lt, List, [], ◌∷◌, ◌++◌, All, length, Option}
use Rattle.std.specs.Io.KnownBytes.{Appends}
use Rattle.bus_log.specs.Lines.{saturating_successor}

-- the bytes of whole lines that are queued, the bytes held of the unfinished line, the text with which
-- each line begins, and the number of lines left out since
pub record LogState : Type 0 where
  pub queued : List ℕ
  pub line : List ℕ
  pub stamp : List ℕ
  pub left_out : ℕ

-- each line that follows begins with this text
abbrev pub begun_with : List ℕ → LogState → LogState
begun_with stamp log = record log { line = stamp; stamp = stamp }

-- the bytes held of a line after its next byte: its first 1,025
abbrev pub held_after : List ℕ → ℕ → List ℕ
held_after line byte = if nat_lt (length line) 1025 then line ++ byte ∷ [] else line

-- A line is queued whole if it has at most 1,024 bytes and fits; not while lines before it are left
-- out.
abbrev pub has_room : LogState → Bool
has_room log = log.left_out == 0 && nat_le (length log.line) 1024 && nat_le (length log.queued + length log.line) 65536

-- a line ends: it is queued, or left out and counted
abbrev pub ended : LogState → LogState
ended log =
    if has_room log then record log { queued = log.queued ++ log.line; line = log.stamp }
    else record log { line = log.stamp; left_out = saturating_successor log.left_out }

-- a byte is printed
abbrev pub after_byte : LogState → ℕ → LogState
after_byte log byte =
    if byte == 10 then ended (record log { line = held_after log.line byte }) else record log { line = held_after log.line byte }

-- a text is
unfoldable pub after_text : LogState → List ℕ → LogState
after_text log [] = log
after_text log (byte ∷ text) = after_text (after_byte log byte) text

-- these lines are printed, each with its line feed
abbrev pub after_lines : LogState → List (List ℕ) → LogState
after_lines log [] = log
after_lines log (line ∷ lines) = after_lines (after_text log (line ++ 10 ∷ [])) lines

-- lines that were left out are reported once half of the capacity is free
abbrev pub is_reported : LogState → Bool
is_reported log = nat_lt 0 log.left_out && nat_le (length log.queued) 32768

-- Whether lines that were left out were reported, and by which text.
abbrev pub Reports : (old new : LogState) → (text : List ℕ) → Type 0
Reports old new text = ((text ≡ []) × (new.left_out ≡ old.left_out)) ⊎ ((0 < old.left_out) × (new.left_out ≡ 0))

-- What was written is what was removed from the front of the queue, in order; behind it at most a
-- report of lines left out was queued. The unfinished line stays.
abbrev pub WritesQueued : (old new : LogState) → (before after : Option (List ℕ)) → Type 0
WritesQueued old new before after =
    (written text : List ℕ) × Appends before after written × (old.queued ++ text ≡ written ++ new.queued) × Reports old new text × (new.line ≡ old.line) × (new.stamp ≡ old.stamp)

-- Each write took bytes, until one took none, or no bytes are queued, or 64 writes were made. What
-- each took is known if the output keeps the counts.
abbrev pub WritesUntilBlocked : (new : LogState) → (before after : Option (List ℕ)) → Type 0
WritesUntilBlocked new before after =
    (counts : List ℕ) × All (λ count. 0 < count) counts × (Appends before after (counts ++ 0 ∷ []) ⊎ (Appends before after counts × ((new.queued ≡ []) ⊎ (length counts ≡ 64))))
