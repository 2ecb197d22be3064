-- A whole message put byte by byte on an idle line is carried out whole.
use Rattle.std.proofs.Common.{◌≡◌, ℕ, ◌<◌, List, [], ◌∷◌, ◌++◌, length, Option, Some, None, refl, ap, ap₂, sym, subst, ◌∙◌, arith, append_assoc, replicate}
use Rattle.std.specs.Prelude.{slice_set}
use Rattle.std.specs.List.{slice_index_or}
use Rattle.std.proofs.lemmas.List.{get_or-set_same, set-set, set-get_or, get_or-replicate}
use Rattle.ln_frame.specs.Message.{IsWhole}
use Rattle.ln_frame.specs.Stream.{message_at_end}
use Rattle.ln_frame.specs.Unfinished.{unfinished_of}
use Rattle.station_core.specs.Seen.{Seen, line_of}
use Rattle.station_core.specs.Station.{after_message, message_ended}
use Rattle.layout_core.specs.declared.event.Event.TheVariants.{Byte}
use Rattle.layout_core.specs.declared.node.Node.{Node}
use Rattle.layout_core.specs.Heard.{HearsAll, sounds_in}
use Rattle.layout_core.specs.Played.{after_event, after_events}
use Rattle.layout_core.specs.World.{HaveHeard}
use Rattle.bus.specs.Below.{StationMoves}
use Rattle.bus.specs.Layout.{bytes_on}

-- the station with these bytes unfinished on a line
abbrev pub with_line : Seen → ℕ → List ℕ → Seen
with_line seen line bytes = record seen { lines = slice_set seen.lines line bytes }

-- a byte after these of its line

held : (seen : Seen) (line : ℕ) (front : List ℕ) → line < length seen.lines → line_of (with_line seen line front) line ≡ front
held seen line front within = get_or-set_same seen.lines line front [] within

ended : (seen : Seen) (line byte : ℕ) (front : List ℕ) (message : Option (List ℕ)) → line < length seen.lines
    → message_at_end (front ++ byte ∷ []) ≡ message → message_ended (with_line seen line front) line byte ≡ message
ended seen line byte front message within m = ap (λ (bytes : List ℕ). message_at_end (bytes ++ byte ∷ [])) (held seen line front within) ∙ m

left_over : (seen : Seen) (line byte : ℕ) (front remaining : List ℕ) → line < length seen.lines
    → unfinished_of (front ++ byte ∷ []) ≡ remaining → unfinished_of (line_of (with_line seen line front) line ++ byte ∷ []) ≡ remaining
left_over seen line byte front remaining within l = ap (λ (bytes : List ℕ). unfinished_of (bytes ++ byte ∷ [])) (held seen line front within) ∙ l

-- whatever was unfinished on its line
lined : (seen : Seen) (line : ℕ) (front remaining : List ℕ) (message : Option (List ℕ))
    → record (after_message (with_line seen line front) message) { lines = slice_set (slice_set seen.lines line front) line remaining }
    ≡ with_line (after_message seen message) line remaining
lined seen line front remaining None = ap (λ (lines : List (List ℕ)). record seen { lines = lines }) (set-set seen.lines line front remaining)
lined seen line front remaining (Some message) =
    ap (λ (lines : List (List ℕ)). record (after_message seen (Some message)) { lines = lines }) (set-set seen.lines line front remaining)

after_one : StationMoves → (seen : Seen) (line byte : ℕ) (front : List ℕ) (message : Option (List ℕ)) (remaining : List ℕ) → line < length seen.lines
    → message_at_end (front ++ byte ∷ []) ≡ message → unfinished_of (front ++ byte ∷ []) ≡ remaining
    → after_event (with_line seen line front) (Byte line byte) ≡ with_line (after_message seen message) line remaining
after_one laws seen line byte front message remaining within m l =
    let before : Seen = with_line seen line front in
    laws.byte before line byte
    ∙ ap₂ (λ (end : Option (List ℕ)) (rest : List ℕ). record (after_message before end) { lines = slice_set before.lines line rest })
    (ended seen line byte front message within m) (left_over seen line byte front remaining within l)
    ∙ lined seen line front remaining message

-- the rest of a whole message, after a prefix of it

joined : (front more : List ℕ) (byte next : ℕ) → (front ++ byte ∷ []) ++ next ∷ more ≡ front ++ byte ∷ next ∷ more
joined front more byte next = append_assoc front (byte ∷ []) (next ∷ more)

further : StationMoves → (front more : List ℕ) (byte next : ℕ) → IsWhole (front ++ byte ∷ next ∷ more) → unfinished_of (front ++ byte ∷ []) ≡ front ++ byte ∷ []
further laws front more byte next whole = laws.fronts (front ++ byte ∷ []) more next (subst IsWhole (sym (joined front more byte next)) whole)

fed : StationMoves → (rest front : List ℕ) (byte line : ℕ) (seen : Seen) → line < length seen.lines → IsWhole (front ++ byte ∷ rest)
    → after_events (with_line seen line front) (bytes_on line (byte ∷ rest)) ≡ with_line (after_message seen (Some (front ++ byte ∷ rest))) line []
fed laws [] front byte line seen within whole =
    after_one laws seen line byte front (Some (front ++ byte ∷ [])) [] within (laws.ends (front ++ byte ∷ []) whole) (laws.leaves (front ++ byte ∷ []) whole)
fed laws (next ∷ more) front byte line seen within whole =
    let e = joined front more byte next in
    ap (λ (s : Seen). after_events s (bytes_on line (next ∷ more)))
    (after_one laws seen line byte front None (front ++ byte ∷ []) within (laws.none front more byte next whole) (further laws front more byte next whole))
    ∙ fed laws more (front ++ byte ∷ []) next line seen within (subst IsWhole (sym e) whole)
    ∙ ap (λ (message : List ℕ). with_line (after_message seen (Some message)) line []) e

-- a station without anything unfinished on its eight lines

abbrev pub IsIdle : Seen → Type 0
IsIdle seen = seen.lines ≡ replicate 8 []

within_eight : (seen : Seen) (line : ℕ) → IsIdle seen → line < 8 → line < length seen.lines
within_eight seen line idle below = omega (arith, below, ap length idle)

still : (seen : Seen) (line : ℕ) → IsIdle seen → line < 8 → slice_set seen.lines line [] ≡ seen.lines
still seen line idle below =
    let none : slice_index_or seen.lines line [] ≡ [] = ap (λ (lines : List (List ℕ)). slice_index_or lines line []) idle ∙ get_or-replicate 8 line [] [] below in
    ap (slice_set seen.lines line) (sym none) ∙ set-get_or seen.lines line []

idle_again : (seen : Seen) (line : ℕ) (message : List ℕ) → IsIdle seen → line < 8 → with_line (after_message seen (Some message)) line [] ≡ after_message seen (Some message)
idle_again seen line message idle below = ap (λ (lines : List (List ℕ)). record (after_message seen (Some message)) { lines = lines }) (still seen line idle below)

from_idle : (seen : Seen) (line : ℕ) → IsIdle seen → line < 8 → with_line seen line [] ≡ seen
from_idle seen line idle below = ap (λ (lines : List (List ℕ)). record seen { lines = lines }) (still seen line idle below)

pub whole_after : StationMoves → (seen : Seen) (line : ℕ) (message : List ℕ) → IsIdle seen → line < 8 → IsWhole message
    → after_events seen (bytes_on line message) ≡ after_message seen (Some message)
whole_after laws seen line [] idle below whole = cc
whole_after laws seen line (byte ∷ rest) idle below whole =
    ap (λ (s : Seen). after_events s (bytes_on line (byte ∷ rest))) (sym (from_idle seen line idle below))
    ∙ fed laws rest [] byte line seen (within_eight seen line idle below) whole
    ∙ idle_again seen line (byte ∷ rest) idle below

-- bytes change no decoder

silent : (i line : ℕ) (bytes : List ℕ) (seen : Seen) → sounds_in i seen (bytes_on line bytes) ≡ []
silent i line [] seen = refl
silent i line (byte ∷ bytes) seen = silent i line bytes (after_event seen (Byte line byte))

heard_at : (i line : ℕ) (bytes : List ℕ) (seen : Seen) (node : Node) → HearsAll (sounds_in i seen (bytes_on line bytes)) node node
heard_at i line bytes seen node = subst (λ sounds. HearsAll sounds node node) (sym (silent i line bytes seen)) refl

pub heard_bytes : (line : ℕ) (bytes : List ℕ) (seen : Seen) (old new : List Node) → new ≡ old → HaveHeard seen (bytes_on line bytes) old new
heard_bytes line bytes seen old new same =
    subst (λ (nodes : List Node). HaveHeard seen (bytes_on line bytes) old nodes) (sym same)
    (record { count = refl; each = λ i none below. heard_at i line bytes seen (slice_index_or old i none) })
