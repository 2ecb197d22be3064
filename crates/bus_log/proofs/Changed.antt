-- The decoders that changed, one after another.
use Rattle.std.proofs.Common.{◌≡◌, ◌<◌, ◌≤◌, ◌+◌, ◌∙◌, ℕ, zero, suc, Bool, true, false, if◌then◌else◌, List, [], ◌∷◌, ◌++◌, length, map, take, drop, drop_of_length-le, get_or, ap, ap₂, sym, arith}
use Rattle.std.proofs.lemmas.List.{get_or-map, length-map, take_more}
use Rattle.std.specs.List.{slice_index_or}
use Rattle.layout_core.specs.declared.node.Node.{Node}
use Rattle.layout_core.specs.declared.decoder_state.DecoderState.{DecoderState}
use Rattle.layout_core.specs.DecoderStates.{decoder_line, same_decoder_state, decoder_state_of}
use Rattle.roster.specs.Entry.{Entry}
use Rattle.bus_log.specs.LogQueues.{LogState, after_lines}
use Rattle.bus_log.specs.Lines.{changed_lines}
use Rattle.bus_log.proofs.Logging.{lines-append}

-- one state more
pub stands_more : (nodes : List Node) (i : ℕ) (decoder_states : List DecoderState) (decoder_state : DecoderState) → i < length nodes → decoder_states ≡ take i (map decoder_state_of nodes)
    → ((none : Node) → decoder_state ≡ decoder_state_of (slice_index_or nodes i none)) → decoder_states ++ decoder_state ∷ [] ≡ take (i + 1) (map decoder_state_of nodes)
stands_more [] i decoder_states decoder_state below so_far is = absurd (omega (arith, below))
stands_more (node ∷ nodes) i decoder_states decoder_state below so_far is =
    let inside : i < length (map decoder_state_of (node ∷ nodes)) = omega (arith, below, length-map (node ∷ nodes) decoder_state_of) in
    ap₂ (λ (ss : List DecoderState) (s : DecoderState). ss ++ s ∷ []) so_far (is node ∙ sym (get_or-map decoder_state_of (node ∷ nodes) i node decoder_state below))
    ∙ sym (take_more (map decoder_state_of (node ∷ nodes)) i decoder_state inside)

-- one more of the front of a list
pub taken_more : {A : Type 0} (all : List A) (i : ℕ) (so_far : List A) (one : A) → i < length all → so_far ≡ take i all → one ≡ get_or all i one → so_far ++ one ∷ [] ≡ take (i + 1) all
taken_more {A = A} all i so_far one below is one_is = ap₂ (λ (front : List A) (a : A). front ++ a ∷ []) is one_is ∙ sym (take_more all i one below)

-- the line of one decoder, if its state has changed
abbrev pub line_if : Entry → (last now : DecoderState) → List (List ℕ)
line_if entry last now = if same_decoder_state last now then [] else decoder_line entry.name entry.spec now ∷ []

-- the first of the rest is printed, and then what follows it
pub changed_first : (log : LogState) (entries : List Entry) (before decoder_states : List DecoderState) (i : ℕ) (entry : Entry) (last now : DecoderState) → i < length entries → length before ≡ length entries → length decoder_states ≡ length entries
    → after_lines log (changed_lines (drop i entries) (drop i before) (drop i decoder_states))
    ≡ after_lines (after_lines log (line_if (get_or entries i entry) (get_or before i last) (get_or decoder_states i now))) (changed_lines (drop (suc i) entries) (drop (suc i) before) (drop (suc i) decoder_states))
changed_first log [] before decoder_states i entry last now below many all = absurd (omega (arith, below))
changed_first log (e ∷ entries) [] decoder_states i entry last now below many all = absurd (omega (arith, many))
changed_first log (e ∷ entries) (b ∷ before) [] i entry last now below many all = absurd (omega (arith, all))
changed_first log (e ∷ entries) (b ∷ before) (s ∷ decoder_states) zero entry last now below many all = lines-append log (line_if e b s) (changed_lines entries before decoder_states)
changed_first log (e ∷ entries) (b ∷ before) (s ∷ decoder_states) (suc i) entry last now below many all = changed_first log entries before decoder_states i entry last now (omega (arith, below)) (omega (arith, many)) (omega (arith, all))

-- the log after the rest of the lines
abbrev pub rest : LogState → (entries : List Entry) (before decoder_states : List DecoderState) (i : ℕ) → LogState
rest log entries before decoder_states i = after_lines log (changed_lines (drop i entries) (drop i before) (drop i decoder_states))

pub rest_more : (log next : LogState) (entries : List Entry) (before decoder_states : List DecoderState) (i : ℕ) (entry : Entry) (last now : DecoderState) → i < length entries → length before ≡ length entries → length decoder_states ≡ length entries
    → next ≡ after_lines log (line_if (get_or entries i entry) (get_or before i last) (get_or decoder_states i now)) → rest next entries before decoder_states (i + 1) ≡ rest log entries before decoder_states i
rest_more log next entries before decoder_states i entry last now below many all one =
    let more : i + 1 ≡ suc i = omega arith in
    ap₂ (λ (log : LogState) (n : ℕ). rest log entries before decoder_states n) one more ∙ sym (changed_first log entries before decoder_states i entry last now below many all)

-- none remain
pub rest_none : (log : LogState) (entries : List Entry) (before decoder_states : List DecoderState) (i : ℕ) → length entries ≤ i → rest log entries before decoder_states i ≡ log
rest_none log entries before decoder_states i over =
    ap (λ (es : List Entry). after_lines log (changed_lines es (drop i before) (drop i decoder_states))) (drop_of_length-le entries over)

-- a decoder with the same state is not printed
pub unchanged : (entry : Entry) (last now : DecoderState) (log : LogState) → same_decoder_state last now ≡ true → log ≡ after_lines log (line_if entry last now)
unchanged entry last now log same = sym (ap (λ (is : Bool). after_lines log (if is then [] else decoder_line entry.name entry.spec now ∷ [])) same)

-- one with another state is
pub changed : (entry : Entry) (last now : DecoderState) (line : List ℕ) (log : LogState) → same_decoder_state last now ≡ false → line ≡ decoder_line entry.name entry.spec now → after_lines log (line ∷ []) ≡ after_lines log (line_if entry last now)
changed entry last now line log differs is =
    ap (λ (line : List ℕ). after_lines log (line ∷ [])) is
    ∙ sym (ap (λ (same : Bool). after_lines log (if same then [] else decoder_line entry.name entry.spec now ∷ [])) differs)
