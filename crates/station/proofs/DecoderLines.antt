-- The state of a decoder of a layout is complete, as its line requires.
use Rattle.std.proofs.Common.{◌≡◌, ◌<◌, ◌∙◌, ℕ, sym, zero, suc, List, [], ◌∷◌, Option, Some, None, map, length, get_or, refl, ap, arith}
use Rattle.std.proofs.lemmas.List.{get_or-map, length-map}
use Rattle.std.specs.List.{slice_index_or}
use Rattle.decoder_node.specs.declared.node.NodeSpec.{NodeSpec}
use Rattle.layout_core.specs.declared.node.Node.{Node}
use Rattle.decoder_node.specs.declared.node.NodeSpec.TheVariants as spec
use Rattle.layout_core.specs.Nodes.{node_of, spec_of}
use Rattle.roster.specs.Entry.{Entry, name_of, spec_of as spec_of_entry}
use Rattle.station.specs.Layout.{AreBetween, IsWorldOf, entries_in}
use Rattle.layout_core.specs.declared.decoder_state.DecoderState.{DecoderState}
use Rattle.layout_core.specs.DecoderStates.{decoder_line, decoder_state_of}
use Rattle.station.specs.Printed.{decoder_lines}

-- line i is that of entry i and of the state of decoder i
pub line_at : (entries : List Entry) (decoder_states : List DecoderState) (i : ℕ) (entry : Entry) (decoder_state : DecoderState) (line : List ℕ) → i < length entries → length decoder_states ≡ length entries
    → get_or (decoder_lines entries decoder_states) i line ≡ decoder_line (get_or entries i entry).name (get_or entries i entry).spec (get_or decoder_states i decoder_state)
line_at [] decoder_states i entry decoder_state line below same = absurd (omega arith)
line_at (e ∷ entries) [] i entry decoder_state line below same = absurd (omega arith)
line_at (e ∷ entries) (s ∷ decoder_states) zero entry decoder_state line below same = refl
line_at (e ∷ entries) (s ∷ decoder_states) (suc i) entry decoder_state line below same = line_at entries decoder_states i entry decoder_state line (omega arith) (omega arith)

pub length-decoder_lines : (entries : List Entry) (decoder_states : List DecoderState) → length decoder_states ≡ length entries → length (decoder_lines entries decoder_states) ≡ length entries
length-decoder_lines [] decoder_states same = refl
length-decoder_lines (e ∷ entries) [] same = absurd (omega arith)
length-decoder_lines (e ∷ entries) (s ∷ decoder_states) same =
    let rest : length (decoder_lines entries decoder_states) ≡ length entries = length-decoder_lines entries decoder_states (omega arith) in
    omega (arith, rest)

-- the line that is printed of decoder i
told_line : (entries : List Entry) (nodes : List Node) (specs : List NodeSpec) (i : ℕ) (name : List ℕ) (spec : NodeSpec) (decoder_state : DecoderState)
    → specs ≡ map spec_of_entry entries → i < length specs → length nodes ≡ length specs → spec ≡ slice_index_or specs i spec
    → ((none : Entry) → name ≡ name_of (slice_index_or entries i none)) → ((none : Node) → decoder_state ≡ decoder_state_of (slice_index_or nodes i none))
    → get_or (decoder_lines entries (map decoder_state_of nodes)) i [] ≡ decoder_line name spec decoder_state
told_line entries nodes specs i name spec decoder_state are inside same at names stands_so =
    let none : Entry = record { name = []; spec = spec } in
    let node : Node = node_of spec in
    let count : length specs ≡ length entries = ap length are ∙ length-map entries spec_of_entry in
    let below : i < length entries = omega (arith, inside, count) in
    let listens : i < length nodes = omega (arith, inside, same) in
    let as_many : length (map decoder_state_of nodes) ≡ length entries = length-map nodes decoder_state_of ∙ same ∙ count in
    let of_entry : spec ≡ spec_of_entry (slice_index_or entries i none) = at ∙ ap (λ (ss : List NodeSpec). slice_index_or ss i spec) are ∙ get_or-map spec_of_entry entries i none spec below in
    let here : DecoderState = get_or (map decoder_state_of nodes) i (decoder_state_of node) in
    let stands : here ≡ decoder_state_of (slice_index_or nodes i node) = get_or-map decoder_state_of nodes i node (decoder_state_of node) listens in
    line_at entries (map decoder_state_of nodes) i none (decoder_state_of node) [] below as_many
    ∙ ap (decoder_line (slice_index_or entries i none).name (slice_index_or entries i none).spec) stands
    ∙ sym (ap (λ (n : List ℕ). decoder_line n spec decoder_state) (names none)
    ∙ ap (λ (s : NodeSpec). decoder_line (slice_index_or entries i none).name s decoder_state) of_entry
    ∙ ap (decoder_line (slice_index_or entries i none).name (slice_index_or entries i none).spec) (stands_so node))

-- and it is among the lines of all decoders
pub told_there : (entries : List Entry) (nodes : List Node) (specs : List NodeSpec) (i : ℕ) (name : List ℕ) (spec : NodeSpec) (decoder_state : DecoderState) (line : List ℕ)
    → specs ≡ map spec_of_entry entries → map spec_of nodes ≡ map spec_of_entry entries → i < length specs → spec ≡ slice_index_or specs i spec
    → ((none : Entry) → name ≡ name_of (slice_index_or entries i none)) → ((none : Node) → decoder_state ≡ decoder_state_of (slice_index_or nodes i none))
    → line ≡ decoder_line name spec decoder_state → (i < length (decoder_lines entries (map decoder_state_of nodes))) × (get_or (decoder_lines entries (map decoder_state_of nodes)) i [] ≡ line)
told_there entries nodes specs i name spec decoder_state line are made inside at names stands_so is =
    let count : length specs ≡ length entries = ap length are ∙ length-map entries spec_of_entry in
    let same : length nodes ≡ length specs = sym (length-map nodes spec_of) ∙ ap length (made ∙ sym are) in
    let lines : length (decoder_lines entries (map decoder_state_of nodes)) ≡ length entries = length-decoder_lines entries (map decoder_state_of nodes) (length-map nodes decoder_state_of ∙ same ∙ count) in
    (omega (arith, inside, count, lines), told_line entries nodes specs i name spec decoder_state are inside same at names stands_so ∙ sym is)

-- no decoder of a new layout has a packet under way
pub fresh_between : (specs : List NodeSpec) → AreBetween (map node_of specs)
fresh_between [] i none below = absurd (omega arith)
fresh_between (spec.Loco cv ∷ specs) zero none below = refl
fresh_between (spec.Accessory number ∷ specs) zero none below = refl
fresh_between (spec ∷ specs) (suc i) none below = fresh_between specs i none (omega (arith, below))

-- the entries of a roster are as many as the decoders
pub as_many : (roster : Option (List Entry)) (nodes : List Node) → IsWorldOf roster nodes → length nodes ≡ length (entries_in roster)
as_many None nodes is = sym (length-map nodes spec_of) ∙ ap length is
as_many (Some entries) nodes is = sym (length-map nodes spec_of) ∙ ap length is ∙ length-map entries spec_of_entry
