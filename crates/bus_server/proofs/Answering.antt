-- The lines of an answer.
use Rattle.std.proofs.Common.{◌≡◌, ℕ, zero, suc, ◌<◌, ◌≤◌, List, [], ◌∷◌, length, take, map, refl, ap, sym, ◌∙◌, arith}
use Rattle.std.specs.List.{slice_index_or}
use Rattle.std.proofs.lemmas.List.{length-map, take_all}
use Rattle.decoder_node.specs.declared.node.NodeSpec.{NodeSpec}
use Rattle.layout_core.specs.declared.node.Node.{Node}
use Rattle.layout_core.specs.Nodes.{spec_of}
use Rattle.layout_core.specs.DecoderStates.{decoder_line, decoder_state_of}
use Rattle.loconet_tcp.specs.ClientLines.{node_text, state_text}
use Rattle.bus_server.specs.declared.named_node.NamedNode.{NamedNode}
use Rattle.bus_server.specs.Answers.{node_lines}
use Rattle.bus_server.specs.NamedNodes.{names_of, specs_of}

line_there : (names : List (List ℕ)) (nodes : List Node) (i : ℕ) (name : List ℕ) (spec : NodeSpec) (node : Node) (none : List ℕ) → length names ≡ length nodes → i < length names
    → slice_index_or (node_lines names nodes) i none
    ≡ node_text (take 640 (decoder_line (slice_index_or names i name) (slice_index_or (map spec_of nodes) i spec) (decoder_state_of (slice_index_or nodes i node))))
line_there [] nodes i name spec node none same below = absurd (omega (arith, below))
line_there (first ∷ names) [] i name spec node none same below = absurd (omega (arith, same))
line_there (first ∷ names) (other ∷ nodes) zero name spec node none same below = refl
line_there (first ∷ names) (other ∷ nodes) (suc i) name spec node none same below = line_there names nodes i name spec node none (omega (arith, same)) (omega (arith, below))

-- a line of at most 640 bytes is not cut
pub line_by : (names : List (List ℕ)) (nodes : List Node) (i : ℕ) (line none : List ℕ) → length names ≡ length nodes → i < length names → length line ≤ 640
    → ((name : List ℕ) (spec : NodeSpec) (node : Node) → line ≡ decoder_line (slice_index_or names i name) (slice_index_or (map spec_of nodes) i spec) (decoder_state_of (slice_index_or nodes i node)))
    → node_text line ≡ slice_index_or (node_lines names nodes) i none
line_by names [] i line none same below short is = absurd (omega (arith, same, below))
line_by names (node ∷ nodes) i line none same below short is =
    ap node_text (sym (take_all 640 line short))
    ∙ ap (λ (bytes : List ℕ). node_text (take 640 bytes)) (is [] (spec_of node) node)
    ∙ sym (line_there names (node ∷ nodes) i [] (spec_of node) node none same below)

pub no_line : (names : List (List ℕ)) (nodes : List Node) (i : ℕ) (none : List ℕ) → length names ≤ i → slice_index_or (node_lines names nodes) i none ≡ none
no_line [] nodes i none past = refl
no_line (first ∷ names) [] i none past = refl
no_line (first ∷ names) (other ∷ nodes) zero none past = absurd (omega (arith, past))
no_line (first ∷ names) (other ∷ nodes) (suc i) none past = no_line names nodes i none (omega (arith, past))

-- the line at an index of these, which is not cut
pub listed : {A : Type 0} (text : A → List ℕ) (items : List A) (i : ℕ) (line last : List ℕ) → i < length items → length line ≤ 160
    → ((none : A) → line ≡ text (slice_index_or items i none)) → state_text line ≡ slice_index_or (map (λ item. state_text (take 160 (text item))) items) i last
listed text [] i line last below short is = absurd (omega (arith, below))
listed text (first ∷ items) zero line last below short is =
    ap state_text (sym (take_all 160 line short)) ∙ ap (λ (bytes : List ℕ). state_text (take 160 bytes)) (is first)
listed text (first ∷ items) (suc i) line last below short is = listed text items i line last (omega (arith, below)) short is

-- as many names as decoders
pub as_many : (named : List NamedNode) (nodes : List Node) → specs_of named ≡ map spec_of nodes → length (names_of named) ≡ length nodes
as_many named nodes same =
    length-map named (λ (node : NamedNode). node.name.bytes)
    ∙ (let size : length (specs_of named) ≡ length (map spec_of nodes) = ap length same in omega (arith, size, length-map named (λ (node : NamedNode). node.spec), length-map nodes spec_of))
