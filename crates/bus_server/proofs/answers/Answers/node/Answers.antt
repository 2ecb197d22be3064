use Rattle.std.proofs.Common.{ℕ, List, ◌++◌, length, ap, ap₂, sym, ◌∙◌, arith}
use Rattle.std.proofs.lemmas.List.{length-map}
use Rattle.loconet_tcp.specs.ClientLines.{node_text, states_ok_text}
use Rattle.loconet_tcp.specs.declared.request.Things.TheVariants.{Nodes}
use Rattle.bus_server.specs.declared.named_node.NamedNode.{NamedNode}
use Rattle.bus_server.specs.NamedNodes.{names_of}
use Rattle.bus_server.proofs.Answering.{as_many, line_by, no_line}
use Rattle.bus_server.proofs.answers.Answers.node.Goals as goal

pub returns-then-decoder-len-clause-line : goal.returns-then-decoder-len-clause-line
returns-then-decoder-len-clause-line c =
    let named = c.args.self.now.nodes.items in
    let nodes = c.args.world.now.nodes in
    c.push_node.ensures.text
    ∙ ap₂ (λ (text line : List ℕ). text ++ node_text line) c.new-text.ensures (c.as_bytes.ensures.value ∙ c.as_str.ensures.value)
    ∙ line_by (names_of named) nodes c.args.decoder c.node_line.result.bytes (states_ok_text Nodes) (as_many named nodes c.requires.specs)
    (omega (arith, c.if-decoder-len.true, c.len.ensures.value, length-map named (λ (node : NamedNode). node.name.bytes)))
    (omega (arith, ap (λ (line : List ℕ). length line) c.as_str.ensures.value, c.as_str.ensures.fits))
    c.node_line.ensures

pub returns-else-decoder-len-clause-line : goal.returns-else-decoder-len-clause-line
returns-else-decoder-len-clause-line c =
    let named = c.args.self.now.nodes.items in
    c.push_states_ok.ensures.text
    ∙ ap (λ (text : List ℕ). text ++ states_ok_text Nodes) c.new-text.ensures
    ∙ sym (no_line (names_of named) c.args.world.now.nodes c.args.decoder (states_ok_text Nodes)
    (omega (arith, c.if-decoder-len.false, c.len.ensures.value, length-map named (λ (node : NamedNode). node.name.bytes))))
