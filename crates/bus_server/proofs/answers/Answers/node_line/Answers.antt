use Rattle.std.proofs.Common.{List, ap, sym, subst, ◌∙◌}
use Rattle.std.specs.List.{slice_index_or}
use Rattle.decoder_node.specs.declared.node.NodeSpec.{NodeSpec}
use Rattle.show_text.specs.Nodes.{IsStateOf}
use Rattle.bus_server.proofs.answers.Answers.node_line.Goals as goal

pub line-requires-clause-kind : goal.line-requires-clause-kind
line-requires-clause-kind c =
    let spec = c.spec.result.now in
    let state = c.decoder_state.result in
    subst (λ (s : NodeSpec). IsStateOf s state.running state.outputs)
    (sym (c.spec.ensures spec ∙ ap (λ (all : List NodeSpec). slice_index_or all c.args.decoder spec) c.requires.specs))
    (c.decoder_state.ensures.kind spec)
