use Rattle.std.proofs.Common.{rules, ◌+◌, List, Some, drop, ap, sym, ◌∙◌, append-nil, drop_of_length-le}
use Rattle.std.proofs.lemmas.List.{drop_more}
use Rattle.decoder_node.specs.declared.node.NodeSpec.{NodeSpec}
use Rattle.station_c.specs.declared.decoder.Decoder.{Decoder}
use Rattle.station_c.specs.Decoder.{specs_of}
use Rattle.station_c.proofs.Decoders.{all_read, behind, few_enough, one_more, refused}
use Rattle.station_c.proofs.decoder.read_all.Goals as goal

pub returns-in_default : goal.returns-in_default
returns-in_default c =
    let done = c.loop-decoder.nodes.items in let ds = c.args.decoders.now in let i = c.loop-decoder.decoder-index in
    let more = drop_more ds i _ c.loop-decoder-test.true in
    sym (few_enough ds c.loop-decoder.invariant.few
    ∙ sym c.loop-decoder.invariant.rest
    ∙ ap (λ (later : List Decoder). behind done (specs_of later)) more
    ∙ refused done _ (drop (i + 1) ds) (sym c.read.ensures ∙ c.in_default.is))

pub loop-decoder-preserved : goal.loop-decoder-preserved
loop-decoder-preserved c =
    let done = c.loop-decoder.nodes.items in let ds = c.args.decoders.now in let i = c.loop-decoder.decoder-index in
    let more = drop_more ds i _ c.loop-decoder-test.true in
    record {
      count = search rules;
      few = c.loop-decoder.invariant.few;
      rest =
          ap (λ (items : List NodeSpec). behind items (specs_of (drop (i + 1) ds))) c.push.ensures.items
          ∙ one_more done _ c.in-Some.node (drop (i + 1) ds) (sym c.read.ensures ∙ c.in-Some.is)
          ∙ ap (λ (later : List Decoder). behind done (specs_of later)) (sym more)
          ∙ c.loop-decoder.invariant.rest;
    }

pub returns : goal.returns
returns c =
    let done = c.loop-decoder.nodes.items in let ds = c.args.decoders.now in
    sym (few_enough ds c.loop-decoder.invariant.few
    ∙ sym c.loop-decoder.invariant.rest
    ∙ ap (λ (later : List Decoder). behind done (specs_of later)) (drop_of_length-le ds c.loop-decoder-test.false)
    ∙ all_read done
    ∙ ap Some (append-nil done))
