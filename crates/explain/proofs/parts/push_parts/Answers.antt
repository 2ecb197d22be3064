use Rattle.std.proofs.Common.{◌++◌, arith}
use Rattle.explain.specs.Parts.{parts_note, parts_of}
use Rattle.explain.proofs.Cuts.{empty, notes_end, notes_more}
use Rattle.explain.proofs.parts.push_parts.Goals as goal

pub loop-rest-preserved : goal.loop-rest-preserved
loop-rest-preserved c = record {
  whole = notes_more c.loop-rest.text.items c.push_part.new.text.items (parts_of c.loop-rest.rest.now) c.cut_part.result.0.now (parts_of c.cut_part.result.1.now) (c.args.text.now.items ++ parts_note (parts_of c.args.bytes.now))
      c.cut_part.ensures.parts c.loop-rest.invariant.whole c.in_ok-push_part.ensures;
  within = omega (arith, c.loop-rest.invariant.within, c.cut_part.ensures.shorter);
}

pub returns : goal.returns
returns c = notes_end c.loop-rest.text.items c.loop-rest.rest.now (c.args.text.now.items ++ parts_note (parts_of c.args.bytes.now)) (empty c.loop-rest.rest.now c.is_empty.result c.is_empty.ensures c.loop-rest-test.false) c.loop-rest.invariant.whole
