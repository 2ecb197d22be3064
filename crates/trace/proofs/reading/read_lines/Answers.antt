use Rattle.std.proofs.Common.{◌≡◌, Ok, inr, sym, subst, arith}
use Rattle.std.specs.Str.Lines.{lines}
use Rattle.trace.proofs.Parsing.{HasParsed, fails, fails_for_all, no_lines, one_at_most, pushed, parsed_all, parsed_exactly, parsed_none, parsed_more}
use Rattle.trace.proofs.Turns.{empty}
use Rattle.trace.proofs.Whole.{with_none, with_one}
use Rattle.trace.proofs.reading.read_lines.Goals as goal

pub loop-rest-preserved-else-is_err : goal.loop-rest-preserved-else-is_err
loop-rest-preserved-else-is_err g c = record {
  item = parsed_more g.D.Drawing.parses (lines c.args.text.now) (lines c.loop-rest.rest.now) c.loop-rest.number c.loop-rest.things.items c.cut_line.result.0.now (lines c.cut_line.result.1.now) c.in-Ok.item c.push.new.self.items
      c.loop-rest.invariant.item c.cut_line.ensures.lines c.in-Ok.ensures.item
      (λ other parses. let same : Ok c.in-Ok.item ≡ Ok other = c.in-Ok.ensures.exact other parses in cc)
      (with_one c.loop-rest.things.items c.push.new.self.items c.in-Some.thing c.in-Ok.item (pushed c.push.result c.is_err.result c.loop-rest.things.items c.push.new.self.items c.in-Some.thing c.push.ensures.items c.is_err.ensures.value c.if-is_err.false) c.in-Some.is);
  within = omega (arith, c.loop-rest.invariant.within, c.cut_line.ensures.shorter);
  few = one_at_most c.push.result _ _ c.loop-rest.number c.push.ensures.len c.loop-rest.invariant.few;
}

pub loop-rest-preserved : goal.loop-rest-preserved
loop-rest-preserved g c = record {
  item = parsed_more g.D.Drawing.parses (lines c.args.text.now) (lines c.loop-rest.rest.now) c.loop-rest.number c.loop-rest.things.items c.cut_line.result.0.now (lines c.cut_line.result.1.now) c.in-Ok.item c.loop-rest.things.items
      c.loop-rest.invariant.item c.cut_line.ensures.lines c.in-Ok.ensures.item
      (λ other parses. let same : Ok c.in-Ok.item ≡ Ok other = c.in-Ok.ensures.exact other parses in cc)
      (with_none c.loop-rest.things.items c.in-Ok.item c.in_default-item.is);
  within = omega (arith, c.loop-rest.invariant.within, c.cut_line.ensures.shorter);
  few = omega (arith, c.loop-rest.invariant.few);
}

pub loop-rest-init : goal.loop-rest-init
loop-rest-init g c = record {
  item = subst (HasParsed g.D.Drawing.parses (lines c.args.text.now) (lines c.args.text.now) 0) (sym c.new-things.ensures.items) (parsed_none g.D.Drawing.parses (lines c.args.text.now));
  within = omega arith;
  few = omega (arith, c.new-things.ensures.len);
}

pub returns-in_default-clause-exact : goal.returns-in_default-clause-exact
returns-in_default-clause-exact g c = λ things item.
    absurd (fails_for_all g.D.Drawing.parses (lines c.args.text.now) (lines c.loop-rest.rest.now) c.loop-rest.number c.loop-rest.things.items things c.cut_line.result.0.now (lines c.cut_line.result.1.now) c.loop-rest.invariant.item c.cut_line.ensures.lines (λ other parses. c.in_default.not-Ok other (c.read.ensures.exact other parses)) item.1)

pub returns-in_default-clause-fault : goal.returns-in_default-clause-fault
returns-in_default-clause-fault g c = inr (omega (arith, c.if-text-gt-LONGEST_TEXT.false), fails g.D.Drawing.parses (lines c.args.text.now) (lines c.loop-rest.rest.now) c.loop-rest.number c.loop-rest.things.items c.cut_line.result.0.now (lines c.cut_line.result.1.now) c.loop-rest.invariant.item c.cut_line.ensures.lines (λ other parses. c.in_default.not-Ok other (c.read.ensures.exact other parses)))

pub returns-clause-item : goal.returns-clause-item
returns-clause-item g c = (omega (arith, c.if-text-gt-LONGEST_TEXT.false), parsed_all g.D.Drawing.parses (lines c.args.text.now) (lines c.loop-rest.rest.now) c.loop-rest.number c.loop-rest.things.items c.loop-rest.invariant.item (no_lines c.loop-rest.rest.now (empty c.loop-rest.rest.now c.is_empty.result c.is_empty.ensures c.loop-rest-test.false)))

pub returns-clause-exact : goal.returns-clause-exact
returns-clause-exact g c = λ things item. parsed_exactly g.D.Drawing.parses (lines c.args.text.now) (lines c.loop-rest.rest.now) c.loop-rest.number c.loop-rest.things.items things c.loop-rest.invariant.item (no_lines c.loop-rest.rest.now (empty c.loop-rest.rest.now c.is_empty.result c.is_empty.ensures c.loop-rest-test.false)) item.1
