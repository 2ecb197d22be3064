use Rattle.std.proofs.Common.{refl, rules, ◌∙◌}
use Rattle.input_text.specs.Write.{AppendsFront}
use Rattle.input_text.proofs.Fronts.{front_of, on_err, written_none, written_part}
use Rattle.input_text.proofs.writing.put_all.Goals as goal

pub loop-rest-init : goal.loop-rest-init
loop-rest-init g c = record { written = written_none (g.O.Sink.held c.args.output.now) c.args.bytes.now; failed = refl; same = refl }

pub loop-rest-preserved : goal.loop-rest-preserved
loop-rest-preserved g c = record {
  written =
      written_part (g.O.Sink.held c.args.output.now) (g.O.Sink.held c.loop-rest.output) (g.O.Sink.held c.put.new.self) c.args.bytes.now c.loop-rest.rest.now _ c.in_ok-count.count
      c.loop-rest.invariant.written c.in_ok-count.ensures.bytes (search rules);
  failed = c.in_ok-count.ensures.failed_ok ∙ c.loop-rest.invariant.failed;
  same = c.put.ensures.same ∙ c.loop-rest.invariant.same;
}

pub returns-in_err-count-clause-front : goal.returns-in_err-count-clause-front
returns-in_err-count-clause-front g c =
    on_err c.from_residual.result (AppendsFront (g.O.Sink.held c.args.output.now) (g.O.Sink.held c.put.new.self) c.args.bytes.now)
    (front_of (g.O.Sink.held c.args.output.now) (g.O.Sink.held c.loop-rest.output) (g.O.Sink.held c.put.new.self) c.args.bytes.now c.loop-rest.rest.now
    c.loop-rest.invariant.written (search rules) c.in_err-count.ensures.bytes)
