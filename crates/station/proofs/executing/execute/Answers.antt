use Rattle.std.proofs.Common.{map}
use Rattle.station.proofs.Ordering.{no_order}
use Rattle.station.proofs.executing.execute.Goals as goal

pub returns-in-Err-clause-ends : goal.returns-in-Err-clause-ends
returns-in-Err-clause-ends g c = λ _.
    no_order (map (λ word. word.now) c.args.words.now) (g.I.Input.left c.args.input.now) (g.I.Input.left c.args.input.now) (g.I.Input.failed c.args.input.now) (g.O.Sink.failed c.args.output.now)
    c.in-Err.fault c.report-in-Err.result c.report-in-Err.ensures c.requires.writes c.in-Err.ensures.fault
