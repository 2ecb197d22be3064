use Rattle.std.proofs.Common.{◌∷◌, [], rules}
use Rattle.std.proofs.lemmas.Result.{on_err_weaker}
use Rattle.console.proofs.output.print.Goals as goal

pub returns-clause-front : goal.returns-clause-front
returns-clause-front g c =
    on_err_weaker c.print_all-2.result
    (c.fronts.ensures.behind (g.O.Sink.held c.args.output.now) (g.O.Sink.held c.print_all.new.output) (g.O.Sink.held c.print_all-2.new.output) c.args.line.now.bytes (10 ∷ [])
    (search rules))
    (search rules)
