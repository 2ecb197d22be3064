use Rattle.explain.proofs.Copying.{front-part}
use Rattle.explain.proofs.streams.write_text.Goals as goal

pub returns-in_err-put_all-clause-front : goal.returns-in_err-put_all-clause-front
returns-in_err-put_all-clause-front g c =
    front-part (g.O.Sink.held c.args.output.now) (g.O.Sink.held c.put_all.new.output) c.args.text.now c.in_err-put_all.ensures.front
