use Rattle.web.proofs.Cutting.{found_last, found_nowhere}
use Rattle.web.proofs.routing.whole_lines.Goals as goal

pub returns-in-None : goal.returns-in-None
returns-in-None c = found_nowhere c.args.text.now c.memrchr.result c.memrchr.ensures c.in-None.is

pub returns-in-Some : goal.returns-in-Some
returns-in-Some c = found_last c.args.text.now c.memrchr.result c.in-Some.at c.memrchr.ensures c.in-Some.is
