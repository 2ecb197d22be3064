use Rattle.railway.specs.Course.{after}
use Rattle.railway.proofs.Reporting.{are-completed, each-reported, only-time}
use Rattle.railway.proofs.laws.turnouts_report_movements.Goals as goal

pub returns-clause-only : goal.returns-clause-only
returns-clause-only c railway happening none = are-completed none railway.network.turnouts (after railway happening).network.turnouts

pub returns-clause-each : goal.returns-clause-each
returns-clause-each c railway happening none report h = each-reported railway happening none report h

pub returns-clause-time : goal.returns-clause-time
returns-clause-time c railway happening h = only-time railway happening h
