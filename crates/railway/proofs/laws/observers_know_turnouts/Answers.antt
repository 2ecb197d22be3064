use Rattle.railway.proofs.Reporting.{always-known, full-known}
use Rattle.railway.proofs.laws.observers_know_turnouts.Goals as goal

pub returns-clause-full : goal.returns-clause-full
returns-clause-full c railway turnout switch before none alone lying = full-known none railway.network.turnouts turnout switch before alone lying

pub returns-clause-after : goal.returns-clause-after
returns-clause-after c railway happenings turnout switch side none alone known lying = always-known none railway happenings turnout switch side alone known lying
