use Rattle.bus.proofs.Account.{adds_up, enough, few, only, same, within}
use Rattle.bus.proofs.laws.time_adds_up.Goals as goal

pub returns : goal.returns
returns c = record { adds_up = adds_up; only = only; same = same; within = within; enough = enough; few = few }
