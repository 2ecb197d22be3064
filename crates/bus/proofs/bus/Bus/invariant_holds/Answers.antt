use Rattle.bus.proofs.Always.{kept_of}
use Rattle.bus.proofs.bus.Bus.invariant_holds.Goals as goal

pub returns-clause-kept : goal.returns-clause-kept
returns-clause-kept c = kept_of c.args.self.now
