use Rattle.bus.proofs.Whole.{heard_bytes}
use Rattle.bus.proofs.sending.send.Goals as goal

pub returns-in-Some-clause-nodes : goal.returns-in-Some-clause-nodes
returns-in-Some-clause-nodes c = λ line. heard_bytes line c.args.message.now c.args.world.now.station c.args.world.now.nodes c.message.new.self.nodes c.message.ensures.nodes

pub returns-in-None-clause-nodes : goal.returns-in-None-clause-nodes
returns-in-None-clause-nodes c = λ line. heard_bytes line c.args.message.now c.args.world.now.station c.args.world.now.nodes c.message.new.self.nodes c.message.ensures.nodes
