use Rattle.std.proofs.Common.{rules}
use Rattle.layout_core.proofs.world.World.noise.Goals as goal

pub returns-clause-nodes : goal.returns-clause-nodes
returns-clause-nodes c = search rules
