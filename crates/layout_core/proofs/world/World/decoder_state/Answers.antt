use Rattle.layout_core.proofs.Stands.{told_at}
use Rattle.layout_core.proofs.world.World.decoder_state.Goals as goal

pub returns-clause-kind : goal.returns-clause-kind
returns-clause-kind c = λ none. told_at c.args.self.now.nodes c.args.i none c.running.result c.outputs.result c.requires c.running.ensures c.outputs.ensures
