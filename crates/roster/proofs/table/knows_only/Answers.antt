use Rattle.std.proofs.Common.{◌∙◌}
use Rattle.roster.proofs.Keys.{knows_only-keys}
use Rattle.roster.proofs.table.knows_only.Goals as goal

pub returns : goal.returns
returns c = c.keys_are.ensures ∙ knows_only-keys c.args.known.now c.args.table.now.entries
