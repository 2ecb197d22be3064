use Rattle.std.proofs.Common.{sym, subst}
use Rattle.station.specs.Layout.{AreBetween}
use Rattle.station.proofs.DecoderLines.{fresh_between}
use Rattle.station.proofs.layout.new_world.Goals as goal

pub returns-in-Ok-clause-between : goal.returns-in-Ok-clause-between
returns-in-Ok-clause-between c = subst AreBetween (sym c.in-Ok.ensures.nodes) (fresh_between _)
