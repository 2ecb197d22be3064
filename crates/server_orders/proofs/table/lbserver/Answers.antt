use Rattle.std.proofs.Common.{refl}
use Rattle.server_orders.specs.ServerLine.{server_app, server_rules}
use Rattle.server_orders.proofs.table.lbserver.Goals as goal

pub returns : goal.returns
unfolding server_app server_rules
returns c = refl
