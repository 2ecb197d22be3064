use Rattle.std.proofs.Common.{refl, Ok}
use Rattle.web.proofs.Upgrading.{response-graphic}
use Rattle.web.proofs.routing.upgrade_of.Goals as goal

pub invariant_of-result : goal.invariant_of-result
invariant_of-result c = record { graphic = response-graphic c.in-Ok.accept_key _ c.in-Ok.ensures }

pub returns-in-Ok-clause-upgrade : goal.returns-in-Ok-clause-upgrade
returns-in-Ok-clause-upgrade c = (Ok c.in-Ok.accept_key, c.in-Ok.ensures, (_, refl, refl, refl))
