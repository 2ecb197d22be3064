use Rattle.bus_log.proofs.Ignoring.{no_effect}
use Rattle.bus_log.proofs.laws.ignored_messages_have_no_effect.Goals as goal

pub returns : goal.returns
returns c = no_effect
