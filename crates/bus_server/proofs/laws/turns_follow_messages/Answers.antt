use Rattle.bus_server.proofs.Following.{turns_follow_messages}
use Rattle.bus_server.proofs.laws.turns_follow_messages.Goals as goal

pub returns : goal.returns
returns c = turns_follow_messages
