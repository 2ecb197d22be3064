use Rattle.std.proofs.Common.{[]}
use Rattle.web.proofs.Wholes.{held-on, pieces, whole}
use Rattle.web.proofs.laws.lines_are_messages.Goals as goal

pub returns : goal.returns
returns c = record { whole = whole; pieces = pieces []; held = held-on [] }
