use Rattle.std.proofs.Common.{Ok, refl}
use Rattle.timeline.proofs.Shown.{of_none, of_turn}
use Rattle.timeline.proofs.reading.turn_written.Goals as goal

pub returns-clause-exact : goal.returns-clause-exact
returns-clause-exact c = λ reported shows. of_turn c.args.line.now (Ok c.in-Ok.turn) c.in-Ok.turn reported c.requires c.in-Ok.ensures.exact refl shows

pub returns-in_default-clause-exact : goal.returns-in_default-clause-exact
returns-in_default-clause-exact c = λ reported shows. of_none c.args.line.now reported c.requires (λ t is. c.in_default.not-Ok t (c.turn_of.ensures.exact t is)) shows
