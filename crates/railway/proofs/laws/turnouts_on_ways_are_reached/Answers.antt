use Rattle.railway.proofs.Reached.{reached}
use Rattle.railway.proofs.laws.turnouts_on_ways_are_reached.Goals as goal

pub returns : goal.returns
returns c = record {
  reached = λ network running micros train i none sound is at_once less on. reached network running train sound is on.rails at_once micros i none less on;
}
