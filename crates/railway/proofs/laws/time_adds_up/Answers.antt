use Rattle.railway.proofs.Pieces.{elapsed-elapsed, elapsed-kept}
use Rattle.railway.proofs.laws.time_adds_up.Goals as goal

pub returns : goal.returns
returns c = record {
  kept = λ railway power nodes micros h. elapsed-kept railway micros power nodes h;
  adds = λ railway power nodes these those _. elapsed-elapsed railway power nodes these those;
}
