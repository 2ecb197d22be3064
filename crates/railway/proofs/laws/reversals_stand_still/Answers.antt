use Rattle.railway.specs.Laws.{asked_of}
use Rattle.railway.proofs.Running.{keeps-momentum}
use Rattle.railway.proofs.laws.reversals_stand_still.Goals as goal

pub returns : goal.returns
returns c = record {
  between = λ train micros nodes running runs other some turned.
      let kept = keeps-momentum nodes train running runs other some in
      let stood = c.reversals_stand_still.ensures.between (asked_of nodes train) kept.0 train.velocity micros kept.1 turned in
      record { moment = stood.moment; within = stood.within; stands = stood.stands };
}
