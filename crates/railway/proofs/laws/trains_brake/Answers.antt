use Rattle.railway.specs.Laws.{asked_of}
use Rattle.railway.proofs.Running.{stop-momentum, stop-speed, some-rates}
use Rattle.railway.proofs.laws.trains_brake.Goals as goal

pub returns-clause-way : goal.returns-clause-way
returns-clause-way c train micros nodes running momentum rates runs stop has time =
    c.ways_are_closed_forms.ensures.braking (asked_of nodes train) momentum train.velocity micros
    (stop-momentum nodes train running momentum runs stop has) (some-rates train.momentum momentum rates has) (stop-speed nodes train running runs stop) time

pub returns-clause-stands : goal.returns-clause-stands
returns-clause-stands c train micros nodes running momentum rates runs stop has time =
    c.ways_are_closed_forms.ensures.stands (asked_of nodes train) momentum train.velocity micros
    (stop-momentum nodes train running momentum runs stop has) (some-rates train.momentum momentum rates has) (stop-speed nodes train running runs stop) time
