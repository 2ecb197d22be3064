use Rattle.railway.specs.Trains.{default_state}
use Rattle.railway.proofs.Sensing.{at-sensed, reported-free, reported-occupied, sensed-at}
use Rattle.railway.proofs.laws.nothing_passes_unseen.Goals as goal

pub returns : goal.returns
returns c = record {
  occupied = λ railway micros power nodes block sensor met free.
      reported-occupied railway micros met.moment power nodes met.train block sensor default_state met.of_railway met.within met.there met.works met.of_plan met.has_sensor free;
  free = λ railway micros power nodes block sensor met free.
      reported-free railway micros met.moment power nodes met.train block sensor default_state met.of_railway met.within met.there met.works met.of_plan met.has_sensor free;
  moments = λ railway micros power nodes block. (sensed-at railway micros power nodes block, at-sensed railway micros power nodes block);
}
