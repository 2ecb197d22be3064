use Rattle.station_core.specs.Station.{packet_of_turn}
use Rattle.bus.proofs.Bounds.{at_least, at_most}
use Rattle.bus.proofs.laws.turns_are_bounded.Goals as goal

pub returns : goal.returns
returns c = record {
  shortest = λ seen. at_least c.durations_are_bounded.ensures.idle c.durations_are_bounded.ensures.shortest (packet_of_turn seen)
      (c.packets_are_short.ensures.some seen) (c.packets_are_short.ensures.checked seen);
  longest = λ seen. at_most c.durations_are_bounded.ensures.idle c.durations_are_bounded.ensures.longest (packet_of_turn seen) (c.packets_are_short.ensures.few seen);
}
