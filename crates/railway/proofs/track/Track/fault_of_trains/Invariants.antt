use Rattle.std.proofs.Common.{◌≡◌, drop}
use Rattle.railway.specs.Faults.{fault_of_trains}
use Rattle.railway.proofs.track.Track.fault_of_trains.Given as goal

abbrev pub invariant-loop-i : goal.invariant-loop-i
invariant-loop-i l = fault_of_trains l.decoders l.self l.i (drop l.i l.trains) ≡ fault_of_trains l.decoders l.self 0 l.trains
