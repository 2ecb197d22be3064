use Rattle.std.proofs.Common.{◌≡◌, ◌++◌, drop, map, take}
use Rattle.railway.specs.Railway.{run_under}
use Rattle.railway.proofs.track.Track.run_all.Given as goal

-- the first of the trains have run
abbrev pub invariant-loop-train : goal.invariant-loop-train
invariant-loop-train l =
    l.trains ≡ map (run_under l.world.station.powered.power l.self l.micros l.world.nodes) (take l.train-index l.fn.trains) ++ drop l.train-index l.fn.trains
