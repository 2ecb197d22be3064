use Rattle.std.proofs.Common.{◌≡◌, [], replicate}
use Rattle.station_core.proofs.station.Station.new.Given as goal

-- the framers so far
abbrev pub invariant-loop : goal.invariant-loop
invariant-loop l = l.framers.items ≡ replicate l.counter []
