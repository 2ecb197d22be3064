use Rattle.std.proofs.Common.{◌≡◌, ◌≤◌, ◌++◌, length, drop}
use Rattle.railway.specs.Feedback.{movements_within}
use Rattle.railway.proofs.track.Track.movements.Given as goal

abbrev pub invariant-loop-turnout : goal.invariant-loop-turnout
invariant-loop-turnout l = record {
  added : l.reports.items ++ movements_within l.world.station.powered.power l.micros l.world.nodes (drop l.turnout-index l.self.turnouts) ≡ movements_within l.world.station.powered.power l.micros l.world.nodes l.self.turnouts;
  few : length l.reports.items ≤ l.turnout-index;
}
