use Rattle.std.proofs.Common.{◌≡◌, ◌≤◌, ◌++◌, length, drop}
use Rattle.railway.specs.Feedback.{full_turnouts}
use Rattle.railway.proofs.track.Track.side_reports.Given as goal

abbrev pub invariant-loop-turnout : goal.invariant-loop-turnout
invariant-loop-turnout l = record {
  added : l.reports.items ++ full_turnouts (drop l.turnout-index l.self.turnouts) ≡ full_turnouts l.self.turnouts;
  few : length l.reports.items ≤ l.turnout-index;
}
