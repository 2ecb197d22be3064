use Rattle.std.proofs.Common.{◌≡◌, ◌++◌, drop, take, length}
use Rattle.station_core.specs.Runs.{state_after, answers}
use Rattle.station_core.proofs.station.Station.run.Given as goal

-- the calls so far and the calls to come are all the calls
abbrev pub invariant-loop-i : goal.invariant-loop-i
invariant-loop-i l = record {
  rest : state_after l.self (drop l.i l.calls) ≡ state_after l.fn.self l.calls;
  written : take l.i l.steps ++ answers l.self (drop l.i l.calls) ≡ answers l.fn.self l.calls;
  lines : length l.self.lines ≡ length l.fn.self.lines;
  same_length : length l.calls ≡ length l.steps;
}
