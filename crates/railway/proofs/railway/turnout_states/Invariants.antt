use Rattle.std.proofs.Common.{◌≡◌, ◌≤◌, length, map, take}
use Rattle.railway.specs.Turnouts.{state_of_turnout}
use Rattle.railway.proofs.railway.turnout_states.Given as goal

abbrev pub invariant-loop-turnout : goal.invariant-loop-turnout
invariant-loop-turnout l = record {
  made : l.states.items ≡ map (state_of_turnout l.decoders) (take l.turnout-index l.turnouts);
  few : length l.states.items ≤ l.turnout-index;
}
