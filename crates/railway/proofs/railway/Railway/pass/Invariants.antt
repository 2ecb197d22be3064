use Rattle.std.proofs.Common.{◌≡◌, ◌||◌, ◌<◌, ℕ, false, length, true}
use Rattle.std.specs.List.{slice_index_or}
use Rattle.railway.specs.Railway.{is_sensed, is_sensed_through, run_through}
use Rattle.railway.proofs.railway.Railway.pass.Given as goal

-- what is left of the time leads to where all of it leads, and what was found and what is found in the
-- rest is what is found in all
abbrev pub invariant-loop-left : goal.invariant-loop-left
invariant-loop-left l = record {
  railway : run_through l.world.station.powered.power l.left l.world.nodes l.self ≡ run_through l.world.station.powered.power l.fn.micros l.world.nodes l.fn.self;
  blocks : l.self.network.blocks ≡ l.fn.self.network.blocks;
  found : (block : ℕ) → block < 64 → block < length l.fn.self.network.blocks
      → (slice_index_or l.sensed block false || is_sensed_through l.world.station.powered.power l.left l.world.nodes l.self block) ≡ is_sensed_through l.world.station.powered.power l.fn.micros l.world.nodes l.fn.self block;
  now : (block : ℕ) → block < 64 → is_sensed l.self block ≡ true → slice_index_or l.sensed block false ≡ true;
}

abbrev pub decreases-loop-left : goal.decreases-loop-left
decreases-loop-left l = l.left
