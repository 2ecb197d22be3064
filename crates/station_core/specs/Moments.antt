-- The moments of a list of calls, before the first one and after each, and a full refresh cycle of
-- a slot. They are counted by what throttles can know.
use Rattle.std.specs.Prelude.{ℕ, ◌≡◌, ◌+◌, ◌*◌, ◌≤◌, ◌||◌, Bool, true, List, [], ◌∷◌, length}
use Rattle.std.specs.List.{filter}
use Rattle.slot_table.specs.Reading.{all_slots}
use Rattle.dcc_packet.specs.Kinds.{kinds}
use Rattle.refresh_ring.specs.declared.pick.Power.TheVariants.{Running}
use Rattle.station_core.specs.ThrottleView.{ThrottleView, known_after}
use Rattle.station_core.specs.Powered.{PoweredDesk}
use Rattle.station_core.specs.Refreshed.{is_refreshed}
use Rattle.station_core.specs.declared.call.Call.{Call}
use Rattle.station_core.specs.declared.call.Call.TheVariants.{Byte, Turn}

-- it holds before the first call and after each
abbrev pub AtEveryMoment : (PoweredDesk → Type 0) → ThrottleView → List Call → Type 0
AtEveryMoment P known [] = P known.powered
AtEveryMoment P known (call ∷ calls) = P known.powered × AtEveryMoment P (known_after known call) calls

-- whether the slot is refreshed at some moment
abbrev pub ever_refreshed : ThrottleView → List Call → ℕ → Bool
ever_refreshed known [] slot = is_refreshed known.powered.desk slot
ever_refreshed known (call ∷ calls) slot = is_refreshed known.powered.desk slot || ever_refreshed (known_after known call) calls slot

-- how many slots are refreshed at some moment
abbrev pub slots_refreshed : ThrottleView → List Call → ℕ
slots_refreshed known calls = length (filter (ever_refreshed known calls) all_slots)

abbrev pub turns_of : Call → ℕ
turns_of (Byte line byte) = 0
turns_of Turn = 1

abbrev pub turns_in : List Call → ℕ
turns_in [] = 0
turns_in (call ∷ calls) = turns_of call + turns_in calls

-- power runs and the slot is refreshed
pub record IsLive (slot : ℕ) (powered : PoweredDesk) : Type 0 where
  pub running : powered.power ≡ Running
  pub refreshed : is_refreshed powered.desk slot ≡ true

-- A full refresh cycle of a slot: power runs, the slot is refreshed, and of turns there are four
-- for each kind of packet of each slot that is refreshed at some moment.
pub record IsFullCycle (slot : ℕ) (known : ThrottleView) (calls : List Call) : Type 0 where
  pub live : AtEveryMoment (IsLive slot) known calls
  pub enough : 4 * kinds * slots_refreshed known calls ≤ turns_in calls
