-- The invariant of a bus.
use Rattle.std.specs.Prelude.{◌≡◌, ◌<◌, ◌≤◌, [], length, replicate}
use Rattle.bus.specs.Bus.{BusState}

-- Between two events no line holds the beginning of a message, there are eight client indices, and
-- the current turn lasts no longer than the longest packet of the station.
pub record IsInvariant (bus : BusState) : Type 0 where
  pub idle : bus.station.lines ≡ replicate 8 []
  pub client_count : length bus.clients ≡ 8
  pub under_way : 0 < bus.remaining
  pub longest : bus.remaining ≤ 10740
