-- The parts in which a client is read.
use Rattle.std.specs.Prelude.{ℕ, ◌≡◌, Bool, true, false, [], ◌∷◌}
use Rattle.bus.specs.Log.{Extends}
use Rattle.bus_server.specs.ServerState.{Applies, Handled, ServerState, observations_in}
use Rattle.bus_server.specs.Snapshots.{Snapshot}
use Rattle.bus_server.specs.Rounds.{IsReadLater, IsReadOn, is_read}
use Rattle.bus_server.specs.TransportEvents.{TransportEvent}

-- after an event of the transport a client is read on, or later
abbrev pub IsReadNext : (client : ℕ) → (goes_on : Bool) → TransportEvent → (old new : ServerState) → Type 0
IsReadNext client true log old new = IsReadOn client old new
IsReadNext client false log old new = IsReadLater client log new

-- one event of the transport was logged, a read of a client, and applied
abbrev pub ReadsOne : (client : ℕ) → (goes_on : Bool) → (old new : Snapshot) → Type 0
ReadsOne client goes_on old new =
    (one : Handled) × Extends old.log new.log (one.log ∷ []) × Extends old.observed new.observed (observations_in (one ∷ []))
    × (is_read client one.log ≡ true) × Applies one.log one.applied old.state new.state
    × IsReadNext client goes_on one.log old.state new.state
