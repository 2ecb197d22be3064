-- The invariant of every bus.
use Rattle.bus.specs.declared.bus.Bus.{Bus}
use Rattle.bus.specs.Invariant.{IsInvariant}
use Rattle.bus.specs.State.{bus_state}

pub kept_of : (bus : Bus) → IsInvariant (bus_state bus)
kept_of bus = record { idle = bus.idle; client_count = bus.client_count; under_way = bus.under_way; longest = bus.longest }
