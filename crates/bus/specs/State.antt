-- A bus, as contracts see it, without its decoders.
use Rattle.bus.specs.declared.bus.Bus.{Bus}
use Rattle.bus.specs.Bus.{BusState}

abbrev pub bus_state : Bus → BusState
bus_state bus = record { station = bus.world.station; clients = bus.clients; remaining = bus.remaining; options = bus.options }
