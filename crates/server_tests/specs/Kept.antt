-- What the logs of a run hold, as contracts see it.
use Rattle.std.specs.Prelude.{List, [], ◌∷◌, None, map, option_map}
use Rattle.bus_server.specs.Observations.{Observation, Observed, Overflowed, Skipped}
use Rattle.bus.specs.declared.outcome.Outcome.TheVariants as outcome
use Rattle.bus_server.specs.TransportEvents.{Polled, TransportEvent, Accepted, Received, PeerClosed, Written, ServerClosed, ReadBlocked, WriteBlocked, NonePending, Refused}
use Rattle.server_tests.specs.declared.test_bus_server.kept.Entry.{Entry}
use Rattle.server_tests.specs.declared.test_bus_server.kept.Entry.TheVariants as entry
use Rattle.server_tests.specs.declared.test_bus_server.kept.Seen.{Seen}
use Rattle.server_tests.specs.declared.test_bus_server.kept.Seen.TheVariants as seen

-- one entry is one event, but a read one for each byte
abbrev pub events_of_entry : Entry → List TransportEvent
events_of_entry (entry.Polled longest) = Polled longest ∷ []
events_of_entry (entry.Accepted client) = Accepted client ∷ []
events_of_entry (entry.Received client bytes) = map (λ byte. Received client byte) bytes.items
events_of_entry (entry.PeerClosed client) = PeerClosed client ∷ []
events_of_entry (entry.Written client bytes) = Written client bytes.items ∷ []
events_of_entry (entry.ServerClosed client) = ServerClosed client ∷ []
events_of_entry (entry.ReadBlocked client) = ReadBlocked client ∷ []
events_of_entry (entry.WriteBlocked client) = WriteBlocked client ∷ []
events_of_entry entry.NonePending = NonePending ∷ []
events_of_entry entry.Refused = Refused ∷ []

abbrev pub observation_of : Seen → Observation
observation_of seen.Nothing = Observed outcome.Nothing [] None
observation_of (seen.Connected client) = Observed (outcome.Connected client) [] None
observation_of (seen.Disconnected client) = Observed (outcome.Disconnected client) [] None
observation_of (seen.Rejected client reason) = Observed (outcome.Rejected client reason) [] None
observation_of (seen.Sent client message reply) = Observed (outcome.Sent client message.items (option_map (λ m. m.items) reply)) [] None
observation_of (seen.Reported message) = Observed (outcome.Reported message.items) [] None
observation_of (seen.TurnsRequested client turns) = Observed (outcome.TurnsRequested client turns) [] None
observation_of (seen.StatesRequested client things) = Observed (outcome.StatesRequested client things) [] None
observation_of (seen.Placed client answer) = Observed (outcome.Placed client answer) [] None
observation_of (seen.DeviceAnswered client answer) = Observed (outcome.DeviceAnswered client answer) [] None
observation_of (seen.TurnBegan packet) = Observed (outcome.TurnBegan (option_map (λ p. p.items) packet)) [] None
observation_of (seen.Overflowed client) = Overflowed client
observation_of (seen.Skipped micros) = Skipped micros
