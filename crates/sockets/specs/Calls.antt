-- What a call adds to the log of calls, with the bytes that were read or given.
use Rattle.std.specs.Prelude.{ℕ, Bool, true, List, [], ◌∷◌}
use Rattle.bus_server.specs.TransportEvents.{Polled, ServerClosed, TransportEvent, accept_events, read_events, reject_events, write_events}
use Rattle.sockets.specs.declared.call_log.Returned.{Returned}
use Rattle.sockets.specs.declared.call_log.Returned.TheVariants.{Accept, Close, Elapsed, Failed, Read, Reject, Wait, Write}

-- the events of a transport
abbrev pub events_of : Returned → (bytes : List ℕ) → List TransportEvent
events_of (Wait longest) bytes = Polled longest ∷ []
events_of (Accept client is_there) bytes = accept_events client is_there
events_of (Reject is_there) bytes = reject_events is_there
events_of (Read client outcome) bytes = read_events client outcome bytes
events_of (Write client outcome) bytes = write_events client outcome bytes
events_of (Close client) bytes = ServerClosed client ∷ []
events_of other bytes = []

-- the readings of a clock
abbrev pub readings_of : Returned → List ℕ
readings_of (Elapsed micros) = micros ∷ []
readings_of other = []

-- whether a call has failed
abbrev pub failed_after : Returned → (before : Bool) → Bool
failed_after Failed before = true
failed_after other before = before
