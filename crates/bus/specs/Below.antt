-- The laws of the layers below on which the bus depends: the turns of a station, and messages sent
-- and received whole.
use Rattle.std.specs.Prelude.{ℕ, ◌≡◌, ◌≤◌, List, [], ◌∷◌, ◌++◌, Some, None}
use Rattle.ln_frame.specs.Message.{IsWhole}
use Rattle.ln_frame.specs.Stream.{message_at_end}
use Rattle.ln_frame.specs.Unfinished.{unfinished_of}
use Rattle.loconet_tcp.specs.declared.request.Request.TheVariants.{Send}
use Rattle.loconet_tcp.specs.Reading.{request_of_byte}
use Rattle.station_core.specs.declared.call.Call.TheVariants.{Byte, Turn}
use Rattle.station_core.specs.Station.{after_byte, after_turn, packet_of_turn}
use Rattle.station_core.specs.Runs.{state_of}
use Rattle.station_core.specs.Seen.{Seen}
use Rattle.bus.specs.Bus.{duration}

-- the shortest and the longest turn of a station, in microseconds
pub record TurnsAreBounded : Type 0 where
  pub shortest : (seen : Seen) → 5796 ≤ duration (packet_of_turn seen)
  pub longest : (seen : Seen) → duration (packet_of_turn seen) ≤ 10740

-- the effect of a byte and a turn on a station; a whole message is one message, and none before its
-- last byte; a client requests to send whole messages only
pub record StationMoves : Type 0 where
  pub turn : (seen : Seen) → state_of seen Turn ≡ after_turn seen
  pub byte : (seen : Seen) (line byte : ℕ) → state_of seen (Byte line byte) ≡ after_byte seen line byte
  pub ends : (message : List ℕ) → IsWhole message → message_at_end message ≡ Some message
  pub leaves : (message : List ℕ) → IsWhole message → unfinished_of message ≡ []
  pub fronts : (front rest : List ℕ) (byte : ℕ) → IsWhole (front ++ byte ∷ rest) → unfinished_of front ≡ front
  pub none : (front rest : List ℕ) (byte next : ℕ) → IsWhole (front ++ byte ∷ next ∷ rest) → message_at_end (front ++ byte ∷ []) ≡ None
  pub requested : (kept : List ℕ) (byte : ℕ) (message : List ℕ) → request_of_byte kept byte ≡ Some (Send message) → IsWhole message
