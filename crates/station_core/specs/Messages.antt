-- The messages that calls carry out on a line.
use Rattle.std.specs.Prelude.{ℕ, ◌==◌, List, [], ◌∷◌, ◌++◌, if◌then◌else◌}
use Rattle.std.specs.Option.{option_to_list}
use Rattle.ln_frame.specs.Stream.{message_at_end}
use Rattle.station_core.specs.ThrottleView.{ThrottleView, bytes_of, known_after}
use Rattle.station_core.specs.declared.call.Call.{Call}
use Rattle.station_core.specs.declared.call.Call.TheVariants.{Byte, Turn}

-- the bytes that these calls bring on a line
abbrev pub bytes_on : ℕ → List Call → List ℕ
bytes_on line [] = []
bytes_on line (Turn ∷ calls) = bytes_on line calls
bytes_on line (Byte other byte ∷ calls) = if other == line then byte ∷ bytes_on line calls else bytes_on line calls

-- the message that a call carries out on a line: a byte on this line, where it ends one
abbrev pub carried_out_by : ℕ → ThrottleView → Call → List (List ℕ)
carried_out_by line known Turn = []
carried_out_by line known (Byte other byte) =
    if other == line then option_to_list (message_at_end (bytes_of known other ++ byte ∷ [])) else []

-- the messages that these calls carry out on a line, each at the call that brings its last byte
abbrev pub carried_out_on : ℕ → ThrottleView → List Call → List (List ℕ)
carried_out_on line known [] = []
carried_out_on line known (call ∷ calls) = carried_out_by line known call ++ carried_out_on line (known_after known call) calls
