-- The request of a client's line, in LocoNet over TCP. The protocol leaves open the longest line,
-- the case of the digits, the tab as a blank and the replies to invalid lines: these are rules of
-- this project. So are the words TURNS, NODES, TRAINS, TURNOUTS, CVS, PLACE, MOUNT and FAIL, which other
-- servers pass over.
use Rattle.std.specs.Prelude.{ℕ, Bool, true, false, ◌&&◌, if◌then◌else◌, nat_le, nat_lt, List, [], ◌∷◌, length, take, Option, Some, None, Result, Ok, Err, codes}
use Rattle.std.specs.List.{list_all, before_first, after_first}
use Rattle.std.specs.Option.{is_some}
use Rattle.std.specs.Str.{bytes_eq}
use Rattle.text.specs.Words.{is_blank, words_of}
use Rattle.text.specs.Hex.{pair_of}
use Rattle.ln_frame.specs.Message.{has_form, is_whole}
use Rattle.loconet_tcp.specs.declared.request.Request.{Request}
use Rattle.loconet_tcp.specs.declared.request.Request.TheVariants.{Send, Invalid, Turns, States, Place, Device}
use Rattle.loconet_tcp.specs.declared.request.Things.{Things}
use Rattle.loconet_tcp.specs.declared.request.Things.TheVariants.{Nodes, Trains, Turnouts, Variables}
use Rattle.loconet_tcp.specs.declared.request.DeviceRequest.TheVariants.{Mount, Fail}
use Rattle.loconet_tcp.specs.declared.request.MountError.{MountError}
use Rattle.loconet_tcp.specs.declared.request.MountError.TheVariants.{NoName}
use Rattle.loconet_tcp.specs.declared.request.Failure.{Failure}
use Rattle.loconet_tcp.specs.declared.request.Failure.TheVariants.{Programming, Sensor, Turnout}
use Rattle.loconet_tcp.specs.declared.request.FailError.{FailError}
use Rattle.loconet_tcp.specs.declared.request.FailError.TheVariants.{UnknownFailure, UnknownSensor, UnknownTurnout}
use Rattle.arrayvec.specs.ArrayVec.{ArrayVec}
use Rattle.loconet_tcp.specs.declared.request.Facing.{Facing}
use Rattle.loconet_tcp.specs.declared.request.Facing.TheVariants.{A, B}
use Rattle.loconet_tcp.specs.declared.request.PlaceError.{PlaceError}
use Rattle.loconet_tcp.specs.declared.request.PlaceError.TheVariants as place_error
use Rattle.loconet_tcp.specs.declared.request.Placement.{Placement}
use Rattle.text.specs.Decimal.{decimal_of}
use Rattle.loconet_tcp.specs.declared.request.Reason.TheVariants.{TooLong, NotHex, NoMessage, WrongCheck}

-- a pair of hexadecimal digits
abbrev pub is_pair : List ℕ → Bool
is_pair word = is_some (pair_of word)

unfoldable pub are_pairs : List (List ℕ) → Bool
are_pairs words = list_all is_pair words

abbrev pub led_by : Option ℕ → List ℕ → List ℕ
led_by None bytes = []
led_by (Some byte) bytes = byte ∷ bytes

-- the bytes of the words up to the first that is not a pair
unfoldable pub leading_bytes : List (List ℕ) → List ℕ
leading_bytes [] = []
leading_bytes (word ∷ words) = led_by (pair_of word) (leading_bytes words)

-- the bytes written by words that each are a pair of digits; none if a word is not
unfoldable pub bytes_of : List (List ℕ) → Option (List ℕ)
bytes_of words = if are_pairs words then Some (leading_bytes words) else None

-- requests to send the bytes, if they are a whole message
abbrev pub parse_send : Option (List ℕ) → Request
parse_send None = Invalid NotHex
parse_send (Some bytes) =
    if is_whole bytes then Send bytes else if has_form bytes then Invalid WrongCheck else Invalid NoMessage

-- the text before the first blank of the line, or the whole line, is SEND
abbrev pub is_send : List ℕ → Bool
is_send line = bytes_eq (before_first is_blank line) (codes "SEND")

-- it is TURNS
abbrev pub is_turns : List ℕ → Bool
is_turns line = bytes_eq (before_first is_blank line) (codes "TURNS")

-- what a line asks the states of
abbrev pub things_of : List ℕ → Option Things
things_of line =
    if bytes_eq line (codes "NODES") then Some Nodes else if bytes_eq line (codes "TRAINS") then Some Trains
    else if bytes_eq line (codes "TURNOUTS") then Some Turnouts
    else if bytes_eq line (codes "CVS") then Some Variables else None

abbrev pub ask_states : Option Things → Option Request
ask_states None = None
ask_states (Some things) = Some (States things)

-- it is PLACE
abbrev pub is_place : List ℕ → Bool
is_place line = bytes_eq (before_first is_blank line) (codes "PLACE")

-- the end that a word names
abbrev pub end_named : List ℕ → Result (Option Facing) PlaceError
end_named word =
    if bytes_eq word (codes "a") then Ok (Some A)
    else if bytes_eq word (codes "b") then Ok (Some B) else Err place_error.NoEnd

-- the end that a train is to face by the words after the number: one of the two, or that it faces
abbrev pub facing_of : List (List ℕ) → Result (Option Facing) PlaceError
facing_of [] = Ok None
facing_of (word ∷ []) = end_named word
facing_of (word ∷ other ∷ words) = Err place_error.NoEnd

-- a train, a block, how far the front is from end a, and the end that it faces; of a name 33 bytes
-- count, one more than the longest has
abbrev pub placement_of : (train block : List ℕ) → Option ℕ → Result (Option Facing) PlaceError
    → Result Placement PlaceError
placement_of train block None facing = Err place_error.NoNumber
placement_of train block (Some front) (Err error) = Err error
placement_of train block (Some front) (Ok facing) = Ok (record {
  train = record { items = take 33 train };
  block = record { items = take 33 block };
  front = front;
  facing = facing;
})

-- where the words after PLACE put a train
abbrev pub parse_place : List (List ℕ) → Result Placement PlaceError
parse_place (train ∷ block ∷ front ∷ words) =
    placement_of train block (decimal_of front) (facing_of words)
parse_place other = Err place_error.NoNumber

-- it is MOUNT, or FAIL
abbrev pub is_mount : List ℕ → Bool
is_mount line = bytes_eq (before_first is_blank line) (codes "MOUNT")

abbrev pub is_fail : List ℕ → Bool
is_fail line = bytes_eq (before_first is_blank line) (codes "FAIL")

-- the words after the first; none of a line that is too long
abbrev pub words_within : List ℕ → List (List ℕ)
words_within line = if nat_lt 400 (length line) then [] else words_of (after_first is_blank line)

-- the decoder that a word names, or none
abbrev pub decoder_in : List ℕ → Option (ArrayVec ℕ)
decoder_in word = if bytes_eq word (codes "nothing") then None else Some (record { items = take 33 word })

-- the decoder that the words after MOUNT put on the programming track: there is one word
abbrev pub parse_mount : List (List ℕ) → Result (Option (ArrayVec ℕ)) MountError
parse_mount [] = Err NoName
parse_mount (word ∷ []) = Ok (decoder_in word)
parse_mount (word ∷ other ∷ words) = Err NoName

-- what a word alone lets fail, or that nothing fails
abbrev pub failure_named : List ℕ → Result (Option Failure) FailError
failure_named word =
    if bytes_eq word (codes "programming") then Ok (Some Programming)
    else if bytes_eq word (codes "none") then Ok None else Err UnknownFailure

-- the number of a sensor or a switch, of 16 bits
abbrev pub number_within : Option ℕ → Option ℕ
number_within None = None
number_within (Some number) = if nat_le number 65535 then Some number else None

-- the turnout of the switch that a word writes
abbrev pub turnout_failure : Option ℕ → Result (Option Failure) FailError
turnout_failure None = Err UnknownTurnout
turnout_failure (Some switch) = Ok (Some (Turnout switch))

-- the sensor that a word writes, as occupied or as free
abbrev pub sensor_failure : Option ℕ → (occupied : Bool) → Result (Option Failure) FailError
sensor_failure None occupied = Err UnknownSensor
sensor_failure (Some sensor) occupied = Ok (Some (Sensor sensor occupied))

-- what the sensor of this number reports while it fails: on or off
abbrev pub sensor_failing : (word : List ℕ) → Option ℕ → Result (Option Failure) FailError
sensor_failing word number =
    if bytes_eq word (codes "on") then sensor_failure number true
    else if bytes_eq word (codes "off") then sensor_failure number false else Err UnknownFailure

-- what the words after FAIL let fail: programming, none, turnout and a number, or sensor, a number
-- and on or off
abbrev pub parse_fail : List (List ℕ) → Result (Option Failure) FailError
parse_fail [] = Err UnknownFailure
parse_fail (word ∷ []) = failure_named word
parse_fail (word ∷ number ∷ []) =
    if bytes_eq word (codes "turnout") then turnout_failure (number_within (decimal_of number))
    else Err UnknownFailure
parse_fail (word ∷ number ∷ level ∷ []) =
    if bytes_eq word (codes "sensor") then
    sensor_failing level (number_within (decimal_of number)) else Err UnknownFailure
parse_fail (word ∷ number ∷ level ∷ other ∷ words) = Err UnknownFailure

-- a number of turns that can be requested
abbrev pub in_range : Option ℕ → Option ℕ
in_range None = None
in_range (Some count) = if nat_le 1 count && nat_le count 10000 then Some count else None

-- the number of turns that a text writes in decimal digits
abbrev pub turns_of : List ℕ → Option ℕ
turns_of text = in_range (decimal_of text)

-- A line that begins with the word SEND requests to send the bytes of the words after it, if the
-- line has at most 400 characters. One that begins with TURNS and a blank requests the number of
-- turns that the rest of the line writes (own). One that begins with PLACE requests to put a train
-- where the words after it say, if the line has at most 400 characters (own). One that begins with
-- MOUNT or FAIL arranges the devices beside the station (own). The lines NODES, TRAINS, TURNOUTS and
-- CVS ask how these stand (own). Every other line makes no request.
abbrev pub request_of : List ℕ → Option Request
request_of line =
    if is_send line then Some (if nat_lt 400 (length line) then Invalid TooLong
    else parse_send (bytes_of (words_of (after_first is_blank line))))
    else if is_turns line then Some (Turns (turns_of (after_first is_blank line)))
    else if is_place line then Some (Place (if nat_lt 400 (length line) then Err place_error.TooLong
    else parse_place (words_of (after_first is_blank line))))
    else if is_mount line then Some (Device (Mount (parse_mount (words_within line))))
    else if is_fail line then Some (Device (Fail (parse_fail (words_within line))))
    else ask_states (things_of line)
