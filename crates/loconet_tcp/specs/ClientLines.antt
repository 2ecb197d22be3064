-- The lines sent to a client, in LocoNet over TCP. The words after SENT ERROR, VERSION and ERROR,
-- and the lines that begin with TURNS, PLACE, MOUNT, FAIL, NODE, TRAIN, TURNOUT or CV, are this
-- project's own.
use Rattle.std.specs.Prelude.{ℕ, List, [], ◌∷◌, ◌++◌, codes, Result, Ok, Err}
use Rattle.std.specs.Fmt.{decimal}
use Rattle.text.specs.Hex.{hex_words}
use Rattle.loconet_tcp.specs.declared.request.DeviceAnswer.{DeviceAnswer}
use Rattle.loconet_tcp.specs.declared.request.DeviceAnswer.TheVariants as device
use Rattle.loconet_tcp.specs.declared.request.MountError.{MountError}
use Rattle.loconet_tcp.specs.declared.request.MountError.TheVariants as mount_error
use Rattle.loconet_tcp.specs.declared.request.FailError.{FailError}
use Rattle.loconet_tcp.specs.declared.request.FailError.TheVariants as fail_error
use Rattle.loconet_tcp.specs.declared.request.Things.{Things}
use Rattle.loconet_tcp.specs.declared.request.Things.TheVariants.{Nodes, Trains, Turnouts, Variables}
use Rattle.loconet_tcp.specs.declared.request.Reason.{Reason}
use Rattle.loconet_tcp.specs.declared.request.PlaceError.{PlaceError}
use Rattle.loconet_tcp.specs.declared.request.PlaceError.TheVariants as place_error
use Rattle.loconet_tcp.specs.declared.request.TurnsError.{TurnsError}
use Rattle.loconet_tcp.specs.declared.request.TurnsError.TheVariants.{RealTime, NoNumber}
use Rattle.loconet_tcp.specs.declared.request.Reason.TheVariants.{TooLong, NotHex, NoMessage, WrongCheck}

-- a carriage return and a line feed
abbrev pub line_end : List ℕ
line_end = 13 ∷ 10 ∷ []

-- a message was seen on LocoNet
abbrev pub receive_text : List ℕ → List ℕ
receive_text message = codes "RECEIVE" ++ hex_words message ++ line_end

-- the message requested by the client was sent
abbrev pub sent_ok_text : List ℕ
sent_ok_text = codes "SENT OK" ++ line_end

abbrev pub reason_text : Reason → List ℕ
reason_text TooLong = codes "line too long"
reason_text NotHex = codes "no pairs of hexadecimal digits"
reason_text NoMessage = codes "no whole message"
reason_text WrongCheck = codes "wrong check byte"

-- the message was not sent, for this reason
abbrev pub sent_error_text : Reason → List ℕ
sent_error_text reason = codes "SENT ERROR " ++ reason_text reason ++ line_end

abbrev pub turns_error_text : TurnsError → List ℕ
turns_error_text RealTime = codes "real time"
turns_error_text NoNumber = codes "no number from 1 to 10000"

-- the turns requested by the client have passed
abbrev pub turns_ok_text : List ℕ
turns_ok_text = codes "TURNS OK" ++ line_end

-- A request for turns is answered at once only if none follow, with the reason.
abbrev pub turns_text : Result ℕ TurnsError → List ℕ
turns_text (Ok count) = []
turns_text (Err error) = codes "TURNS ERROR " ++ turns_error_text error ++ line_end

abbrev pub place_error_text : PlaceError → List ℕ
place_error_text place_error.NoPlan = codes "no plan"
place_error_text place_error.TooLong = codes "line too long"
place_error_text place_error.NoNumber = codes "no number of millimetres"
place_error_text place_error.NoEnd = codes "no end a or b"
place_error_text place_error.UnknownTrain = codes "no such train"
place_error_text place_error.UnknownBlock = codes "no such block"
place_error_text place_error.OffTrack = codes "the train does not fit there"

-- the train was put where the client requested it, or was not, for this reason
abbrev pub place_text : {Done : Type 0} → Result Done PlaceError → List ℕ
place_text (Ok done) = codes "PLACE OK" ++ line_end
place_text (Err error) = codes "PLACE ERROR " ++ place_error_text error ++ line_end

abbrev pub mount_error_text : MountError → List ℕ
mount_error_text mount_error.NoTrack = codes "no programming track"
mount_error_text mount_error.NoName = codes "no name of a decoder"
mount_error_text mount_error.UnknownDecoder = codes "no such decoder"

-- the decoder, or none, stands on the programming track, or nothing changed, for this reason
abbrev pub mount_text : {Done : Type 0} → Result Done MountError → List ℕ
mount_text (Ok done) = codes "MOUNT OK" ++ line_end
mount_text (Err error) = codes "MOUNT ERROR " ++ mount_error_text error ++ line_end

abbrev pub fail_error_text : FailError → List ℕ
fail_error_text fail_error.UnknownFailure = codes "no such failure"
fail_error_text fail_error.NoTrack = codes "no programming track"
fail_error_text fail_error.NoPlan = codes "no plan"
fail_error_text fail_error.UnknownSensor = codes "no such sensor"
fail_error_text fail_error.UnknownTurnout = codes "no such turnout"

-- what was to fail fails from now on, or nothing does, or nothing changed, for this reason
abbrev pub fail_text : {Done : Type 0} → Result Done FailError → List ℕ
fail_text (Ok done) = codes "FAIL OK" ++ line_end
fail_text (Err error) = codes "FAIL ERROR " ++ fail_error_text error ++ line_end

abbrev pub device_text : DeviceAnswer → List ℕ
device_text (device.Mount answer) = mount_text answer
device_text (device.Fail answer) = fail_text answer

-- a variable of a decoder that differs from the file, as the cvs of a roster list it
abbrev pub change_line : (name : List ℕ) → (number value : ℕ) → List ℕ
change_line name number value =
    codes "CV " ++ name ++ codes " [" ++ decimal number ++ codes ", " ++ decimal value ++ codes "]"

-- how a decoder stands, by its line
abbrev pub node_text : (line : List ℕ) → List ℕ
node_text line = codes "NODE " ++ line ++ line_end

-- how a train, a turnout or a variable stands, by its line
abbrev pub state_text : (line : List ℕ) → List ℕ
state_text line = line ++ line_end

-- the lines of all were sent
abbrev pub states_ok_text : Things → List ℕ
states_ok_text Nodes = codes "NODES OK" ++ line_end
states_ok_text Trains = codes "TRAINS OK" ++ line_end
states_ok_text Turnouts = codes "TURNOUTS OK" ++ line_end
states_ok_text Variables = codes "CVS OK" ++ line_end

-- the name of the server
abbrev pub version_text : List ℕ
version_text = codes "VERSION lbserver station" ++ line_end

-- the maximum number of clients is connected
abbrev pub server_full_text : List ℕ
server_full_text = codes "ERROR no place" ++ line_end
