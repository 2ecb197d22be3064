-- The programming track beside a bus, and the decoders that clients put on it.
use Rattle.std.specs.Prelude.{ℕ, true, false, if◌then◌else◌, List, [], Option, Some, None, Result, Ok, Err, option_map}
use Rattle.std.specs.Option.{option_or}
use Rattle.arrayvec.specs.ArrayString.{ArrayString}
use Rattle.arrayvec.specs.ArrayVec.{ArrayVec}
use Rattle.cv_memory.specs.declared.cv_change.CvChange.{CvChange}
use Rattle.loconet_tcp.specs.declared.request.DeviceAnswer.{DeviceAnswer}
use Rattle.loconet_tcp.specs.declared.request.DeviceAnswer.TheVariants as answer
use Rattle.loconet_tcp.specs.declared.request.DeviceRequest.{DeviceRequest}
use Rattle.loconet_tcp.specs.declared.request.DeviceRequest.TheVariants.{Mount, Fail}
use Rattle.loconet_tcp.specs.declared.request.FailError.{FailError}
use Rattle.loconet_tcp.specs.declared.request.FailError.TheVariants as fail_error
use Rattle.loconet_tcp.specs.declared.request.Failure.{Failure}
use Rattle.loconet_tcp.specs.declared.request.Failure.TheVariants.{Programming, Sensor, Turnout}
use Rattle.loconet_tcp.specs.declared.request.MountError.{MountError}
use Rattle.loconet_tcp.specs.declared.request.MountError.TheVariants as mount_error
use Rattle.programmer.specs.declared.reply.TaskReply.{TaskReply}
use Rattle.programmer.specs.Machine.{reply_of}
use Rattle.programmer.specs.Replies.{reply_bytes}
use Rattle.programmer.specs.Requests.{request_in}
use Rattle.programming_track.specs.declared.packet_end.NamedChange.{NamedChange}
use Rattle.programming_track.specs.declared.packet_end.PacketEnd.{PacketEnd}
use Rattle.programming_track.specs.Bench.{BenchState, bench_elapsed, bench_requested, dismounted, has_decoder, mounted_as, name_on, with_failing}
use Rattle.programming_track.specs.Time.{ends_within}
use Rattle.railway.specs.Feedback.{feedback_reply}
use Rattle.railway.specs.Railway.{RailwayState}
use Rattle.bus.specs.declared.outcome.Outcome.{Outcome}
use Rattle.bus.specs.declared.outcome.Outcome.TheVariants.{DeviceAnswered, DeviceRequested, Sent}
use Rattle.bus_server.specs.Failures.{sensor_answer, turnout_answer}

-- the programming track, if there is one, after so many microseconds
abbrev pub programming_elapsed : Option BenchState → (micros : ℕ) → Option BenchState
programming_elapsed programming micros = option_map (bench_elapsed micros) programming

-- the packets that end in them
abbrev pub ends_elapsed : Option BenchState → (micros : ℕ) → List PacketEnd
ends_elapsed None micros = []
ends_elapsed (Some bench) micros = ends_within micros bench.track

-- the decoder on it, if one stands there
abbrev pub decoder_on : Option BenchState → Option ArrayString
decoder_on None = None
decoder_on (Some bench) = name_on bench

-- a change of a decoder with its name, if there are both
abbrev pub named : (decoder : Option ArrayString) → Option CvChange → Option NamedChange
named None change = None
named (Some name) None = None
named (Some name) (Some change) = Some (record { name = name; change = change })

-- Another decoder stands on the track, or none, unless the line does not say which.
abbrev pub mounted : Result (Option (ArrayVec ℕ)) MountError → BenchState → BenchState
mounted (Err error) bench = bench
mounted (Ok None) bench = dismounted bench
mounted (Ok (Some name)) bench = mounted_as name.items bench

-- Acknowledgments fail from now on, or nothing does, if the line says so.
abbrev pub failing : Result (Option Failure) FailError → BenchState → BenchState
failing (Err error) bench = bench
failing (Ok None) bench = with_failing false bench
failing (Ok (Some Programming)) bench = with_failing true bench
failing (Ok (Some (Sensor sensor occupied))) bench = bench
failing (Ok (Some (Turnout switch))) bench = bench

abbrev pub arranged : DeviceRequest → BenchState → BenchState
arranged (Mount decoder) bench = mounted decoder bench
arranged (Fail failure) bench = failing failure bench

-- the answer to a client: it is done, or why it is not
abbrev pub mount_answer : Option BenchState → Result (Option (ArrayVec ℕ)) MountError
    → Result (Unit {0}) MountError
mount_answer None decoder = Err mount_error.NoTrack
mount_answer (Some bench) (Err error) = Err error
mount_answer (Some bench) (Ok None) = Ok tt
mount_answer (Some bench) (Ok (Some name)) =
    if has_decoder bench name.items then Ok tt else Err mount_error.UnknownDecoder

abbrev pub programming_answer : Option BenchState → Result (Unit {0}) FailError
programming_answer None = Err fail_error.NoTrack
programming_answer (Some bench) = Ok tt

abbrev pub fail_answer : Option BenchState → Option RailwayState
    → Result (Option Failure) FailError → Result (Unit {0}) FailError
fail_answer programming railway (Err error) = Err error
fail_answer programming railway (Ok None) = Ok tt
fail_answer programming railway (Ok (Some Programming)) = programming_answer programming
fail_answer programming railway (Ok (Some (Sensor sensor occupied))) = sensor_answer railway sensor
fail_answer programming railway (Ok (Some (Turnout switch))) = turnout_answer railway switch

abbrev pub device_answer : Option BenchState → Option RailwayState → DeviceRequest → DeviceAnswer
device_answer programming railway (Mount decoder) = answer.Mount (mount_answer programming decoder)
device_answer programming railway (Fail failure) =
    answer.Fail (fail_answer programming railway failure)

-- The programming track after an outcome: a message may be for slot 124, and a client may arrange the
-- track.
abbrev pub programming_requested : Outcome → Option BenchState → Option BenchState
programming_requested (Sent client message reply) programming =
    option_map (λ bench. bench_requested bench message) programming
programming_requested (DeviceRequested client request) programming =
    option_map (arranged request) programming
programming_requested other programming = programming

-- the reply to a message: the programmer's, if it is for slot 124, else that of the station
abbrev pub reply_or : Option TaskReply → (station : Option (List ℕ)) → Option (List ℕ)
reply_or None station = station
reply_or (Some own) station = Some (reply_bytes own)

abbrev pub reply_by : Option BenchState → (message : List ℕ) → (station : Option (List ℕ))
    → Option (List ℕ)
reply_by None message station = station
reply_by (Some bench) message station =
    reply_or (reply_of bench.track.programmer (request_in message)) station

-- the reply of a turnout with feedback, if a message requests its state
abbrev pub railway_reply : Option RailwayState → (message : List ℕ) → Option (List ℕ)
railway_reply None message = None
railway_reply (Some railway) message = feedback_reply railway.network.turnouts message

-- the reply of a device beside the station, else that of the station
abbrev pub device_reply : Option BenchState → Option RailwayState → (message : List ℕ)
    → (station : Option (List ℕ)) → Option (List ℕ)
device_reply programming railway message station =
    option_or (railway_reply railway message) (reply_by programming message station)

-- an outcome with that reply, or with the answer where a client arranges the devices
abbrev pub programmed : Option BenchState → Option RailwayState → Outcome → Outcome
programmed programming railway (Sent client message reply) =
    Sent client message (device_reply programming railway message reply)
programmed programming railway (DeviceRequested client request) =
    DeviceAnswered client (device_answer programming railway request)
programmed programming railway other = other
