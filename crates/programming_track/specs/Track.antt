-- A programming track between packets, and what a message does.
use Rattle.std.specs.Prelude.{ℕ, Bool, if◌then◌else◌, is_some, List, Option}
use Rattle.cv_memory.specs.Hearing.{CvState}
use Rattle.cv_memory.specs.History.{unheard}
use Rattle.programmer.specs.declared.task_result.TaskResult.{TaskResult}
use Rattle.programmer.specs.declared.task_state.TaskState.{TaskState}
use Rattle.programmer.specs.Machine.{ProgrammerState, after_request}
use Rattle.programmer.specs.Requests.{request_in}
use Rattle.programming_track.specs.declared.programming_track.ProgrammingTrack.{ProgrammingTrack}

-- a packet begins
abbrev pub at_packet_start : ProgrammerState → (fails : Bool) → Option CvState → ProgrammingTrack
at_packet_start programmer fails decoder =
    record { programmer = programmer; decoder = decoder; fails = fails; elapsed = 0 }

abbrev pub waiting : Option TaskState → TaskResult → (fails : Bool) → Option CvState → ProgrammingTrack
waiting under_way last fails decoder = at_packet_start (record { under_way = under_way; last = last }) fails decoder

-- a decoder that is put on the track
abbrev pub restarted : CvState → CvState
restarted d = unheard d.values d.filed

-- After a message. If no task is under way then, neither is a packet.
abbrev pub requested : ProgrammingTrack → List ℕ → ProgrammingTrack
requested s message =
    let programmer = after_request s.programmer (request_in message) in
    record {
      programmer = programmer;
      decoder = s.decoder;
      fails = s.fails;
      elapsed = if is_some programmer.under_way then s.elapsed else 0;
    }
