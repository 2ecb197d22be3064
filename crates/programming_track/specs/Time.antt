-- A programming track as time passes: a packet takes as long as its bits.
use Rattle.std.specs.Prelude.{ℕ, zero, suc, ◌+◌, ◌*◌, ◌&&◌, nat_le, Bool, true, if◌then◌else◌, List, [], ◌∷◌, ◌++◌, Option, Some, None, sum_by}
use Rattle.half_bits.specs.Halves.{duration_of}
use Rattle.service_mode.specs.declared.packet.ServicePacket.{ServicePacket}
use Rattle.service_mode.specs.Spelling.{bytes_of, is_legal_packet}
use Rattle.programmer.specs.declared.task_result.TaskResult.{TaskResult}
use Rattle.programmer.specs.declared.task_state.TaskState.{TaskState}
use Rattle.programmer.specs.Machine.{packet_of, after_packet, result_after}
use Rattle.programmer.specs.Requests.{is_legal_result}
use Rattle.programming_track.specs.declared.packet_end.PacketEnd.{PacketEnd}
use Rattle.programming_track.specs.declared.programming_track.ProgrammingTrack.{ProgrammingTrack}
use Rattle.programming_track.specs.Tasks.{change_on, load_of, decoder_after}

-- S-9.2.3: at least 20 ones before a packet, which on the main track has 14; a one takes 116 microseconds
abbrev pub micros_of : ServicePacket → ℕ
micros_of packet = duration_of (bytes_of packet) + 6 * 116

-- how long packets take
abbrev pub time_of : List ServicePacket → ℕ
time_of packets = sum_by micros_of packets

-- the packet under way ends
abbrev pub ended_by : ProgrammingTrack → TaskState → ProgrammingTrack
ended_by s state = record {
  programmer = after_packet s.programmer (load_of s.fails s.decoder (packet_of state));
  decoder = decoder_after s.decoder (packet_of state);
  fails = s.fails;
  elapsed = 0;
}

abbrev pub end_by : ProgrammingTrack → TaskState → PacketEnd
end_by s state = record {
  packet = packet_of state;
  result = result_after s.programmer.under_way (load_of s.fails s.decoder (packet_of state));
  change = change_on s.decoder (packet_of state);
}

-- its bytes can be made, and the message of its result
abbrev pub is_legal_some : Option TaskResult → Bool
is_legal_some None = true
is_legal_some (Some ended) = is_legal_result ended

abbrev pub is_legal_end : PacketEnd → Bool
is_legal_end one = is_legal_packet one.packet && is_legal_some one.result

-- one microsecond
abbrev pub ticked : ProgrammingTrack → Option TaskState → ProgrammingTrack
ticked s None = s
ticked s (Some state) =
    if nat_le (micros_of (packet_of state)) (s.elapsed + 1) then ended_by s state else
    record { programmer = s.programmer; decoder = s.decoder; fails = s.fails; elapsed = s.elapsed + 1 }

abbrev pub tick : ProgrammingTrack → ProgrammingTrack
tick s = ticked s s.programmer.under_way

-- the packet that ends in it, if one does
abbrev pub ends_by : ProgrammingTrack → Option TaskState → List PacketEnd
ends_by s None = []
ends_by s (Some state) =
    if nat_le (micros_of (packet_of state)) (s.elapsed + 1) then end_by s state ∷ [] else []

abbrev pub ends_in_tick : ProgrammingTrack → List PacketEnd
ends_in_tick s = ends_by s s.programmer.under_way

-- so many microseconds, one after another
abbrev pub elapsed_by : (micros : ℕ) → ProgrammingTrack → ProgrammingTrack
elapsed_by zero s = s
elapsed_by (suc micros) s = elapsed_by micros (tick s)

-- the packets that end in them
abbrev pub ends_within : (micros : ℕ) → ProgrammingTrack → List PacketEnd
ends_within zero s = []
ends_within (suc micros) s = ends_in_tick s ++ ends_within micros (tick s)
