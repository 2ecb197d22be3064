-- How a task runs in time.
use Rattle.std.specs.Prelude.{◌≡◌, ℕ, ◌<◌, List, [], ◌∷◌, Option, Some, None, map}
use Rattle.service_mode.specs.declared.packet.ServicePacket.{ServicePacket}
use Rattle.cv_memory.specs.declared.cv_change.CvChange.{CvChange}
use Rattle.programmer.specs.declared.task_result.TaskResult.{TaskResult}
use Rattle.programming_track.specs.declared.packet_end.PacketEnd.{PacketEnd}
use Rattle.programming_track.specs.declared.programming_track.ProgrammingTrack.{ProgrammingTrack}
use Rattle.programming_track.specs.Tasks.{TaskRun, before_changes}
use Rattle.programming_track.specs.Time.{elapsed_by, ends_within, time_of}
use Rattle.programming_track.specs.Track.{waiting}

abbrev pub packets_in : List PacketEnd → List ServicePacket
packets_in ends = map (λ one. one.packet) ends

abbrev pub before_results : Option TaskResult → List TaskResult → List TaskResult
before_results None results = results
before_results (Some ended) results = ended ∷ results

-- the results of tasks that ended
abbrev pub results_in : List PacketEnd → List TaskResult
results_in [] = []
results_in (one ∷ ends) = before_results one.result (results_in ends)

-- what packets changed of the decoder's variables
abbrev pub changes_in : List PacketEnd → List CvChange
changes_in [] = []
changes_in (one ∷ ends) = before_changes one.change (changes_in ends)

-- A track sends the packets of a run, in exactly their time, and they change what the run says. The
-- task ends with the last of them, and not before.
pub record Completes (s : ProgrammingTrack) (run : TaskRun) : Type 0 where
  pub track : elapsed_by (time_of run.sent) s ≡ waiting None run.result s.fails run.decoder
  pub packets : packets_in (ends_within (time_of run.sent) s) ≡ run.sent
  pub changes : changes_in (ends_within (time_of run.sent) s) ≡ run.changes
  pub results : results_in (ends_within (time_of run.sent) s) ≡ run.result ∷ []
  pub before : (k : ℕ) → k < time_of run.sent → results_in (ends_within k s) ≡ []
