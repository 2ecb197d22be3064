-- A task packet by packet, on a track with a decoder or none.
use Rattle.std.specs.Prelude.{ℕ, zero, suc, Bool, false, if◌then◌else◌, List, [], ◌∷◌, Option, Some, None}
use Rattle.service_mode.specs.declared.packet.ServicePacket.{ServicePacket}
use Rattle.cv_memory.specs.declared.cv_change.CvChange.{CvChange}
use Rattle.cv_memory.specs.Changes.{change_by}
use Rattle.cv_memory.specs.Hearing.{CvState, acknowledges, heard}
use Rattle.programmer.specs.declared.load.Load.{Load}
use Rattle.programmer.specs.declared.load.Load.TheVariants.{Empty, Decoder}
use Rattle.programmer.specs.declared.task_result.TaskResult.{TaskResult}
use Rattle.programmer.specs.declared.task_state.TaskState.{TaskState}
use Rattle.programmer.specs.declared.task_state.Next.{Next}
use Rattle.programmer.specs.declared.task_state.Next.TheVariants.{Continued, Finished}
use Rattle.programmer.specs.Machine.{packet_of, next_of}

-- the pulse of an acknowledgment, unless these fail
abbrev pub drawn : (fails acknowledged : Bool) → Bool
drawn fails acknowledged = if fails then false else acknowledged

-- what is drawn while a packet is sent
abbrev pub load_of : (fails : Bool) → Option CvState → ServicePacket → Load
load_of fails None packet = Empty
load_of fails (Some decoder) packet = Decoder (drawn fails (acknowledges decoder (Some packet)))

-- the decoder after it
abbrev pub decoder_after : Option CvState → ServicePacket → Option CvState
decoder_after None packet = None
decoder_after (Some decoder) packet = Some (heard decoder (Some packet))

-- what it changes of the decoder's variables
abbrev pub change_on : Option CvState → ServicePacket → Option CvChange
change_on None packet = None
change_on (Some decoder) packet = change_by decoder (Some packet)

-- a change before others, if there is one
abbrev pub before_changes : Option CvChange → List CvChange → List CvChange
before_changes None changes = changes
before_changes (Some one) changes = one ∷ changes

-- the result of a task, the packets that were sent, what they changed, and the decoder after them
pub record TaskRun : Type 0 where
  pub result : TaskResult
  pub sent : List ServicePacket
  pub changes : List CvChange
  pub decoder : Option CvState

abbrev pub run_behind : ServicePacket → Option CvChange → Option TaskRun → Option TaskRun
run_behind packet change None = None
run_behind packet change (Some run) = Some (record {
  result = run.result;
  sent = packet ∷ run.sent;
  changes = before_changes change run.changes;
  decoder = run.decoder;
})

abbrev pub run_from : Next → (TaskState → Option TaskRun) → Option CvState → Option TaskRun
run_from (Continued state) rest decoder = rest state
run_from (Finished ended) rest decoder = Some (record { result = ended; sent = []; changes = []; decoder = decoder })

-- the rest of a task, if it ends within so many packets
abbrev pub run_of : (packets : ℕ) → TaskState → (fails : Bool) → Option CvState → Option TaskRun
run_of zero state fails decoder = None
run_of (suc packets) state fails decoder =
    run_behind (packet_of state) (change_on decoder (packet_of state))
    (run_from (next_of state (load_of fails decoder (packet_of state)))
    (λ next. run_of packets next fails (decoder_after decoder (packet_of state)))
    (decoder_after decoder (packet_of state)))
