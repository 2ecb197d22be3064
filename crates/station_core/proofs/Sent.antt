-- What a turn sends is a packet of the desk.
use Rattle.std.proofs.Common.{◌≡◌, ℕ, List, Option, Some, refl, inl, inr}
use Rattle.refresh_ring.specs.Picked.{picked, turned}
use Rattle.refresh_ring.specs.Scheduled.{Scheduled}
use Rattle.refresh_ring.specs.Sent.{IsDue}
use Rattle.refresh_ring.specs.declared.pick.Pick.{Pick}
use Rattle.refresh_ring.specs.declared.pick.Pick.TheVariants.{Off, StopAll, Idle, Place, Switch}
use Rattle.refresh_ring.specs.declared.pick.Power.{Power}
use Rattle.refresh_ring.specs.declared.pick.Power.TheVariants as power
use Rattle.station_core.specs.Station.{packet_of}
use Rattle.station_core.specs.Slots.{addresses}
use Rattle.station_core.specs.Seen.{Seen, scheduled}
use Rattle.station_core.specs.Sent.{IsRunningPacket, IsPacketOfDesk}
use Rattle.station_core.proofs.Rounds.{on_desk}

abbrev pub Due : Type 0
Due = (addresses : List ℕ) (s : Scheduled) → IsDue s (picked addresses s).answer

abbrev OfDesk : Seen → Option (List ℕ) → Type 0
OfDesk seen packet = (bytes : List ℕ) × (packet ≡ Some bytes) × IsRunningPacket seen bytes

of_pick : (seen : Seen) (pick : Pick) → IsDue (scheduled seen) pick → OfDesk seen (packet_of seen.powered.desk pick)
of_pick seen Off is_due = absurd is_due
of_pick seen StopAll is_due = absurd is_due
of_pick seen Idle is_due = (_, refl, inl refl)
of_pick seen (Place slot kind) is_due = (_, refl, inr (inl (slot, kind, on_desk seen.powered.desk slot is_due, refl)))
of_pick seen (Switch number closed on) is_due = (_, refl, inr (inr (number, closed, on, is_due, refl)))

of_turn : Due → (seen : Seen) (p : Power) → IsPacketOfDesk p seen (packet_of seen.powered.desk (turned p (addresses seen.powered.desk) (scheduled seen)).answer)
of_turn is_due seen power.Off = refl
of_turn is_due seen power.Paused = refl
of_turn is_due seen power.Running = of_pick seen (picked (addresses seen.powered.desk) (scheduled seen)).answer (is_due (addresses seen.powered.desk) (scheduled seen))

pub packets_of_the_desk : Due → (seen : Seen) → IsPacketOfDesk seen.powered.power seen (packet_of seen.powered.desk (turned seen.powered.power (addresses seen.powered.desk) (scheduled seen)).answer)
packets_of_the_desk is_due seen = of_turn is_due seen seen.powered.power
