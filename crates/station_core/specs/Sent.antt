-- Packets of the desk: what a turn may send.
use Rattle.std.specs.Prelude.{ℕ, ◌≡◌, ◌⊎◌, Bool, true, List, Option, Some, None}
use Rattle.dcc_packet.specs.Sent.{idle_bytes, stop_all_bytes, accessory_bytes}
use Rattle.refresh_ring.specs.Sent.{to_send}
use Rattle.refresh_ring.specs.declared.kind.Kind.{Kind}
use Rattle.refresh_ring.specs.declared.pick.Pick.TheVariants.{Switch}
use Rattle.refresh_ring.specs.declared.pick.Power.{Power}
use Rattle.refresh_ring.specs.declared.pick.Power.TheVariants.{Off, Running, Paused}
use Rattle.std.specs.Prelude.{Contains}
use Rattle.station_core.specs.Packets.{place_packet}
use Rattle.station_core.specs.Refreshed.{is_refreshed}
use Rattle.station_core.specs.Seen.{Seen}

-- a packet of a refreshed slot, made of what is in the slot at that moment
abbrev pub IsOfSlot : Seen → List ℕ → Type 0
IsOfSlot seen packet = (slot : ℕ) × (kind : Kind) × (is_refreshed seen.powered.desk slot ≡ true) × (packet ≡ place_packet seen.powered.desk slot kind)

-- the packet of a switch request that waits
abbrev pub IsOfSwitch : Seen → List ℕ → Type 0
IsOfSwitch seen packet = (number : ℕ) × (closed : Bool) × (on : Bool) × Contains (to_send seen.jobs) (Switch number closed on) × (packet ≡ accessory_bytes number closed on)

-- while power runs: idle, or one of those
abbrev pub IsRunningPacket : Seen → List ℕ → Type 0
IsRunningPacket seen packet = (packet ≡ idle_bytes) ⊎ (IsOfSlot seen packet ⊎ IsOfSwitch seen packet)

-- what a turn sends with this power: nothing exactly while off, the broadcast stop while paused
abbrev pub IsPacketOfDesk : Power → Seen → Option (List ℕ) → Type 0
IsPacketOfDesk Off seen packet = packet ≡ None
IsPacketOfDesk Paused seen packet = packet ≡ Some stop_all_bytes
IsPacketOfDesk Running seen packet = (bytes : List ℕ) × (packet ≡ Some bytes) × IsRunningPacket seen bytes
