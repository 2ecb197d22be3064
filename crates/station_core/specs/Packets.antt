-- The packets of an entry: from the bytes of a slot to what is sent on the track (S-9.2.1).
use Rattle.std.specs.Prelude.{ℕ, ◌≡◌, ◌≤◌, true, ◌/◌, ◌%◌, ◌==◌, Bool, if◌then◌else◌, nat_lt, List}
use Rattle.dcc_packet.specs.declared.address.Address.{Address}
use Rattle.dcc_packet.specs.declared.address.Address.TheVariants.{Short, Long}
use Rattle.dcc_packet.specs.Sent.{speed_bytes, group_one_bytes, group_two_bytes, group_three_bytes, last_switch}
use Rattle.refresh_ring.specs.declared.kind.Kind.{Kind}
use Rattle.refresh_ring.specs.declared.kind.Kind.TheVariants.{Speed, GroupOne, GroupTwo, GroupThree}
use Rattle.refresh_ring.specs.declared.pick.Pick.{Pick}
use Rattle.refresh_ring.specs.declared.pick.Pick.TheVariants.{Place, Switch}
use Rattle.slot_table.specs.Desk.{Desk}
use Rattle.slot_table.specs.Entry.{Entry, IsSlot, entry_of}
use Rattle.ln_ops.specs.Slot.{is_held}
use Rattle.station_core.specs.Entries.{steps_asked, motion_asked, is_forward, functions_asked}
use Rattle.slot_table.specs.Reading.{row_of}

-- an address of a slot is sent as a short one up to 127, and as a long one from 128 on (own)
abbrev pub address_sent : ℕ → Address
address_sent a = if nat_lt a 128 then Short a else Long a

-- bit 4 of DIRF is F0
abbrev pub is_lit : Entry → Bool
is_lit e = e.dirf / 16 % 2 == 1

-- the packets of an entry, for its address
abbrev pub speed_packet : ℕ → Entry → List ℕ
speed_packet a e = speed_bytes (address_sent a) (steps_asked e) (motion_asked e) (is_forward e) (is_lit e)

abbrev pub group_one_packet : ℕ → Entry → List ℕ
group_one_packet a e = group_one_bytes (address_sent a) (functions_asked e)

abbrev pub group_two_packet : ℕ → Entry → List ℕ
group_two_packet a e = group_two_bytes (address_sent a) (functions_asked e)

abbrev pub group_three_packet : ℕ → Entry → List ℕ
group_three_packet a e = group_three_bytes (address_sent a) (functions_asked e)

-- the packet of each kind
abbrev pub entry_packet : Kind → ℕ → Entry → List ℕ
entry_packet Speed a e = speed_packet a e
entry_packet GroupOne a e = group_one_packet a e
entry_packet GroupTwo a e = group_two_packet a e
entry_packet GroupThree a e = group_three_packet a e

-- the packet of a place, for what is in the slot
abbrev pub place_packet : Desk → ℕ → Kind → List ℕ
place_packet desk slot kind = let row = row_of desk slot in entry_packet kind row.address (entry_of row)

-- what can be sent: a slot that is not free, a switch with a valid number
abbrev pub IsPickOf : Desk → Pick → Type 0
IsPickOf desk (Place slot kind) = IsSlot slot × (is_held (row_of desk slot).state ≡ true)
IsPickOf desk (Switch number closed on) = number ≤ last_switch
IsPickOf desk pick = Unit {0}
