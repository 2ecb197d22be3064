-- What an entry asks of a decoder: its steps, motion, direction and functions (LocoNet, slot data).
use Rattle.std.specs.Prelude.{ℕ, ◌+◌, ◌*◌, ◌/◌, ◌%◌, ◌==◌, Bool, unwrap_or}
use Rattle.dcc_packet.specs.declared.steps.Steps.{Steps}
use Rattle.dcc_packet.specs.declared.steps.Steps.TheVariants.{S128}
use Rattle.dcc_packet.specs.declared.steps.Motion.{Motion}
use Rattle.dcc_packet.specs.Steps.{steps_of_kind, motion_of}
use Rattle.slot_table.specs.Entry.{Entry}

-- the steps of the entry's type. Every type that an entry may have has its steps.
abbrev pub steps_asked : Entry → Steps
steps_asked e = unwrap_or (steps_of_kind e.kind) S128

abbrev pub motion_asked : Entry → Motion
motion_asked e = motion_of (steps_asked e) e.spd

-- bit 5 of DIRF is 0 for forward (own)
abbrev pub is_forward : Entry → Bool
is_forward e = e.dirf / 32 % 2 == 0

-- bit k is Fk: F0 is bit 4 of DIRF, F1 to F4 are its bits 0 to 3, F5 to F8 are bits 0 to 3 of SND,
-- F9 to F12 are bits 0 to 3 of what OPC_IMM_PACKET set
abbrev pub functions_asked : Entry → ℕ
functions_asked e = e.dirf / 16 % 2 + 2 * (e.dirf % 16) + 32 * (e.snd % 16) + 512 * (e.more % 16)
