-- The bytes of a slot and their bits (LocoNet, slot data).
use Rattle.std.specs.Prelude.{ℕ, ◌+◌, ◌*◌, ◌/◌, ◌%◌, ◌==◌, ◌&&◌, ◌||◌, Bool, true, false, if◌then◌else◌, nat_lt, nat_le}
use Rattle.ln_ops.specs.declared.row.State.{State}
use Rattle.ln_ops.specs.declared.row.State.TheVariants.{Free, Common, Idle, InUse}
use Rattle.ln_ops.specs.declared.row.Row.{Row}
use Rattle.ln_ops.specs.Fields.{SlotBytes}

-- bits 5 and 4 of STAT1
abbrev pub state_of : ℕ → State
state_of stat = let n = stat / 16 % 4 in if n == 0 then Free else (if n == 1 then Common else (if n == 2 then Idle else InUse))

abbrev pub state_number : State → ℕ
state_number Free = 0
state_number Common = 1
state_number Idle = 2
state_number InUse = 3

-- a slot that is not free stands for a locomotive
abbrev pub is_held : State → Bool
is_held Free = false
is_held Common = true
is_held Idle = true
is_held InUse = true

-- bits 2 to 0 of STAT1, the decoder type
abbrev pub kind_of : ℕ → ℕ
kind_of stat = stat % 8

-- the types that a slot may have (own): 28, 14 and 128 steps, and 28 and 128 steps with consisting
-- allowed
abbrev pub is_kind : ℕ → Bool
is_kind kind = (kind == 0) || (kind == 2) || (kind == 3) || (kind == 4) || (kind == 7)

-- a STAT1 that a slot may have (own): no consist, bits 6 and 3, and one of those types
abbrev pub is_stat : ℕ → Bool
is_stat stat = nat_lt stat 64 && (stat / 8 % 2 == 0) && is_kind (kind_of stat)

-- the STAT1 of a state and a type
abbrev pub stat_with : State → ℕ → ℕ
stat_with state kind = 16 * state_number state + kind

-- the address that ADR2 and ADR spell
abbrev pub address_with : ℕ → ℕ → ℕ
address_with high low = high * 128 + low

-- the addresses that a locomotive may have (own)
abbrev pub is_address : ℕ → Bool
is_address a = nat_le 1 a && nat_le a 10239

-- the slots that a locomotive may be in (own): 1 to 119
abbrev pub is_slot : ℕ → Bool
is_slot n = nat_le 1 n && nat_le n 119

-- the row of a free slot
abbrev pub free_row : Row
free_row = record { state = Free; kind = 0; address = 0; spd = 0; dirf = 0; snd = 0; more = 0; ss2 = 0; id1 = 0; id2 = 0 }

-- the address of slot data
abbrev pub address_of : SlotBytes → ℕ
address_of f = address_with f.adr2 f.adr
