-- What may be written to a field.
use Rattle.std.specs.Prelude.{◌<◌}
use Rattle.slot_table.specs.declared.field.Field.{Field}
use Rattle.slot_table.specs.declared.field.Field.TheVariants.{Speed, More}

-- SPD below 128 and F9 to F12 below 16; of DIRF, SND and STAT1 anything
abbrev pub IsValue : Field → Type 0
IsValue (Speed spd) = spd < 128
IsValue (More more) = more < 16
IsValue _ = Unit {0}
