-- How much of what happens on a bus is printed.
use Rattle.std.specs.Prelude.{Bool, true, false, if◌then◌else◌}
use Rattle.bus_log.specs.declared.verbosity.Verbosity.{Verbosity}
use Rattle.bus_log.specs.declared.verbosity.Verbosity.TheVariants.{Silent, Normal, Packets}

-- that of the options `--track`, `--quiet` and `--times`, of which the second overrides the others
abbrev pub verbosity_of : (track quiet times : Bool) → Verbosity
verbosity_of track quiet times = if quiet then Silent else if track then Packets times else Normal times

-- whether nothing is printed
abbrev pub is_quiet : Verbosity → Bool
is_quiet Silent = true
is_quiet other = false

-- whether packets are printed
abbrev pub prints_packets : Verbosity → Bool
prints_packets (Packets times) = true
prints_packets other = false

-- whether each line begins with its time
abbrev pub has_times : Verbosity → Bool
has_times Silent = false
has_times (Normal times) = times
has_times (Packets times) = times
