-- The faults of a filter that does not run on its input, except those of its arguments, and their
-- exit statuses.
use Rattle.std.specs.Prelude.{ℕ}
use Rattle.filter.specs.declared.report.StartFault.{StartFault}
use Rattle.filter.specs.declared.report.StartFault.TheVariants.{Unopened, Output, NoMemory}

-- the file, output, memory: as the statuses of the other programs
abbrev pub status_of : StartFault → ℕ
status_of (Unopened file why) = 2
status_of Output = 4
status_of NoMemory = 6
