use Rattle.std.proofs.Common.{◌≡◌, drop}
use Rattle.station_c.specs.Plan.{level_in}
use Rattle.station_c.proofs.plan.level_in.Given as goal

-- the reports so far say nothing of the sensor
abbrev pub invariant-loop-report : goal.invariant-loop-report
invariant-loop-report l = level_in (drop l.report-index l.reports) l.sensor ≡ level_in l.reports l.sensor
