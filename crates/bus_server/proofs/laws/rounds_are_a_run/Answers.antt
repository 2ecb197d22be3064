use Rattle.bus_server.proofs.Courses.{Laws}
use Rattle.bus_server.proofs.WholeRuns.{rounds_are_a_run}
use Rattle.bus_server.proofs.laws.rounds_are_a_run.Goals as goal

pub returns : goal.returns
returns c =
    let laws : Laws = record { kept = c.events_are_the_layout.ensures.kept; more = c.events_are_the_layout.ensures.more; none = c.events_add_up.ensures.none } in
    rounds_are_a_run laws c.headline.ensures.in_time
