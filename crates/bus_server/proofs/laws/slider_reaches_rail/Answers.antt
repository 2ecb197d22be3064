use Rattle.bus_server.proofs.Courses.{Laws}
use Rattle.bus_server.proofs.SliderToRail.{rounds_reach_rail, slider_reaches_rail}
use Rattle.bus_server.specs.SliderToRail.{SliderReachesRail}
use Rattle.bus_server.proofs.laws.slider_reaches_rail.Goals as goal

pub returns : goal.returns
returns c =
    let laws : Laws = record { kept = c.events_are_the_layout.ensures.kept; more = c.events_are_the_layout.ensures.more; none = c.events_add_up.ensures.none } in
    let reaches : SliderReachesRail = slider_reaches_rail laws c.headline.ensures.goes_on c.headline.ensures.so_far c.trains_run_as_driven.ensures in
    record { events = reaches; rounds = rounds_reach_rail reaches }
