use Rattle.bus.specs.Layout.{layout_events}
use Rattle.bus.proofs.InTime.{runs_in_time}
use Rattle.bus.proofs.OnTime.{heard_so_far, runs_on_in_time}
use Rattle.bus.proofs.laws.headline.Goals as goal

pub returns-clause-headline : goal.returns-clause-headline
returns-clause-headline c start events old new desk heard = c.headline.ensures.headline start.station (layout_events start events) old new desk heard

pub returns-clause-in_time : goal.returns-clause-in_time
returns-clause-in_time c start events old new h legal desk heard =
    runs_in_time c.turns_are_bounded.ensures c.events_are_the_layout.ensures.cut c.events_are_the_layout.ensures.kept c.turns_of_the_time.ensures start events old new h legal
    (c.headline.ensures.headline start.station (layout_events start events) old new desk heard)

pub returns-clause-goes_on : goal.returns-clause-goes_on
returns-clause-goes_on c start events old new h legal desk heard =
    runs_on_in_time c.turns_are_bounded.ensures c.events_are_the_layout.ensures.cut c.events_are_the_layout.ensures.kept c.turns_of_the_time.ensures c.desk_of_messages.ensures c.events_are_the_layout.ensures.station start events old new h legal
    (c.headline.ensures.goes_on start.station (layout_events start events) old new desk heard)

pub returns-clause-so_far : goal.returns-clause-so_far
returns-clause-so_far c = heard_so_far c.events_are_the_layout.ensures.cut
