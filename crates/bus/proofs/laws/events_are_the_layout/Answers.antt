use Rattle.bus.proofs.Runs.{all_kept, all_played, heard_more, layout-append}
use Rattle.bus.proofs.Steps.{plays}
use Rattle.bus.proofs.laws.events_are_the_layout.Goals as goal

pub returns-clause-kept : goal.returns-clause-kept
returns-clause-kept c bus events h legal = all_kept c.turns_are_bounded.ensures events bus h legal

pub returns-clause-one : goal.returns-clause-one
returns-clause-one c bus event h legal = plays c.station_moves.ensures bus event h legal

pub returns-clause-station : goal.returns-clause-station
returns-clause-station c bus events h legal = all_played c.turns_are_bounded.ensures c.station_moves.ensures events bus h legal

pub returns-clause-cut : goal.returns-clause-cut
returns-clause-cut c bus events later = layout-append events later bus

pub returns-clause-more : goal.returns-clause-more
returns-clause-more c bus events later old mid new h legal =
    heard_more c.events_add_up.ensures.more bus events later old mid new (all_played c.turns_are_bounded.ensures c.station_moves.ensures events bus h legal)
