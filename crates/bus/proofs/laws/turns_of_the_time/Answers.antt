use Rattle.bus.proofs.Passing.{all_passed}
use Rattle.bus.proofs.laws.turns_of_the_time.Goals as goal

pub returns : goal.returns
returns c bus events h legal = all_passed c.turns_are_bounded.ensures c.events_are_the_layout.ensures.kept events bus h legal
