use Rattle.refresh_ring.proofs.Round.{turns_left-falls, turns_left-least, turns_left-most}
use Rattle.refresh_ring.proofs.laws.four_turns.Goals as goal

pub returns : goal.returns
returns c = record { falls = turns_left-falls; least = turns_left-least; most = turns_left-most }
