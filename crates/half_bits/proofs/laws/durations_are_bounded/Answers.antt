use Rattle.half_bits.proofs.Durations.{idle, longest, shortest, shortest_unchecked}
use Rattle.half_bits.proofs.laws.durations_are_bounded.Goals as goal

pub returns : goal.returns
returns c = record { shortest = shortest; shortest_unchecked = shortest_unchecked; longest = longest; idle = idle }
