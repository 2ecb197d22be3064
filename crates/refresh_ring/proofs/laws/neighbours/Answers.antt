use Rattle.refresh_ring.proofs.Apart.{picked_tells}
use Rattle.refresh_ring.proofs.laws.neighbours.Goals as goal

pub returns : goal.returns
returns c = record { apart = λ addresses s. (picked_tells addresses s).apart; last = λ addresses s. (picked_tells addresses s).last }
