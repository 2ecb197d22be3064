use Rattle.refresh_ring.proofs.Apart.{picked_tells, picked_due}
use Rattle.refresh_ring.proofs.laws.picks_are_due.Goals as goal

pub returns : goal.returns
returns c = record { is_due = picked_due; slots = λ addresses s. (picked_tells addresses s).slots }
