use Rattle.refresh_ring.proofs.Idling.{idle_by_cause, picked-next, idle_is_nothing}
use Rattle.refresh_ring.proofs.laws.idle_has_a_cause.Goals as goal

pub returns : goal.returns
returns c = record { cause = idle_by_cause; next = picked-next; nothing = idle_is_nothing }
