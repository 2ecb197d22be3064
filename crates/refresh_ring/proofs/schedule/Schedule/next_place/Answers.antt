use Rattle.refresh_ring.proofs.Firsts.{next_place-is}
use Rattle.refresh_ring.proofs.schedule.Schedule.next_place.Goals as goal

pub returns-clause-next : goal.returns-clause-next
returns-clause-next g c = rw (← c.self.view_is) (next_place-is _ _ c.next.result c.self.invariant.cursor c.next.ensures)
