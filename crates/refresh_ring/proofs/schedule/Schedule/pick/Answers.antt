use Rattle.refresh_ring.proofs.Apart.{picked_due}
use Rattle.refresh_ring.proofs.schedule.Schedule.pick.Goals as goal

pub returns-in-Running-clause-is_due : goal.returns-in-Running-clause-is_due
returns-in-Running-clause-is_due g c = λ running. rw (c.pick_running.ensures.answer) (picked_due _ _)
