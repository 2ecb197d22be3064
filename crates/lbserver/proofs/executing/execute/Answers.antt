use Rattle.std.proofs.Common.{inl, sym, ◌∙◌}
use Rattle.lbserver.proofs.Ends.{done_or_lost, not_stopped, of_file}
use Rattle.lbserver.proofs.executing.execute.Goals as goal

pub returns-in-Ok-clause-unread : goal.returns-in-Ok-clause-unread
returns-in-Ok-clause-unread g c = done_or_lost c.run.new.output.failed c.end_status.result c.end_status.ensures.whole c.end_status.ensures.lost

pub returns-in-Ok-clause-stopped : goal.returns-in-Ok-clause-stopped
returns-in-Ok-clause-stopped g c = not_stopped c.run.new.output.failed c.end_status.result c.end_status.ensures.whole c.end_status.ensures.lost

pub returns-in-Err-clause-unread : goal.returns-in-Err-clause-unread
returns-in-Err-clause-unread g c = λ read. c.in-Err.ensures.unread (of_file c.report.result c.in-Err.fault c.report.ensures.status read)

pub returns-in-Ok-clause-unopened : goal.returns-in-Ok-clause-unopened
returns-in-Ok-clause-unopened g c = λ two. done_or_lost c.run.new.output.failed c.end_status.result c.end_status.ensures.whole c.end_status.ensures.lost (inl two)

pub returns-in-Err-clause-unopened : goal.returns-in-Err-clause-unopened
returns-in-Err-clause-unopened g c = λ two. c.in-Err.ensures.unopened (sym c.report.ensures.status ∙ two)
