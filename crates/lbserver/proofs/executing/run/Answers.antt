use Rattle.std.proofs.Common.{inl, inr, refl, ◌∙◌}
use Rattle.std.proofs.lemmas.Result.{on_ok_weaker}
use Rattle.command_line.specs.Requests.{is_request}
use Rattle.lbserver.specs.Execution.{names_file, names_part}
use Rattle.lbserver.proofs.Ends.{no_order, of_named, of_faulted, of_opened, opened, unwritten}
use Rattle.lbserver.proofs.Orders.{has_pace}
use Rattle.lbserver.proofs.executing.run.Goals as goal

pub with_roster-requires-clause-pace : goal.with_roster-requires-clause-pace
with_roster-requires-clause-pace g c =
    let order = c.in-Ok.order in
    has_pace _ order.turns order.rate c.in-Ok.ensures.order.at_rate

pub returns-in-Ok-clause-serves : goal.returns-in-Ok-clause-serves
returns-in-Ok-clause-serves g c = on_ok_weaker c.with_roster.result (λ served. inl (c.in-Ok.order, served.0, c.in-Ok.ensures.order, served.1, served.2)) c.with_roster.ensures.serves

pub returns-in-Ok-clause-unread : goal.returns-in-Ok-clause-unread
returns-in-Ok-clause-unread g c =
    of_named _ (names_part c.in-Ok.order) c.with_roster.new.output.failed c.with_roster.new.logs.faults.failed c.with_roster.result (λ named. (c.in-Ok.order, c.in-Ok.ensures.order, named)) c.with_roster.ensures.end

pub returns-in-Ok-clause-stopped : goal.returns-in-Ok-clause-stopped
returns-in-Ok-clause-stopped g c =
    of_faulted _ (names_part c.in-Ok.order) c.with_roster.new.output.failed c.with_roster.new.logs.faults.failed c.with_roster.result
    (λ faulted. inl (c.in-Ok.order, c.in-Ok.ensures.order, faulted)) c.with_roster.ensures.end

pub returns-in-Err-clause-refuses : goal.returns-in-Err-clause-refuses
returns-in-Err-clause-refuses g c =
    no_order _ c.in-Err.fault (is_request c.in-Err.fault) c.answer.result refl c.in-Err.ensures.fault c.answer.ensures.failed (λ is. (c.answer.ensures.kept is).0)

pub returns-in-Err-clause-stopped : goal.returns-in-Err-clause-stopped
returns-in-Err-clause-stopped g c =
    unwritten _ c.in-Err.fault (is_request c.in-Err.fault) c.answer.result refl c.answer.ensures.failed (λ is. (c.answer.ensures.kept is).0)
    (λ asks failed. inr (c.in-Err.ensures.requested asks, c.answer.ensures.output ∙ failed))

pub returns-in-Ok-clause-unopened : goal.returns-in-Ok-clause-unopened
returns-in-Ok-clause-unopened g c = of_opened _ (names_file c.in-Ok.order) c.with_roster.result (λ named. (c.in-Ok.order, c.in-Ok.ensures.order, named)) c.with_roster.ensures.opened

pub returns-in-Err-clause-unopened : goal.returns-in-Err-clause-unopened
returns-in-Err-clause-unopened g c = opened _ c.in-Err.fault (is_request c.in-Err.fault) c.answer.result refl c.answer.ensures.failed (λ is. (c.answer.ensures.kept is).0)
