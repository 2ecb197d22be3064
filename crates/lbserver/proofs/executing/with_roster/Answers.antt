use Rattle.std.proofs.Common.{List, subst, ap, ◌∙◌}
use Rattle.std.proofs.lemmas.Result.{on_ok_weaker}
use Rattle.console.specs.Files.{IsRosterOf}
use Rattle.roster.specs.Entry.{Entry}
use Rattle.lbserver.specs.Execution.{ServesPlan, entries_in}
use Rattle.lbserver.proofs.Orders.{entries_copied}
use Rattle.lbserver.proofs.executing.with_roster.Goals as goal

pub returns-clause-serves : goal.returns-clause-serves
returns-clause-serves g c =
    let roster = c.in_ok-roster.roster in
    on_ok_weaker c.with_plan.result
    (λ served. (
      roster,
      subst (λ file. IsRosterOf file roster) c.take.ensures.value c.in_ok-roster.ensures.roster,
      subst (λ (entries : List Entry). ServesPlan c.args.order.now entries c.with_plan.new.logs) (entries_copied c.as_ref.result ∙ ap entries_in c.as_ref.ensures.value) served,
    ))
    c.with_plan.ensures.serves
