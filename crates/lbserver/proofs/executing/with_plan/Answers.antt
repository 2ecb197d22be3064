use Rattle.std.proofs.Common.{◌∙◌, ap, subst, sym}
use Rattle.std.proofs.lemmas.Result.{on_ok_weaker}
use Rattle.roster.specs.Decoders.{entries_of, names_of}
use Rattle.lbserver.specs.Execution.{IsRailwayOf}
use Rattle.lbserver.specs.Sharing.{first_unknown}
use Rattle.lbserver.proofs.executing.with_plan.Goals as goal

pub returns-clause-serves : goal.returns-clause-serves
returns-clause-serves g c =
    let railway = c.in_ok-railway.railway in
    on_ok_weaker c.with_programming.result
    (λ served. (
      sym (ap (first_unknown (names_of (entries_of c.args.roster))) c.as_slice.ensures.value) ∙ c.in_ok-check_names.ensures.known,
      railway,
      subst (λ file. IsRailwayOf file (entries_of c.args.roster) railway) c.take.ensures.value c.in_ok-railway.ensures.railway,
      served,
    ))
    c.with_programming.ensures.serves
