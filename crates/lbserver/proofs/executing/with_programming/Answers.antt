use Rattle.std.proofs.Common.{subst}
use Rattle.std.proofs.lemmas.Result.{on_ok_weaker}
use Rattle.lbserver.specs.Programmers.{IsProgrammingOf}
use Rattle.lbserver.proofs.executing.with_programming.Goals as goal

pub returns-clause-serves : goal.returns-clause-serves
returns-clause-serves g c =
    let programming = c.in_ok-programming.programming in
    on_ok_weaker c.with_server.result
    (λ served. (programming, subst (λ file. IsProgrammingOf file programming) c.take.ensures.value c.in_ok-programming.ensures.programming, served))
    c.with_server.ensures.serves
