use Rattle.std.proofs.Common.{List, ℕ, Some, ap}
use Rattle.station_core.specs.Answer.{more_reply}
use Rattle.station_core.specs.Immediate.{more_asked, with_more}
use Rattle.station_core.proofs.Carrying.{read-back, whole-carrying}
use Rattle.station_core.proofs.meaning.packets_are_carried.Goals as goal

pub returns : goal.returns
returns c = record {
  whole = whole-carrying c.sealed_is_whole.ensures;
  read = read-back;
  after = λ repeats bytes desk can. ap (λ (xs : List ℕ). with_more desk (more_asked desk xs)) (read-back repeats bytes can);
  answer = λ repeats bytes powered waiting can. ap (λ (xs : List ℕ). Some (more_reply (more_asked powered.desk xs))) (read-back repeats bytes can);
}
