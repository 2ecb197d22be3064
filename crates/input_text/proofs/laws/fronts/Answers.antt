use Rattle.input_text.proofs.Fronts.{front_before, front_behind}
use Rattle.input_text.proofs.laws.fronts.Goals as goal

pub returns-clause-before : goal.returns-clause-before
returns-clause-before c = front_before

pub returns-clause-behind : goal.returns-clause-behind
returns-clause-behind c = front_behind
