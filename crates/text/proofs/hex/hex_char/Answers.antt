use Rattle.std.proofs.Common.{arith}
use Rattle.std.proofs.lemmas.Grind.{common_steps}
use Rattle.text.proofs.hex.hex_char.Goals as goal

pub returns-clause-digit : goal.returns-clause-digit
returns-clause-digit c = grind (arith, common_steps)

pub returns-clause-ascii : goal.returns-clause-ascii
returns-clause-ascii c = grind (arith, common_steps)
