use Rattle.std.proofs.Common.{arith}
use Rattle.decoder_node.proofs.Outputs.{switched_on, switched_off}
use Rattle.decoder_node.proofs.switch.with_output.Goals as goal

pub returns-then-on : goal.returns-then-on
returns-then-on c = rw c.if-on.true (switched_on c.args.outputs c.args.output (omega arith) c.requires)

pub returns-else-on : goal.returns-else-on
returns-else-on c = rw c.if-on.false (switched_off c.args.outputs c.args.output (omega arith) c.requires)
