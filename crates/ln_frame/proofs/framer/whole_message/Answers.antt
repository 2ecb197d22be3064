use Rattle.ln_frame.proofs.Wholes.{ends, leaves, fronts, none}
use Rattle.ln_frame.proofs.framer.whole_message.Goals as goal

pub returns : goal.returns
returns c = record { ends = ends; leaves = leaves; fronts = fronts; none = none }
