use Rattle.ln_frame.proofs.Rest.{at_end-rest, unfinished-rest, unfinished-once}
use Rattle.ln_frame.proofs.framer.left_is_enough.Goals as goal

pub returns : goal.returns
returns c = record { message = at_end-rest; unfinished = unfinished-rest; once = unfinished-once }
