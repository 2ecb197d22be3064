use Rattle.ln_frame.proofs.Overlaps.{never_overlap}
use Rattle.ln_frame.proofs.framer.never_overlap.Goals as goal

pub returns : goal.returns
returns c = never_overlap
