use Rattle.ln_frame.proofs.Checks.{sealed-whole}
use Rattle.ln_frame.proofs.msg.sealed_is_whole.Goals as goal

pub returns : goal.returns
returns c = λ body bytes form. sealed-whole body 0 bytes form
