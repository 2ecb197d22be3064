use Rattle.railway.proofs.Switching.{moving-exit}
use Rattle.railway.proofs.laws.moving_turnouts_derail.Goals as goal

pub returns : goal.returns
returns c = record { exit = moving-exit }
