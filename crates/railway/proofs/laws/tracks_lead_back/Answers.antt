use Rattle.railway.proofs.Leading.{sound}
use Rattle.railway.proofs.Turning.{exit-back}
use Rattle.railway.proofs.laws.tracks_lead_back.Goals as goal

pub returns : goal.returns
returns c = record { back = λ network end next is leads. exit-back network end next (sound network is).apart leads }
