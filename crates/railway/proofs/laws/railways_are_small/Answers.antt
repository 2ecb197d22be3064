use Rattle.std.proofs.lemmas.Bool.{and_parts}
use Rattle.std.specs.List.{list_all}
use Rattle.std.specs.Prelude.{IsTrue}
use Rattle.railway.specs.Network.{is_sound}
use Rattle.railway.specs.Railway.{RailwayState, is_railway, is_train}
use Rattle.railway.proofs.Leading.{Small, small, sound}
use Rattle.railway.proofs.laws.railways_are_small.Goals as goal

of : (railway : RailwayState) → IsTrue (is_railway railway) → Small railway.network
of railway h = small railway.network (sound railway.network (and_parts (is_sound railway.network) (list_all (is_train railway.network) railway.trains) h).0).few

pub returns : goal.returns
returns c = record { blocks = λ railway h. (of railway h).blocks; turnouts = λ railway h. (of railway h).turnouts }
