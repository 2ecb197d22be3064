use Rattle.railway.specs.Railway.{laid_in}
use Rattle.railway.proofs.Lying.{asked-at-once, lies-back, lies-other, run_through-turnouts}
use Rattle.railway.proofs.Pieces.{piece-run_through}
use Rattle.railway.proofs.laws.turnouts_take_their_time.Goals as goal

pub returns-clause-turnouts : goal.returns-clause-turnouts
returns-clause-turnouts c railway micros power nodes = run_through-turnouts power nodes micros (laid_in nodes railway)

pub returns-clause-other : goal.returns-clause-other
returns-clause-other c state micros h = lies-other state micros h

pub returns-clause-back : goal.returns-clause-back
returns-clause-back c state part micros h less = lies-back state part micros h less

pub returns-clause-at_once : goal.returns-clause-at_once
returns-clause-at_once c state thrown h none = asked-at-once state thrown h none

pub returns-clause-pieces : goal.returns-clause-pieces
returns-clause-pieces c railway micros power nodes goes piece = piece-run_through power nodes micros (laid_in nodes railway) goes piece
