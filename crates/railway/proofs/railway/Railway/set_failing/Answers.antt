use Rattle.std.proofs.Common.{◌≡◌, true, subst, sym}
use Rattle.railway.specs.Network.{Network}
use Rattle.railway.specs.Railway.{RailwayState, is_railway}
use Rattle.railway.proofs.Faulty.{failing-railway}
use Rattle.railway.proofs.railway.Railway.set_failing.Goals as goal

pub invariant_of-self : goal.invariant_of-self
invariant_of-self c =
    let old : RailwayState = record { network = c.self.inside.track; trains = c.self.inside.trains.items; failing = c.self.inside.failing } in
    subst (λ (n : Network). is_railway (record old { network = n }) ≡ true) (sym c.set_failing.ensures) (failing-railway old c.args.switch c.self.invariant)
