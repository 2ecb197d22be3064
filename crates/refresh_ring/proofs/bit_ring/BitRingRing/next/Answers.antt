use Rattle.std.proofs.Common.{subst, Some}
use Rattle.refresh_ring.specs.Places.{IsNext}
use Rattle.refresh_ring.proofs.Spread.{next-above, next-around}
use Rattle.refresh_ring.proofs.bit_ring.BitRingRing.next.Goals as goal

pub returns-in-Some : goal.returns-in-Some
returns-in-Some c = subst (λ slots. IsNext slots c.args.cursor (Some c.in-Some.place)) c.self.view_is (next-above c.self.inside.places c.self.invariant c.args.cursor c.in-Some.place c.in-Some.ensures)

pub returns-in-None : goal.returns-in-None
returns-in-None c = subst (λ slots. IsNext slots c.args.cursor c.least_from-in-None.result) c.self.view_is (next-around c.self.inside.places c.self.invariant c.args.cursor c.least_from-in-None.result c.in-None.ensures c.least_from-in-None.ensures)
