use Rattle.std.proofs.Common.{ap, ◌∙◌}
use Rattle.refresh_ring.specs.Places.{is_refreshed}
use Rattle.refresh_ring.specs.Words.{is_in}
use Rattle.refresh_ring.proofs.Spread.{refreshed-is}
use Rattle.refresh_ring.proofs.bit_ring.BitRingRing.has.Goals as goal

pub returns : goal.returns
returns c =
    c.has.ensures
    ∙ ap (is_in c.self.inside.places) c.from.ensures
    ∙ refreshed-is c.self.inside.places c.args.slot c.requires
    ∙ ap (λ slots. is_refreshed slots c.args.slot) c.self.view_is
