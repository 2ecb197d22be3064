use Rattle.std.proofs.Common.{ap, ◌∙◌, ◌-◌, slice_set}
use Rattle.refresh_ring.proofs.Spread.{set-spread, set-slots}
use Rattle.refresh_ring.proofs.bit_ring.BitRingRing.set.Goals as goal

pub invariant_of-self : goal.invariant_of-self
invariant_of-self c = set-spread c.self.inside.places c.set_slot.new.self c.args.slot c.args.on c.requires c.set_slot.ensures.own c.set_slot.ensures.others c.self.invariant

pub returns : goal.returns
returns c =
    set-slots c.self.inside.places c.set_slot.new.self c.args.slot c.args.on c.requires c.set_slot.ensures.own c.set_slot.ensures.others
    ∙ ap (λ slots. slice_set slots (c.args.slot - 1) c.args.on) c.self.view_is
