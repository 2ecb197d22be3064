use Rattle.std.proofs.Common.{◌≡◌, ◌↔◌, true, List, Bool, false, replicate, sym, ◌∙◌, subst, arith}
use Rattle.std.proofs.lemmas.List.{at_drop_all}
use Rattle.refresh_ring.specs.Places.{slot_count, is_refreshed}
use Rattle.refresh_ring.specs.Calls.{IsLastOn}
use Rattle.refresh_ring.proofs.SlotsAfter.{slots_after, slots_after-last}
use Rattle.refresh_ring.proofs.rings.after_calls.Goals as goal

pub returns : goal.returns
returns g c = λ slot.
    let all : slots_after (replicate slot_count false) c.args.calls.now ≡ g.R.Ring.slots c.loop-slot.ring = sym c.loop-slot.invariant ∙ at_drop_all (slots_after (g.R.Ring.slots c.loop-slot.ring)) c.args.calls.now c.loop-slot.slot-index (omega arith) in
    subst (λ (slots : List Bool). (is_refreshed slots slot ≡ true) ↔ IsLastOn slot c.args.calls.now) all (slots_after-last c.args.calls.now c.requires slot)
