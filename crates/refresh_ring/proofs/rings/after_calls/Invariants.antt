use Rattle.std.proofs.Common.{◌≡◌, drop, false, replicate}
use Rattle.refresh_ring.specs.Places.{slot_count}
use Rattle.refresh_ring.proofs.SlotsAfter.{slots_after}
use Rattle.refresh_ring.proofs.rings.after_calls.Given as goal

-- the other calls make of the ring what all make of an empty one
abbrev pub invariant-loop-slot : goal.invariant-loop-slot
invariant-loop-slot g l = slots_after (g.R.Ring.slots l.ring) (drop l.slot-index l.calls) ≡ slots_after (replicate slot_count false) l.calls
