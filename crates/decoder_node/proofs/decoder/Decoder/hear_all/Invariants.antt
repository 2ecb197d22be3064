use Rattle.std.proofs.Common.{◌≡◌}
use Rattle.std.proofs.iter.Next.{Ran}
use Rattle.std.specs.Iterator.{EndsFrom, items_left}
use Rattle.decoder_node.specs.Hearing.{heard_all}
use Rattle.decoder_node.proofs.decoder.Decoder.hear_all.Given as goal

abbrev pub invariant-loop-first : goal.invariant-loop-first
invariant-loop-first g l = Ran g.I.Iterator.can_next (EndsFrom g.I.Iterator.remaining) (items_left g.I.Iterator.remaining) g.I.Iterator.next_gives (λ xs. l.self ≡ heard_all g.Settings.Obeys.does l.initial.self xs) l.initial.halves l.halves

abbrev pub decreases-loop-first : goal.decreases-loop-first
decreases-loop-first g l = items_left g.I.Iterator.remaining l.halves
