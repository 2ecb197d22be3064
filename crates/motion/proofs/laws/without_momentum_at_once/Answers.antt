use Rattle.motion.proofs.Legs.{turns-none}
use Rattle.motion.proofs.Reaching.{at-once, goes-at-once}
use Rattle.motion.proofs.laws.without_momentum_at_once.Goals as goal

pub returns : goal.returns
returns c = record {
  velocity = λ d m n h p. at-once d n m h p;
  way = λ d m n h. goes-at-once d n m h;
  direction = λ d m n h. turns-none d m n h;
}
