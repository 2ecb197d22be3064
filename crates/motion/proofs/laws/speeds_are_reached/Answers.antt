use Rattle.std.proofs.Common.{◌≤◌, subst, sym, ◌∙◌}
use Rattle.motion.specs.Velocity.{velocity}
use Rattle.motion.proofs.Legs.{facing-start, start-after}
use Rattle.motion.proofs.Steps.{after-steady}
use Rattle.motion.proofs.Reaching.{down-above, down-reaches, up-below, up-reaches, facing-speed}
use Rattle.motion.proofs.laws.speeds_are_reached.Goals as goal

pub returns : goal.returns
returns c = record {
  up = λ d r m n h g less near p. start-after d m (velocity d.forward m.speed) n p (facing-start d m g) ∙ up-reaches d r n m.speed h less near;
  down = λ d r m n h g less near p. start-after d m (velocity d.forward m.speed) n p (facing-start d m g) ∙ down-reaches d r n m.speed h less near;
  stays = after-steady;
  below = λ d r m n h g less. let e = facing-speed d m n g in subst (λ (s : _). (m.speed ≤ s) × (s ≤ d.speed)) (sym e) (up-below d r n m.speed h less);
  above = λ d r m n h g less. let e = facing-speed d m n g in subst (λ (s : _). (d.speed ≤ s) × (s ≤ m.speed)) (sym e) (down-above d r n m.speed h less);
}
