use Rattle.std.proofs.Common.{ℕ, subst}
use Rattle.std.specs.Prelude.{OnOk}
use Rattle.std.specs.Io.KnownBytes.{Appends}
use Rattle.timeline.specs.Picture.{turn_at, turn_text}
use Rattle.timeline.proofs.drawing.write_turn.Goals as goal

pub returns : goal.returns
unfolding turn_text
returns g c = subst (λ (x : ℕ). OnOk c.write_turn_at.result (Appends (g.O.Write.contents c.args.output.now) (g.O.Write.contents c.write_turn_at.new.output) (turn_at x c.args.turn c.args.bottom))) c.x_of-x.ensures c.write_turn_at.ensures
