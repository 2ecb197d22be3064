use Rattle.half_bits.specs.Halves.{halves_of}
use Rattle.track_signal.proofs.Rails.{HasDrawn}
use Rattle.track_signal.proofs.drawing.draw_packet.Given as goal

abbrev pub invariant-loop-half : goal.invariant-loop-half
invariant-loop-half g l = HasDrawn l.start (halves_of l.packet) l.time l.is_high l.half-iterator (g.O.Write.contents l.fn.output) (g.O.Write.contents l.output)
