use Rattle.std.proofs.Common.{length, ◌∙◌, ap, subst, sym, List, ℕ}
use Rattle.dcc_packet.specs.Wave.{IsWave}
use Rattle.half_bits.proofs.Numbers.{length-halves_of, wave}
use Rattle.half_bits.proofs.halves.Goals as goal

pub returns-clause-wave : goal.returns-clause-wave
returns-clause-wave c = let P : List ℕ → Type 0 = λ hs. IsWave c.args.packet.now hs in subst P (sym c.new.ensures.items) (wave c.args.packet.now)

pub returns-clause-length : goal.returns-clause-length
returns-clause-length c = ap length c.new.ensures.items ∙ length-halves_of c.args.packet.now
