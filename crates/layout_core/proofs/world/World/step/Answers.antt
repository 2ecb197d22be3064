use Rattle.std.proofs.Common.{sym, subst}
use Rattle.layout_core.specs.Served.{IsSendableAnswer}
use Rattle.layout_core.proofs.world.World.step.Goals as goal

pub returns-in-Byte : goal.returns-in-Byte
returns-in-Byte c = rw c.in-Byte.is (record { station = c.byte.ensures.station; answer = c.byte.ensures.answer; nodes = c.byte.ensures.nodes; same = c.byte.ensures.same; sendable = c.byte.ensures.sendable })

pub returns-in-Turn : goal.returns-in-Turn
returns-in-Turn c = rw c.in-Turn.is (record { station = c.turn.ensures.station; answer = c.turn.ensures.answer; nodes = c.turn.ensures.nodes; same = c.turn.ensures.same; sendable = c.turn.ensures.sendable })

pub returns-in-Noise : goal.returns-in-Noise
returns-in-Noise c = rw c.in-Noise.is (record { station = c.noise.ensures.station; answer = c.noise.ensures.answer; nodes = c.noise.ensures.nodes; same = c.noise.ensures.same; sendable = subst IsSendableAnswer (sym c.noise.ensures.answer) tt })
