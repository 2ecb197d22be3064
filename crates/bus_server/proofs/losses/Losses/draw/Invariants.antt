use Rattle.std.proofs.Common.{◌≡◌, ℕ}
use Rattle.std.specs.Prelude.{if◌then◌else◌, ◌&&◌, nat_lt}
use Rattle.std.specs.Int.{bit_at}
use Rattle.bus_server.specs.Generator.{generator_after, is_missed, share_at, word_at}
use Rattle.bus_server.proofs.losses.Losses.draw.Given as goal

abbrev pub invariant-loop-node : goal.invariant-loop-node
invariant-loop-node l = record {
  shares : l.self.shares ≡ l.initial.self.shares;
  generator : l.self.generator ≡ generator_after l.node l.initial.self.generator;
  drawn : (node : ℕ) → bit_at l.missed node ≡ (if nat_lt node l.node && is_missed (share_at l.initial.self.shares.items node) (word_at node l.initial.self.generator) then 1 else 0);
}
