-- The effect on a decoder of the half-bits that it hears, by the effect of an instruction on its
-- state under its settings.
use Rattle.std.specs.Prelude.{ℕ, ◌≡◌, List, fold}
use Rattle.dcc_packet.specs.declared.instr.Instr.{Instr}
use Rattle.decoder_rx.specs.Table.{after, given}
use Rattle.decoder_node.specs.Decoder.{Decoder}
use Rattle.decoder_node.specs.Heard.{obeying, after_receipt, ObeysWaves}

-- after one half, and after many
abbrev pub heard : {Settings State : Type 0} (does : Settings → State → Instr → State) → Decoder Settings State → ℕ → Decoder Settings State
heard does decoder half = record {
  settings = decoder.settings;
  state = after_receipt (obeying (does decoder.settings)) decoder.state (given decoder.receiver half);
  receiver = after decoder.receiver half;
}

abbrev pub heard_all : {Settings State : Type 0} (does : Settings → State → Instr → State) → Decoder Settings State → List ℕ → Decoder Settings State
heard_all does = fold (heard does)

-- The effect of hearing these halves: that of hearing each in turn, under settings that stay; and
-- if they are waves of packets, the effect of those.
pub record Receives {Settings State : Type 0} (does : Settings → State → Instr → State) (old : Decoder Settings State) (halves : List ℕ) (new : Decoder Settings State) : Type 0 where
  pub in_turn : new ≡ heard_all does old halves
  pub kept : new.settings ≡ old.settings
  pub waves : ObeysWaves (obeying (does old.settings)) old.state old.receiver halves new.state new.receiver
