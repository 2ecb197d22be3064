use Rattle.std.proofs.Common.{◌<◌, ◌+◌, ◌∙◌, ℕ, ap, arith, length}
use Rattle.bus_log.proofs.Changed.{stands_more}
use Rattle.bus_log.proofs.printer.decoder_states.Goals as goal

pub loop-i-preserved : goal.loop-i-preserved
loop-i-preserved c =
    let below : c.loop-i.i < length c.args.world.now.nodes = omega (arith, c.loop-i-test.true, c.nodes-i-end.ensures.count) in
    record {
      items = c.push.ensures.items ∙ stands_more c.args.world.now.nodes c.loop-i.i c.loop-i.decoder_states.items c.decoder_state.result below c.loop-i.invariant.items c.decoder_state.ensures.decoder_state;
      count = c.push.ensures.len ∙ ap (λ (n : ℕ). n + 1) c.loop-i.invariant.count;
    }
