use Rattle.bus_server.proofs.KeepingUp.{stays_connected}
use Rattle.bus_server.proofs.Sizes.{Limits}
use Rattle.bus_server.proofs.laws.stays_connected.Goals as goal

pub returns : goal.returns
returns c =
    let laws : Limits = record {
      lines = λ kept byte message sends. c.received_lines_are_short.ensures message (c.requested_message_is_whole.ensures kept byte message sends);
      few = λ railway is. record { blocks = c.railways_are_small.ensures.blocks railway is; turnouts = c.railways_are_small.ensures.turnouts railway is };
      blocks = c.railways_are_kept.ensures.blocks;
      turnouts = c.railways_are_kept.ensures.turnouts;
      turns = c.turns_are_bounded.ensures;
      ends = c.ends_are_few.ensures;
    } in
    stays_connected laws
