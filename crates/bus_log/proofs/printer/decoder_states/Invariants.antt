use Rattle.std.proofs.Common.{◌≡◌, map, take}
use Rattle.arrayvec.specs.ArrayVec.{array_vec_len}
use Rattle.layout_core.specs.DecoderStates.{decoder_state_of}
use Rattle.bus_log.proofs.printer.decoder_states.Given as goal

-- this number of states is present
abbrev pub invariant-loop-i : goal.invariant-loop-i
invariant-loop-i l = record {
  items : l.decoder_states.items ≡ take l.i (map decoder_state_of l.world.nodes);
  count : array_vec_len l.decoder_states ≡ l.i;
}
