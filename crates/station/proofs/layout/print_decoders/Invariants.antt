use Rattle.std.proofs.Common.{◌≡◌, map, take}
use Rattle.std.specs.Io.KnownBytes.{Appends}
use Rattle.console.specs.Printed.{lines_text}
use Rattle.layout_core.specs.DecoderStates.{decoder_state_of}
use Rattle.station.specs.Printed.{decoder_lines}
use Rattle.station.proofs.layout.print_decoders.Given as goal

-- this number of lines is printed, and nothing failed
abbrev pub invariant-loop-i : goal.invariant-loop-i
invariant-loop-i g l = record {
  printed : Appends (g.O.Sink.held l.fn.output) (g.O.Sink.held l.output) (lines_text (take l.i (decoder_lines l.roster (map decoder_state_of l.world.nodes))));
  failed : g.O.Sink.failed l.output ≡ g.O.Sink.failed l.fn.output;
  loan : g.O.Sink.loan l.output ≡ g.O.Sink.loan l.fn.output;
}
