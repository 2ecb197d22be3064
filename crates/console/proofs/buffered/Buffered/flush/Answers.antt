use Rattle.console.proofs.Buffering.{flushed_all}
use Rattle.console.proofs.buffered.Buffered.flush.Goals as goal

pub returns-clause-bytes : goal.returns-clause-bytes
returns-clause-bytes g c =
    flushed_all c.flush.result _ (g.O.Sink.held c.write_out.new.self.output.now) (g.O.Sink.held c.flush.new.self) c.write_out.new.self.waiting.items c.write_out.new.self.written
    c.in_ok-write_out.ensures.empty.0 c.in_ok-write_out.ensures.empty.1 c.in_ok-write_out.ensures.bytes c.flush.ensures.bytes
