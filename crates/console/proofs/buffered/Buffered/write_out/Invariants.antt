use Rattle.std.proofs.Common.{◌≡◌, ◌-◌, length}
use Rattle.std.specs.Io.KnownBytes.{Keeps}
use Rattle.console.specs.Buffered.{buffered_failed, buffered_held, buffered_loan}
use Rattle.console.proofs.buffered.Buffered.write_out.Given as goal

-- the bytes are the same, and nothing failed
abbrev pub invariant-loop-self : goal.invariant-loop-self
invariant-loop-self g l = record {
  kept : Keeps (buffered_held g.O.Sink.held l.initial.self) (buffered_held g.O.Sink.held l.self);
  failed : buffered_failed g.O.Sink.failed l.self ≡ buffered_failed g.O.Sink.failed l.initial.self;
  same : buffered_loan l.self ≡ buffered_loan l.initial.self;
}

abbrev pub decreases-loop-self : goal.decreases-loop-self
decreases-loop-self g l = length l.self.waiting.items - l.self.written
