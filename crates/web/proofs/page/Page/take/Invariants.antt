use Rattle.std.proofs.Common.{◌≡◌, take}
use Rattle.web.specs.Messages.{held_along, messages_along}
use Rattle.web.specs.Sending.{QueuesAll}
use Rattle.web.proofs.page.Page.take.Given as goal

abbrev pub invariant-loop-taken : goal.invariant-loop-taken
invariant-loop-taken g l = record {
  held : l.self.unfinished ≡ held_along l.initial.self.unfinished (take l.taken l.bytes);
  sent : QueuesAll (λ s. g.S.Write.contents s.stream) (messages_along l.initial.self.unfinished (take l.taken l.bytes)) l.initial.self.socket l.self.socket;
}
