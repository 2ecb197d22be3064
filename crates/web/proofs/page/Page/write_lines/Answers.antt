use Rattle.std.proofs.Common.{subst, take}
use Rattle.web.specs.Messages.{messages_along}
use Rattle.web.specs.Sending.{QueuesAll}
use Rattle.web.proofs.page.Page.write_lines.Goals as goal

pub returns-clause-sent : goal.returns-clause-sent
returns-clause-sent g c = (
  c.flush_queued.new.self.socket,
  c.take.new.self.socket,
  c.in_ok-flush_queued.ensures.sent,
  subst (λ held. QueuesAll (λ s. g.S.Write.contents s.stream) (messages_along held (take c.in_ok-taken.taken c.args.bytes.now)) c.flush_queued.new.self.socket c.take.new.self.socket)
      c.in_ok-flush_queued.ensures.unfinished c.in_ok-taken.ensures.sent,
  c.in_ok-flush_queued-2.ensures.sent,
)
