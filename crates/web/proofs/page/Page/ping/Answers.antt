use Rattle.web.proofs.page.Page.ping.Goals as goal

pub returns-clause-sent : goal.returns-clause-sent
returns-clause-sent g c = (
  c.flush_queued.new.self.socket,
  c.queue_ping.new.socket,
  c.in_ok-flush_queued.ensures.sent,
  c.in_ok-queue_ping.ensures.sent,
  c.in_ok-flush_queued-2.ensures.sent,
)
