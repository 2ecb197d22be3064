use Rattle.web.proofs.Sending.{tells-one}
use Rattle.web.proofs.page.Page.send.Goals as goal

pub returns-clause-sent : goal.returns-clause-sent
returns-clause-sent g c = (
  c.flush_queued.new.self.socket,
  c.queue_message.new.socket,
  c.in_ok-flush_queued.ensures.sent,
  tells-one _ c.args.message.now c.flush_queued.new.self.socket c.queue_message.new.socket c.in_ok-queue_message.ensures.sent,
  c.in_ok-flush_queued-2.ensures.sent,
)
