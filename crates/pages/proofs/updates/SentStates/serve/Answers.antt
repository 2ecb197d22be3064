use Rattle.std.proofs.Common.{false, refl, true}
use Rattle.pages.specs.Shown.{messages_of, states_of}
use Rattle.pages.proofs.Sending.{serves-page}
use Rattle.pages.proofs.updates.SentStates.serve.Goals as goal

pub returns-then-is_writable : goal.returns-then-is_writable
returns-then-is_writable g c =
    serves-page c.args.client (messages_of c.args.shown.now) (states_of c.args.shown.now)
    c.args.self.now.sent c.reset_if.new.self.sent c.send.new.self.sent
    c.take_just_opened-is_new.result c.is_writable.result true
    (g.C.Clients.page_log c.args.clients.now) (g.C.Clients.page_log c.take_just_opened-is_new.new.self) (g.C.Clients.page_log c.is_writable.new.self) (g.C.Clients.page_log c.send.new.clients)
    c.take_just_opened-is_new.ensures c.is_writable.ensures c.reset_if.ensures c.if-is_writable.true c.send.ensures

pub returns-else-is_writable : goal.returns-else-is_writable
returns-else-is_writable g c =
    serves-page c.args.client (messages_of c.args.shown.now) (states_of c.args.shown.now)
    c.args.self.now.sent c.reset_if.new.self.sent c.reset_if.new.self.sent
    c.take_just_opened-is_new.result c.is_writable.result false
    (g.C.Clients.page_log c.args.clients.now) (g.C.Clients.page_log c.take_just_opened-is_new.new.self) (g.C.Clients.page_log c.is_writable.new.self) (g.C.Clients.page_log c.is_writable.new.self)
    c.take_just_opened-is_new.ensures c.is_writable.ensures c.reset_if.ensures c.if-is_writable.false (refl, refl)
