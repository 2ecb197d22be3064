use Rattle.pages.specs.Shown.{messages_of, states_of}
use Rattle.pages.proofs.Sending.{Rest}
use Rattle.pages.proofs.updates.SentStates.send.Given as goal

-- the effect of the rest completes the whole
abbrev pub invariant-loop-item : goal.invariant-loop-item
invariant-loop-item g l =
    Rest l.client (messages_of l.shown) (states_of l.shown)
    l.fn.self.sent (g.C.Clients.page_log l.fn.clients) l.item l.self.sent (g.C.Clients.page_log l.clients)
