use Rattle.std.proofs.Common.{◌≡◌, length, map}
use Rattle.pages.specs.Shown.{messages_of, states_of}
use Rattle.pages.proofs.Sending.{PagesRest}
use Rattle.pages.proofs.updates.serve_all.Given as goal

-- the effect on the other clients completes the whole
abbrev pub invariant-loop-client : goal.invariant-loop-client
invariant-loop-client g l =
    (length l.pages ≡ 8) × PagesRest (messages_of l.shown) (states_of l.shown)
    (map (λ states. states.sent) l.fn.pages) (g.C.Clients.page_log l.fn.clients) l.client (map (λ states. states.sent) l.pages) (g.C.Clients.page_log l.clients)
