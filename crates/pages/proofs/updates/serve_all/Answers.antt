use Rattle.std.proofs.Common.{◌≡◌, ◌<◌, ◌∙◌, List, Option, arith, get_or, length, length-set, map, set, subst, sym}
use Rattle.std.proofs.lemmas.List.{get_or-map, length-map, map-set}
use Rattle.pages.specs.declared.items.ItemState.{ItemState}
use Rattle.pages.specs.declared.updates.SentStates.{SentStates}
use Rattle.pages.specs.Updates.{ServesPage}
use Rattle.pages.specs.Shown.{messages_of, states_of}
use Rattle.pages.proofs.Sending.{pages-all, pages-more, pages-none}
use Rattle.pages.proofs.updates.serve_all.Goals as goal

pub loop-client-init : goal.loop-client-init
loop-client-init g c =
    let messages = messages_of c.args.shown.now in
    let items = states_of c.args.shown.now in
    (c.told-pages, pages-all messages items (map (λ states. states.sent) c.args.pages.now) (g.C.Clients.page_log c.args.clients.now))

pub loop-client-preserved : goal.loop-client-preserved
loop-client-preserved g c =
    let messages = messages_of c.args.shown.now in
    let items = states_of c.args.shown.now in
    let i = c.loop-client.client in
    let states : List SentStates = c.loop-client.pages in
    let sent : List (Option ItemState) = c.index-pages-client.result.sent in
    let log = g.C.Clients.page_log c.loop-client.clients in
    let mid = g.C.Clients.page_log c.serve.new.clients in
    let below : i < length states = omega (arith, c.loop-client-test.true, c.loop-client.invariant.0) in
    let at : get_or (map (λ (s : SentStates). s.sent) states) i sent ≡ (get_or states i c.index-pages-client.result).sent =
    get_or-map (λ (s : SentStates). s.sent) states i c.index-pages-client.result sent below in
    let one : ServesPage i messages items (get_or (map (λ (s : SentStates). s.sent) states) i sent) c.serve.new.self.sent log mid =
    subst (λ (ls : List (Option ItemState)). ServesPage i messages items ls c.serve.new.self.sent log mid) (sym at) c.serve.ensures in (
      length-set states i c.serve.new.self ∙ c.loop-client.invariant.0,
      pages-more messages items (map (λ states. states.sent) c.args.pages.now) (g.C.Clients.page_log c.args.clients.now)
          (map (λ (s : SentStates). s.sent) states) (map (λ (s : SentStates). s.sent) (set states i c.serve.new.self)) c.serve.new.self.sent log mid i sent
          (omega (arith, below, length-map states (λ (s : SentStates). s.sent)))
          (map-set (λ (s : SentStates). s.sent) states i c.serve.new.self) one c.loop-client.invariant.1,
    )

pub returns : goal.returns
returns g c =
    let messages = messages_of c.args.shown.now in
    let items = states_of c.args.shown.now in
    pages-none messages items (map (λ states. states.sent) c.args.pages.now) (g.C.Clients.page_log c.args.clients.now)
    (map (λ states. states.sent) c.loop-client.pages) (g.C.Clients.page_log c.loop-client.clients) c.loop-client.client
    (omega (arith, c.loop-client-test.false, c.loop-client.invariant.0, length-map c.loop-client.pages (λ states. states.sent))) c.loop-client.invariant.1
