use Rattle.std.proofs.Common.{◌∙◌, Bool, [], ◌∷◌, arith, false, option_copied, subst, sym, true}
use Rattle.bus.specs.Log.{Extends}
use Rattle.pages.specs.ClientEvents.{Sending}
use Rattle.roster.specs.Decoders.{entries_of}
use Rattle.pages.specs.Items.{item_messages, item_states}
use Rattle.pages.specs.Shown.{messages_of, states_of}
use Rattle.pages.proofs.Indexing.{each-has}
use Rattle.pages.proofs.Sending.{item-none, item-refused, item-same, item-taken, over-end, rest-all}
use Rattle.pages.proofs.updates.SentStates.send.Goals as goal

pub loop-item-init : goal.loop-item-init
loop-item-init g c =
    rest-all c.args.client (messages_of c.args.shown.now) (states_of c.args.shown.now)
    c.args.self.now.sent (g.C.Clients.page_log c.args.clients.now)

pub loop-item-preserved-then-is_sent : goal.loop-item-preserved-then-is_sent
loop-item-preserved-then-is_sent g c =
    let entries = entries_of c.args.shown.now.roster in
    let nodes = c.args.shown.now.world.now.nodes in
    let railway = option_copied c.args.shown.now.railway in
    item-same c.args.client (item_messages entries nodes railway) (item_states nodes railway) c.args.self.now.sent (g.C.Clients.page_log c.args.clients.now)
    c.loop-item.self.sent (g.C.Clients.page_log c.loop-item.clients) c.loop-item.item c.in-Some.now
    (sym c.item_state.ensures ∙ c.in-Some.is) (each-has entries nodes railway c.requires.decoders)
    (omega (arith, c.items-item-end.ensures.count, c.items-item-end.ensures.most, c.loop-item.self.places))
    (sym c.is_sent.ensures ∙ c.if-is_sent.true) c.loop-item.invariant

pub returns-then-not-send : goal.returns-then-not-send
returns-then-not-send g c =
    let entries = entries_of c.args.shown.now.roster in
    let nodes = c.args.shown.now.world.now.nodes in
    let railway = option_copied c.args.shown.now.railway in
    let log = g.C.Clients.page_log c.loop-item.clients in
    let log_then = g.C.Clients.page_log c.send.new.self in
    let refused : Extends log log_then (Sending c.args.client c.as_str.result.now false ∷ []) =
    subst (λ (is : Bool). Extends log log_then (Sending c.args.client c.as_str.result.now is ∷ [])) c.if-not-send.true c.send.ensures in
    item-refused c.args.client (item_messages entries nodes railway) (item_states nodes railway) c.args.self.now.sent (g.C.Clients.page_log c.args.clients.now)
    c.loop-item.self.sent log log_then c.loop-item.item c.in-Some.now c.as_str.result.now
    (sym c.item_state.ensures ∙ c.in-Some.is) (each-has entries nodes railway c.requires.decoders)
    (omega (arith, c.items-item-end.ensures.count, c.items-item-end.ensures.most, c.loop-item.self.places))
    (sym c.is_sent.ensures ∙ c.if-is_sent.false) (c.as_str.ensures.value ∙ c.item_message-message.ensures) refused c.loop-item.invariant

pub loop-item-preserved : goal.loop-item-preserved
loop-item-preserved g c =
    let entries = entries_of c.args.shown.now.roster in
    let nodes = c.args.shown.now.world.now.nodes in
    let railway = option_copied c.args.shown.now.railway in
    let log = g.C.Clients.page_log c.loop-item.clients in
    let mid = g.C.Clients.page_log c.send.new.self in
    let taken : Extends log mid (Sending c.args.client c.as_str.result.now true ∷ []) =
    subst (λ (is : Bool). Extends log mid (Sending c.args.client c.as_str.result.now is ∷ [])) c.if-not-send.false c.send.ensures in
    item-taken c.args.client (item_messages entries nodes railway) (item_states nodes railway) c.args.self.now.sent (g.C.Clients.page_log c.args.clients.now)
    c.loop-item.self.sent log mid c.loop-item.item c.in-Some.now c.as_str.result.now
    (sym c.item_state.ensures ∙ c.in-Some.is) (each-has entries nodes railway c.requires.decoders)
    (omega (arith, c.items-item-end.ensures.count, c.items-item-end.ensures.most, c.loop-item.self.places))
    (sym c.is_sent.ensures ∙ c.if-is_sent.false) (c.as_str.ensures.value ∙ c.item_message-message.ensures) taken c.loop-item.invariant

pub returns : goal.returns
returns g c =
    let entries = entries_of c.args.shown.now.roster in
    let nodes = c.args.shown.now.world.now.nodes in
    let railway = option_copied c.args.shown.now.railway in
    item-none c.args.client (item_messages entries nodes railway) (item_states nodes railway) c.args.self.now.sent (g.C.Clients.page_log c.args.clients.now)
    c.loop-item.self.sent (g.C.Clients.page_log c.loop-item.clients) c.loop-item.item
    (omega (arith, c.loop-item-test.false, c.items-item-end.ensures.count)) (each-has entries nodes railway c.requires.decoders) c.loop-item.invariant

pub returns-in_default : goal.returns-in_default
returns-in_default g c =
    let entries = entries_of c.args.shown.now.roster in
    let nodes = c.args.shown.now.world.now.nodes in
    let railway = option_copied c.args.shown.now.railway in
    item-none c.args.client (item_messages entries nodes railway) (item_states nodes railway) c.args.self.now.sent (g.C.Clients.page_log c.args.clients.now)
    c.loop-item.self.sent (g.C.Clients.page_log c.loop-item.clients) c.loop-item.item
    (over-end (item_states nodes railway) c.loop-item.item (sym c.item_state.ensures ∙ c.in_default.is)) (each-has entries nodes railway c.requires.decoders) c.loop-item.invariant
