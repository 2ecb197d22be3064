use Rattle.std.proofs.Common.{◌≡◌, ◌-◌, ◌∙◌, [], Some, None, ap, arith, get_or, option_copied, subst, sym}
use Rattle.std.specs.Prelude.{Option}
use Rattle.railway.specs.Railway.{RailwayState}
use Rattle.roster.specs.Decoders.{entries_of}
use Rattle.pages.specs.Items.{item_messages, plan_messages, railway_messages}
use Rattle.pages.proofs.Indexing.{decoder-behind, decoder-front}
use Rattle.pages.proofs.items.item_message.Goals as goal

pub returns-then-i-decoders : goal.returns-then-i-decoders
returns-then-i-decoders c =
    let entries = entries_of c.args.roster in
    decoder-front entries c.args.world.now.nodes (railway_messages entries (option_copied c.args.railway)) c.args.i c.node_message.result.bytes
    (omega (arith, c.if-i-decoders.true, c.nodes-decoders.ensures.count)) c.requires c.node_message.ensures

pub returns-in-Some : goal.returns-in-Some
returns-in-Some c =
    let entries = entries_of c.args.roster in
    let nodes = c.args.world.now.nodes in
    let railway = c.in-Some.railway.now in
    let text = c.plan_message.result.bytes in
    let found : text ≡ get_or (item_messages entries nodes (Some railway)) c.args.i [] =
    decoder-behind entries nodes (plan_messages entries railway) c.args.i text (omega (arith, c.if-i-decoders.false, c.nodes-decoders.ensures.count)) c.requires
    (c.plan_message.ensures ∙ ap (λ n. get_or (plan_messages entries railway) (c.args.i - n) []) c.nodes-decoders.ensures.count) in
    subst (λ (r : Option RailwayState). text ≡ get_or (item_messages entries nodes r) c.args.i []) (sym (ap option_copied c.in-Some.is)) found

pub returns-in-None : goal.returns-in-None
returns-in-None c =
    let entries = entries_of c.args.roster in
    let nodes = c.args.world.now.nodes in
    let text = c.new.result.bytes in
    let found : text ≡ get_or (item_messages entries nodes None) c.args.i [] =
    decoder-behind entries nodes [] c.args.i text (omega (arith, c.if-i-decoders.false, c.nodes-decoders.ensures.count)) c.requires c.new.ensures in
    subst (λ (r : Option RailwayState). text ≡ get_or (item_messages entries nodes r) c.args.i []) (sym (ap option_copied c.in-None.is)) found
