use Rattle.std.proofs.Common.{◌≡◌, ◌-◌, ◌∙◌, [], Some, None, ap, arith, option_copied, refl, subst, sym}
use Rattle.std.specs.Prelude.{Option, slice_get}
use Rattle.railway.specs.Railway.{RailwayState}
use Rattle.pages.specs.declared.items.ItemState.{ItemState}
use Rattle.pages.specs.declared.items.ItemState.TheVariants.{Decoder}
use Rattle.pages.specs.Items.{item_states, plan_states, railway_states, state_of_decoder}
use Rattle.pages.proofs.Indexing.{state-behind, state-front}
use Rattle.pages.proofs.items.item_state.Goals as goal

pub returns-then-i-decoders : goal.returns-then-i-decoders
returns-then-i-decoders c =
    state-front state_of_decoder c.args.world.now.nodes (railway_states (option_copied c.args.railway)) c.args.i (Decoder c.decoder_state.result)
    (omega (arith, c.if-i-decoders.true, c.nodes-decoders.ensures.count)) (λ node. ap (λ state. Decoder state) (c.decoder_state.ensures.decoder_state node))

pub returns-in-Some : goal.returns-in-Some
returns-in-Some c =
    let nodes = c.args.world.now.nodes in
    let railway = c.in-Some.railway.now in
    let found : c.plan_state.result ≡ slice_get (item_states nodes (Some railway)) c.args.i =
    state-behind state_of_decoder nodes (plan_states railway) c.args.i c.plan_state.result (omega (arith, c.if-i-decoders.false, c.nodes-decoders.ensures.count))
    (c.plan_state.ensures ∙ ap (λ n. slice_get (plan_states railway) (c.args.i - n)) c.nodes-decoders.ensures.count) in
    subst (λ (r : Option RailwayState). c.plan_state.result ≡ slice_get (item_states nodes r) c.args.i) (sym (ap option_copied c.in-Some.is)) found

pub returns-in-None : goal.returns-in-None
returns-in-None c =
    let nodes = c.args.world.now.nodes in
    let none : Option ItemState = None in
    let found : none ≡ slice_get (item_states nodes None) c.args.i =
    state-behind state_of_decoder nodes [] c.args.i none (omega (arith, c.if-i-decoders.false, c.nodes-decoders.ensures.count)) refl in
    subst (λ (r : Option RailwayState). none ≡ slice_get (item_states nodes r) c.args.i) (sym (ap option_copied c.in-None.is)) found
