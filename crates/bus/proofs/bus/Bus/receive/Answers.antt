use Rattle.std.proofs.Common.{◌≡◌, Option, Some, ap, subst, sym, ◌∙◌}
use Rattle.loconet_tcp.specs.declared.request.Request.{Request}
use Rattle.loconet_tcp.specs.declared.request.Request.TheVariants.{Send}
use Rattle.layout_core.specs.World.{HaveHeard}
use Rattle.layout_core.specs.declared.world.World.{World}
use Rattle.bus.specs.declared.options.BusOptions.{BusOptions}
use Rattle.bus.specs.Bus.{BusState, for_station}
use Rattle.bus.specs.Layout.{message_events}
use Rattle.bus.specs.State.{bus_state}
use Rattle.bus.proofs.bus.Bus.receive.Goals as goal

pub returns-in-Some-Send-clause-nodes : goal.returns-in-Some-Send-clause-nodes
returns-in-Some-Send-clause-nodes c =
    let old = c.args.self.now in
    let client = c.args.client in
    let message = c.in-Some-Send.message in
    let new = c.send-reply.new.self.world.nodes in
    let heard = c.send-reply.ensures.nodes client in
    let options : c.read.new.self.options ≡ old.options = ap (λ (bus : BusState). bus.options) c.read.ensures.bus in
    subst (λ (asked : Option Request). HaveHeard old.world.station (message_events client (for_station (bus_state old) asked)) old.world.nodes new)
    (sym (c.in-Some-Send.is ∙ ap Some c.in-Some-Send.field-0-is) ∙ c.read.ensures.request)
    (subst (λ (w : World). HaveHeard w.station (message_events client (for_station (bus_state old) (Some (Send message)))) w.nodes new) c.read.ensures.world
    (subst (λ (o : BusOptions). HaveHeard c.read.new.self.world.station (message_events client (for_station (record (bus_state old) { options = o }) (Some (Send message)))) c.read.new.self.world.nodes new) options heard))
