use Rattle.std.proofs.Common.{Bool, None, Some, if◌then◌else◌, subst, sym, ◌∙◌}
use Rattle.layout_core.specs.World.{HaveHeard}
use Rattle.bus.specs.Layout.{message_events}
use Rattle.bus.proofs.bus.Bus.send.Goals as goal

pub returns-clause-nodes : goal.returns-clause-nodes
returns-clause-nodes c = λ client.
    let old = c.args.self.now.world in
    let message = c.args.message.now in
    subst (λ (answered : Bool). HaveHeard old.station (message_events client (if answered then None else Some message)) old.nodes c.send.new.world.nodes)
    (sym c.if-is_for_devices.false ∙ c.is_for_devices.ensures) (c.send.ensures.nodes client)
