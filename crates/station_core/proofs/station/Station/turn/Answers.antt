use Rattle.std.proofs.Common.{ap, ◌∙◌, subst, List, Bool}
use Rattle.refresh_ring.specs.Picked.{turned}
use Rattle.refresh_ring.specs.Scheduled.{Scheduled}
use Rattle.slot_table.specs.Desk.{IsDesk}
use Rattle.station_core.specs.Station.{packet_of}
use Rattle.station_core.specs.Powered.{PoweredDesk}
use Rattle.station_core.specs.Seen.{Seen, seen_with}
use Rattle.station_core.specs.Slots.{addresses}
use Rattle.station_core.proofs.Picks.{is_pick_of, slots-turned}
use Rattle.station_core.proofs.station.Station.turn.Goals as goal

pub invariant_of-self : goal.invariant_of-self
invariant_of-self c = record {
  lines = c.self.invariant.lines;
  unfinished = c.self.invariant.unfinished;
  in_step = record {
    desk = c.self.invariant.in_step.desk;
    slots = ap (λ (s : Scheduled). s.slots) c.pick-pick.ensures.state ∙ slots-turned c.picks_are_due.ensures.slots c.self.inside.power (addresses c.self.inside.table) c.self.inside.schedule ∙ c.self.invariant.in_step.slots;
    schedule = c.pick-pick.ensures.legal;
  };
}

pub packet_of-requires : goal.packet_of-requires
packet_of-requires c =
    is_pick_of c.self.inside.table c.self.inside.schedule c.self.inside.power (addresses c.self.inside.table) c.pick-pick.result c.self.invariant.in_step.slots c.pick-pick.ensures.answer c.pick-pick.ensures.range c.pick-pick.ensures.is_due

pub returns-clause-packet : goal.returns-clause-packet
returns-clause-packet c =
    let s = c.self.inside.schedule in
    let same = ap (λ (xs : List Bool). record s { slots = xs }) c.self.invariant.in_step.slots in
    rw (← c.self.view_is) (c.packet_of.ensures ∙ ap (packet_of c.self.inside.table) (c.pick-pick.ensures.answer ∙ ap (λ (t : Scheduled). (turned c.self.inside.power (addresses c.self.inside.table) t).answer) same))

pub returns-clause-of_the_desk : goal.returns-clause-of_the_desk
returns-clause-of_the_desk c = rw (returns-clause-packet c) (c.packets_of_the_desk.ensures c.args.self.now)

pub returns-clause-state : goal.returns-clause-state
returns-clause-state c =
    let s = c.self.inside.schedule in
    let same = ap (λ (xs : List Bool). record s { slots = xs }) c.self.invariant.in_step.slots in
    let powered : PoweredDesk = record { power = c.self.inside.power; desk = c.self.inside.table } in
    rw (← c.self.view_is) (ap (seen_with c.self.inside.framers.items powered) (c.pick-pick.ensures.state ∙ ap (λ (t : Scheduled). (turned c.self.inside.power (addresses c.self.inside.table) t).state) same))

pub returns-clause-desk : goal.returns-clause-desk
returns-clause-desk c = subst (λ (seen : Seen). IsDesk seen.powered.desk) c.self.view_is c.self.invariant.in_step.desk
