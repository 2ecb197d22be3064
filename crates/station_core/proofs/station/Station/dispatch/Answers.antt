use Rattle.std.proofs.Common.{◌≡◌, refl, ap, subst, ◌∙◌}
use Rattle.slot_table.specs.Desk.{Desk}
use Rattle.slot_table.specs.Reading.{row_of}
use Rattle.station_core.specs.After.{after_move}
use Rattle.station_core.specs.Schedule.{places_with}
use Rattle.station_core.specs.declared.schedule.Change.TheVariants.{All}
use Rattle.station_core.specs.Station.{after_change}
use Rattle.station_core.specs.Seen.{Seen, seen_with}
use Rattle.station_core.proofs.Follows.{Others, handed_over, in_step, noted_as}
use Rattle.station_core.proofs.station.Station.dispatch.Goals as goal

others : (c : goal.After-schedule_changes) → Others c.self.inside.table c.handed_over.new.table c.in_ok-slot.slot
others c = λ m ne.
    ap (λ (d : Desk). row_of d m) c.handed_over.ensures.after
    ∙ handed_over c.self.inside.table c.args.src c.args.dest c.in_ok-slot.slot m c.requires (c.others_stay.ensures c.self.inside.table m c.self.invariant.in_step.desk) c.in_ok-slot.ensures.answer ne

pub invariant_of-self-2 : goal.invariant_of-self-2
invariant_of-self-2 c = record {
  lines = c.self.invariant.lines;
  unfinished = c.self.invariant.unfinished;
  in_step = in_step c.self.inside.table c.handed_over.new.table c.in_ok-slot.slot c.self.inside.schedule c.schedule_changes.new.schedule (places_with c.in_ok-slot.slot All) c.handed_over.ensures.desk c.schedule_changes.ensures.legal c.in_ok-slot.ensures.slot c.self.invariant.in_step.slots (others c) c.schedule_changes.ensures.state;
}

pub returns-clause-state : goal.returns-clause-state
returns-clause-state c =
    subst (λ (seen : Seen). seen_with c.self.inside.framers.items (record { power = c.self.inside.power; desk = c.handed_over.new.table }) c.schedule_changes.new.schedule ≡ after_change seen (after_move seen.powered.desk c.args.src c.args.dest) (places_with c.in_ok-slot.slot All)) c.self.view_is
    (noted_as c.self.inside.framers.items c.self.inside.power c.self.inside.table c.handed_over.new.table (after_move c.self.inside.table c.args.src c.args.dest) c.in_ok-slot.slot c.self.inside.schedule c.schedule_changes.new.schedule (places_with c.in_ok-slot.slot All) _
    c.in_ok-slot.ensures.slot c.self.invariant.in_step.slots (others c) c.schedule_changes.ensures.state c.handed_over.ensures.after refl)
