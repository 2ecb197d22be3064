use Rattle.std.proofs.Common.{ap, ◌∙◌}
use Rattle.slot_table.specs.Desk.{Desk}
use Rattle.slot_table.specs.Reading.{row_of}
use Rattle.station_core.specs.Schedule.{places_with}
use Rattle.station_core.specs.declared.schedule.Change.TheVariants.{Nothing}
use Rattle.station_core.proofs.Follows.{Others, in_step}
use Rattle.station_core.proofs.station.Station.take.Goals as goal

others : (c : goal.After-schedule_changes) → Others c.self.inside.table c.take.new.self c.in_ok-slot.slot
others c = λ m ne.
    ap (λ (d : Desk). row_of d m) c.take.ensures.after
    ∙ (c.others_stay.ensures c.self.inside.table m c.self.invariant.in_step.desk).take c.args.address (λ e. let same = c.in_ok-slot.ensures.answer ∙ e in ne (cc))

pub invariant_of-self-2 : goal.invariant_of-self-2
invariant_of-self-2 c = record {
  lines = c.self.invariant.lines;
  unfinished = c.self.invariant.unfinished;
  in_step = in_step c.self.inside.table c.take.new.self c.in_ok-slot.slot c.self.inside.schedule c.schedule_changes.new.schedule (places_with c.in_ok-slot.slot Nothing) c.take.ensures.desk c.schedule_changes.ensures.legal c.in_ok-slot.ensures.slot c.self.invariant.in_step.slots (others c) c.schedule_changes.ensures.state;
}
