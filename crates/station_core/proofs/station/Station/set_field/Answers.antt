use Rattle.std.proofs.Common.{◌≡◌, true, is_ok, ap, sym, ◌∙◌}
use Rattle.slot_table.specs.Desk.{Desk}
use Rattle.slot_table.specs.Entry.{IsSlot}
use Rattle.slot_table.specs.Reading.{row_of}
use Rattle.slot_table.specs.Writes.{after_field, can_field}
use Rattle.station_core.specs.Schedule.{change_of, places_with}
use Rattle.station_core.proofs.Follows.{Others, noted_as, in_step, chosen_if, ok_of, from_ok, done}
use Rattle.station_core.proofs.station.Station.set_field.Goals as goal

ok : (c : goal.After-schedule_changes) → is_ok c.set_field.result ≡ true
ok c = ok_of c.set_field.result (sym c.is_err.ensures.value ∙ c.if-is_err.false)

slot_is : (c : goal.After-schedule_changes) → IsSlot c.args.slot
slot_is c = from_ok c.set_field.result (ok c) c.set_field.ensures.slot

others : (c : goal.After-schedule_changes) → Others c.self.inside.table c.set_field.new.self c.args.slot
others c = λ m ne.
    ap (λ (d : Desk). row_of d m) c.set_field.ensures.after
    ∙ (c.others_stay.ensures c.self.inside.table m c.self.invariant.in_step.desk).field c.args.slot c.args.field ne

pub invariant_of-self-2 : goal.invariant_of-self-2
invariant_of-self-2 c = record {
  lines = c.self.invariant.lines;
  unfinished = c.self.invariant.unfinished;
  in_step = in_step c.self.inside.table c.set_field.new.self c.args.slot c.self.inside.schedule c.schedule_changes.new.schedule (places_with c.args.slot c.change_of.result) c.set_field.ensures.desk c.schedule_changes.ensures.legal (slot_is c) c.self.invariant.in_step.slots (others c) c.schedule_changes.ensures.state;
}

pub returns-clause-state : goal.returns-clause-state
returns-clause-state c =
    rw (← c.self.view_is) (noted_as c.self.inside.framers.items c.self.inside.power c.self.inside.table c.set_field.new.self (after_field c.self.inside.table c.args.slot c.args.field) c.args.slot c.self.inside.schedule c.schedule_changes.new.schedule (places_with c.args.slot c.change_of.result) _
    (slot_is c) c.self.invariant.in_step.slots (others c) c.schedule_changes.ensures.state c.set_field.ensures.after
    (chosen_if (can_field c.self.inside.table c.args.slot c.args.field) (places_with c.args.slot (change_of c.args.field)) (done (can_field c.self.inside.table c.args.slot c.args.field) c.set_field.result c.set_field.ensures.answer (ok c)) ∙ ap (places_with c.args.slot) (sym c.change_of.ensures)))
