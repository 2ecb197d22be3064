use Rattle.std.proofs.Common.{◌≡◌, ℕ, true, is_ok, ap, sym, subst, ◌∙◌}
use Rattle.ln_ops.specs.Fields.{SlotBytes}
use Rattle.refresh_ring.specs.Scheduled.{after_refresh}
use Rattle.slot_table.specs.Desk.{Desk}
use Rattle.slot_table.specs.Entry.{IsSlot}
use Rattle.slot_table.specs.Reading.{row_of}
use Rattle.slot_table.specs.Writes.{after_write, write_answer}
use Rattle.station_core.specs.Schedule.{after_places, places_with}
use Rattle.station_core.specs.Refreshed.{is_refreshed}
use Rattle.station_core.specs.declared.schedule.Change.TheVariants.{All}
use Rattle.station_core.proofs.Follows.{Others, noted_as, in_step, ok_of, from_ok, chosen_write}
use Rattle.station_core.proofs.station.Station.write.Goals as goal

ok : (c : goal.After-schedule_changes) → is_ok c.write_row.result ≡ true
ok c = ok_of c.write_row.result (sym c.is_err.ensures.value ∙ c.if-is_err.false)

slot_is : (c : goal.After-schedule_changes) → IsSlot c.args.fields.now.slot
slot_is c = from_ok c.write_row.result (ok c) c.write_row.ensures.slot

others : (c : goal.After-schedule_changes) → Others c.self.inside.table c.write_row.new.self c.args.fields.now.slot
others c = λ m ne.
    ap (λ (d : Desk). row_of d m) c.write_row.ensures.after
    ∙ (c.others_stay.ensures c.self.inside.table m c.self.invariant.in_step.desk).write c.args.fields.now ne

noted_at : (c : goal.After-schedule_changes) → c.schedule_changes.new.schedule ≡ after_places (places_with c.args.fields.now.slot All) (after_refresh c.args.fields.now.slot (is_refreshed c.write_row.new.self c.args.fields.now.slot) c.self.inside.schedule)
noted_at c =
    subst (λ (n : ℕ). c.schedule_changes.new.schedule ≡ after_places (places_with n All) (after_refresh n (is_refreshed c.write_row.new.self n) c.self.inside.schedule))
    (ap (λ (f : SlotBytes). f.slot) c.fields.view_is) c.schedule_changes.ensures.state

pub invariant_of-self-2 : goal.invariant_of-self-2
invariant_of-self-2 c = record {
  lines = c.self.invariant.lines;
  unfinished = c.self.invariant.unfinished;
  in_step = in_step c.self.inside.table c.write_row.new.self c.args.fields.now.slot c.self.inside.schedule c.schedule_changes.new.schedule (places_with c.args.fields.now.slot All) c.write_row.ensures.desk c.schedule_changes.ensures.legal (slot_is c) c.self.invariant.in_step.slots (others c) (noted_at c);
}

pub returns-clause-state : goal.returns-clause-state
returns-clause-state c =
    rw (← c.self.view_is) (noted_as c.self.inside.framers.items c.self.inside.power c.self.inside.table c.write_row.new.self (after_write c.self.inside.table c.args.fields.now) c.args.fields.now.slot c.self.inside.schedule c.schedule_changes.new.schedule (places_with c.args.fields.now.slot All) _
    (slot_is c) c.self.invariant.in_step.slots (others c) (noted_at c) c.write_row.ensures.after
    (chosen_write c.args.fields.now.slot (write_answer c.self.inside.table c.args.fields.now) (ap is_ok (sym c.write_row.ensures.answer) ∙ ok c)))
