use Rattle.std.proofs.Common.{◌≡◌, ◌≢◌, ℕ, ap, sym, ◌∙◌}
use Rattle.slot_table.specs.Desk.{Desk}
use Rattle.slot_table.specs.Entry.{IsSlot}
use Rattle.slot_table.specs.Moves.{after_shift, can_shift}
use Rattle.slot_table.specs.Reading.{row_of}
use Rattle.station_core.specs.Schedule.{places_with}
use Rattle.station_core.specs.declared.schedule.Change.TheVariants.{All}
use Rattle.station_core.proofs.Follows.{moved_as, moved_in_step, given_slot}
use Rattle.station_core.proofs.station.Station.shift.Goals as goal

dest_is : (c : goal.After-schedule_changes) → c.in_ok-slot.slot ≡ c.args.dest
dest_is c = given_slot (can_shift c.self.inside.table c.args.src c.args.dest) c.args.dest c.in_ok-slot.slot c.in_ok-slot.ensures.answer

src_is : (c : goal.After-schedule_changes) → IsSlot c.args.src
src_is c = c.in_ok-slot.ensures.source

apart : (c : goal.After-schedule_changes) → c.args.src ≢ c.in_ok-slot.slot
apart c = λ e. c.in_ok-slot.ensures.apart (e ∙ dest_is c)

others : (c : goal.After-schedule_changes) (m : ℕ) → m ≢ c.args.src → m ≢ c.in_ok-slot.slot → row_of c.shift.new.self m ≡ row_of c.self.inside.table m
others c = λ m away ne.
    ap (λ (d : Desk). row_of d m) c.shift.ensures.after
    ∙ (c.others_stay.ensures c.self.inside.table m c.self.invariant.in_step.desk).shift c.args.src c.args.dest away (λ e. ne (e ∙ sym (dest_is c)))

pub invariant_of-self-2 : goal.invariant_of-self-2
invariant_of-self-2 c = record {
  lines = c.self.invariant.lines;
  unfinished = c.self.invariant.unfinished;
  in_step = moved_in_step c.self.inside.table c.shift.new.self c.args.src c.in_ok-slot.slot c.self.inside.schedule c.refresh_if_driven.new.schedule c.schedule_changes.new.schedule (places_with c.in_ok-slot.slot All) c.shift.ensures.desk c.schedule_changes.ensures.legal (src_is c) c.in_ok-slot.ensures.slot (apart c) c.self.invariant.in_step.slots (others c) c.refresh_if_driven.ensures.state c.schedule_changes.ensures.state;
}

pub returns-clause-state : goal.returns-clause-state
returns-clause-state c =
    rw (← c.self.view_is) (moved_as c.self.inside.framers.items c.self.inside.power c.self.inside.table c.shift.new.self (after_shift c.self.inside.table c.args.src c.args.dest) c.args.src c.in_ok-slot.slot c.self.inside.schedule c.refresh_if_driven.new.schedule c.schedule_changes.new.schedule (places_with c.in_ok-slot.slot All)
    (src_is c) c.in_ok-slot.ensures.slot (apart c) c.self.invariant.in_step.slots (others c) c.refresh_if_driven.ensures.state c.schedule_changes.ensures.state c.shift.ensures.after)
