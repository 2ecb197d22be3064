use Rattle.std.proofs.Common.{◌≡◌, ◌∙◌, refl, ap, sym, arith, replicate, zero, suc, List, ℕ, []}
use Rattle.std.specs.Prelude.{slice_index_or}
use Rattle.ln_frame.specs.Unfinished.{unfinished_of}
use Rattle.std.proofs.lemmas.List.{length-replicate}
use Rattle.refresh_ring.specs.Scheduled.{Scheduled}
use Rattle.station_core.specs.Slots.{refreshed_slots}
use Rattle.station_core.proofs.Steps.{refreshed_slots-first}
use Rattle.station_core.proofs.station.Station.new.Goals as goal

none_unfinished : (count line : ℕ) → unfinished_of (slice_index_or (replicate {A = List ℕ} count []) line []) ≡ slice_index_or (replicate {A = List ℕ} count []) line []
none_unfinished zero line = refl
none_unfinished (suc count) zero = refl
none_unfinished (suc count) (suc line) = none_unfinished count line

pub invariant_of-result : goal.invariant_of-result
invariant_of-result c = record {
  lines = rw c.loop.invariant (omega (arith, length-replicate {A = List ℕ} c.loop.counter []), omega (arith, length-replicate {A = List ℕ} c.loop.counter []));
  unfinished = λ line. rw c.loop.invariant (none_unfinished c.loop.counter line);
  in_step = record {
    desk = c.new-in-Ok.ensures.desk;
    slots = ap (λ (s : Scheduled). s.slots) c.in-Ok.ensures.first ∙ sym refreshed_slots-first ∙ ap refreshed_slots (sym c.new-in-Ok.ensures.first);
    schedule = c.in-Ok.ensures.legal;
  };
}
