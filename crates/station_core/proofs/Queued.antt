-- What a message changed waits.
use Rattle.std.proofs.Common.{◌≡◌, ℕ, ◌<◌, true, List, [], ◌∷◌, ◌++◌, Some, zero, suc, length, ap, sym, subst, ◌∙◌, arith}
use Rattle.std.specs.List.{slice_index_or}
use Rattle.std.specs.Prelude.{Contains}
use Rattle.ln_ops.specs.declared.op.Op.{Op}
use Rattle.ln_ops.specs.declared.op.Op.TheVariants.{SwReq, SwAck}
use Rattle.slot_table.specs.Desk.{Desk}
use Rattle.refresh_ring.specs.Places.{is_refreshed as is_slot_on}
use Rattle.refresh_ring.specs.Jobs.{sends_ahead}
use Rattle.refresh_ring.specs.Scheduled.{Scheduled, after_changed}
use Rattle.refresh_ring.specs.declared.kind.Kind.{Kind}
use Rattle.refresh_ring.specs.declared.job.Job.{Job}
use Rattle.station_core.specs.After.{desk_after}
use Rattle.station_core.specs.Schedule.{after_places, changed_places, schedule_asked}
use Rattle.station_core.specs.Promises.{ChangesWait}
use Rattle.station_core.specs.Slots.{refreshed_slots}
use Rattle.station_core.specs.Seen.{Seen, scheduled}
use Rattle.station_core.proofs.Picks.{slot_on}

abbrev ThrottleView : ℕ → Kind → List Job → Type 0
ThrottleView slot kind jobs = (ahead : ℕ) × (sends_ahead slot kind jobs ≡ Some ahead)

module _ (ahead_of : (slot : ℕ) (kind : Kind) (s : Scheduled) → is_slot_on s.slots slot ≡ true → (ahead : ℕ) × (sends_ahead slot kind (after_changed slot kind s).jobs ≡ Some ahead))
    (behind : (slot : ℕ) (kind : Kind) (jobs more : List Job) (ahead : ℕ) → sends_ahead slot kind jobs ≡ Some ahead → sends_ahead slot kind (jobs ++ more) ≡ Some ahead)
    (changed : (slot : ℕ) (kind : Kind) (s : Scheduled) → (more : List Job) × ((after_changed slot kind s).jobs ≡ s.jobs ++ more))
    (slot : ℕ) (kind : Kind) where
  kept_place : (other : ℕ) (other_kind : Kind) (s : Scheduled) → ThrottleView slot kind s.jobs → ThrottleView slot kind (after_changed other other_kind s).jobs
  kept_place other other_kind s known =
      let more : (more : List Job) × ((after_changed other other_kind s).jobs ≡ s.jobs ++ more) = changed other other_kind s in
      (known.0, ap (sends_ahead slot kind) more.1 ∙ behind slot kind s.jobs more.0 known.0 known.1)

  kept : (places : List (ℕ × Kind)) (s : Scheduled) → ThrottleView slot kind s.jobs → ThrottleView slot kind (after_places places s).jobs
  kept [] s known = known
  kept (p ∷ places) s known = kept places (after_changed p.0 p.1 s) (kept_place p.0 p.1 s known)

  waits_at : (k : ℕ) (places : List (ℕ × Kind)) (s : Scheduled) → is_slot_on s.slots slot ≡ true → k < length places → slice_index_or places k (slot, kind) ≡ (slot, kind) → ThrottleView slot kind (after_places places s).jobs
  waits_at k [] s on below is = absurd (omega (arith, below))
  waits_at zero (p ∷ places) s on below is =
      kept places (after_changed p.0 p.1 s) (subst (λ (q : ℕ × Kind). ThrottleView slot kind (after_changed q.0 q.1 s).jobs) (sym is) (ahead_of slot kind s on))
  waits_at (suc k) (p ∷ places) s on below is = waits_at k places (after_changed p.0 p.1 s) on (omega (arith, below)) is

  places_wait : (places : List (ℕ × Kind)) (s : Scheduled) → is_slot_on s.slots slot ≡ true → Contains places (slot, kind) → ThrottleView slot kind (after_places places s).jobs
  places_wait places s on at = waits_at at.0 places s on at.1 at.2

  op_waits : (desk : Desk) (op : Op) (s : Scheduled) → is_slot_on s.slots slot ≡ true → Contains (changed_places desk op) (slot, kind) → ThrottleView slot kind (schedule_asked desk op s).jobs
  op_waits desk (SwReq number closed on') s on at = absurd (omega (arith, at.1))
  op_waits desk (SwAck number closed on') s on at = absurd (omega (arith, at.1))
  op_waits desk op s on at = places_wait (changed_places desk op) s on at

pub changes_wait : ((slot : ℕ) (kind : Kind) (s : Scheduled) → is_slot_on s.slots slot ≡ true → (ahead : ℕ) × (sends_ahead slot kind (after_changed slot kind s).jobs ≡ Some ahead))
    → ((slot : ℕ) (kind : Kind) (jobs more : List Job) (ahead : ℕ) → sends_ahead slot kind jobs ≡ Some ahead → sends_ahead slot kind (jobs ++ more) ≡ Some ahead)
    → ((slot : ℕ) (kind : Kind) (s : Scheduled) → (more : List Job) × ((after_changed slot kind s).jobs ≡ s.jobs ++ more))
    → (seen : Seen) (op : Op) → ChangesWait seen op
changes_wait ahead_of behind changed seen op slot kind is at live =
    let desk : Desk = desk_after seen.powered.desk op in
    let schedule : Scheduled = scheduled seen in
    op_waits ahead_of behind changed slot kind seen.powered.desk op (record schedule { slots = refreshed_slots desk }) (slot_on desk slot is ∙ live) at
