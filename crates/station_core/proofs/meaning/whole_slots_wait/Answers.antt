use Rattle.std.proofs.Common.{ℕ, inl, inr, Ok, sym, subst}
use Rattle.std.specs.Prelude.{Contains}
use Rattle.ln_ops.specs.declared.op.Op.{Op}
use Rattle.slot_table.specs.Desk.{Desk}
use Rattle.refresh_ring.specs.declared.kind.Kind.{Kind}
use Rattle.station_core.specs.Schedule.{changed_places, of_slot, of_write}
use Rattle.station_core.specs.Meaning.{LeavesSlot}
use Rattle.station_core.proofs.Anew.{all_of}
use Rattle.station_core.proofs.meaning.whole_slots_wait.Goals as goal

named : (desk : Desk) (op : Op) (slot : ℕ) (kind : Kind) → LeavesSlot desk op slot → Contains (changed_places desk op) (slot, kind)
named desk op slot kind whole = elim whole [
  | inl stat ↦ subst (λ (o : Op). Contains (changed_places desk o) (slot, kind)) (sym stat.1) (rw stat.2 (all_of slot kind))
  | inr other ↦ elim other [
    | inl move ↦ subst (λ (o : Op). Contains (changed_places desk o) (slot, kind)) (sym move.2) (subst (λ r. Contains (of_slot r) (slot, kind)) (sym move.3) (all_of slot kind))
    | inr write ↦ subst (λ (o : Op). Contains (changed_places desk o) (slot, kind)) (sym write.1)
        (subst (λ r. Contains (of_write write.0.slot r) (slot, kind)) (sym write.3) (subst (λ (n : ℕ). Contains (of_slot (Ok write.0.slot)) (n, kind)) (sym write.2) (all_of write.0.slot kind)))
  ]
]

pub returns : goal.returns
returns c seen op slot kind is whole live = c.changes_wait.ensures seen op slot kind is (named seen.powered.desk op slot kind whole) live
