use Rattle.std.proofs.Common.{inl, inr}
use Rattle.station_core.proofs.Anew.{op_told}
use Rattle.station_core.proofs.meaning.what_is_new_waits.Goals as goal

pub returns : goal.returns
returns c seen op slot kind desk is new live = elim (op_told seen.powered.desk slot kind (c.others_stay.ensures seen.powered.desk slot desk) (c.own_slots.ensures seen.powered.desk desk) op live) [
  | inl named ↦ c.changes_wait.ensures seen op slot kind is named live
  | inr same ↦ elim new [
    | inl differs ↦ absurd (differs same.0)
    | inr off ↦ absurd cc
  ]
]
