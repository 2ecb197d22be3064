-- Events of a list, one at a time.
use Rattle.std.proofs.Common.{ℕ, ◌<◌, zero, suc, List, [], ◌∷◌, length, arith}
use Rattle.std.proofs.lemmas.Bool.{and_parts}
use Rattle.std.specs.List.{list_all, slice_index_or}
use Rattle.std.specs.Prelude.{IsTrue}
use Rattle.station_c.specs.declared.event.EventFields.{EventFields}
use Rattle.station_c.specs.Event.{is_one}

pub one_at : (lines nodes : ℕ) (events : List EventFields) (i : ℕ) (d : EventFields) → i < length events → IsTrue (list_all (is_one lines nodes) events) → IsTrue (is_one lines nodes (slice_index_or events i d))
one_at lines nodes [] i d below are = absurd (omega arith)
one_at lines nodes (event ∷ events) zero d below are = (and_parts _ _ are).0
one_at lines nodes (event ∷ events) (suc i) d below are = one_at lines nodes events i d (omega arith) (and_parts _ _ are).1
