-- What a station keeps.
use Rattle.std.specs.Prelude.{ℕ, ◌≡◌, ◌≤◌, List, [], length, slice_index_or}
use Rattle.ln_frame.specs.Unfinished.{unfinished_of}
use Rattle.slot_table.specs.Desk.{Desk, IsDesk}
use Rattle.refresh_ring.specs.Scheduled.{Scheduled, IsScheduled}
use Rattle.station_core.specs.Slots.{refreshed_slots}

-- the schedule goes by the desk
pub record InStep (d : Desk) (s : Scheduled) : Type 0 where
  pub desk : IsDesk d
  pub slots : s.slots ≡ refreshed_slots d
  pub schedule : IsScheduled s

pub record IsStation (all : List (List ℕ)) (desk : Desk) (s : Scheduled) : Type 0 where
  pub lines : (1 ≤ length all) × (length all ≤ 8)
  -- of each line only what is unfinished
  pub unfinished : (line : ℕ) → unfinished_of (slice_index_or all line []) ≡ slice_index_or all line []
  pub in_step : InStep desk s
