-- The slots of a desk as its schedule sees them, one after another.
use Rattle.std.specs.Prelude.{ℕ, ◌≡◌, Bool, List, map, length, refl}
use Rattle.std.specs.List.{range_with_len}
use Rattle.slot_table.specs.Desk.{Desk}
use Rattle.slot_table.specs.Reading.{row_of}
use Rattle.station_core.specs.Refreshed.{is_refreshed}

-- whether each of the slots 1 to 119 is refreshed, in order
unfoldable pub refreshed_slots : Desk → List Bool
refreshed_slots desk = map (is_refreshed desk) (range_with_len 1 119)

-- the addresses in the slots 1 to 119, in order; 0 where a slot is free
unfoldable pub addresses : Desk → List ℕ
addresses desk = map (λ n. (row_of desk n).address) (range_with_len 1 119)

pub length-addresses : (desk : Desk) → length (addresses desk) ≡ 119
unfolding addresses
length-addresses desk = refl
