-- Places of the refresh ring (the project's own profile): slot n with kind k, counted from 0, is
-- place 119 * k + n.
use Rattle.std.specs.Prelude.{ℕ, ◌≡◌, ◌+◌, ◌-◌, ◌*◌, ◌/◌, ◌%◌, ◌<◌, ◌≤◌, ◌⊎◌, ◌&&◌, nat_le, Bool, true, false, if◌then◌else◌, List, Option, Some, None, MatchOption, slice_index_or}
use Rattle.std.proofs.Common.{zero, suc}
use Rattle.std.specs.Option.{option_or}
pub use Rattle.dcc_packet.specs.Kinds.{kinds}
use Rattle.refresh_ring.specs.declared.kind.Kind.{Kind}
use Rattle.refresh_ring.specs.declared.kind.Kind.TheVariants.{Speed, GroupOne, GroupTwo, GroupThree}

abbrev pub slot_count : ℕ
slot_count = 119

-- places are numbered from 1 on
abbrev pub last_place : ℕ
last_place = slot_count * kinds

abbrev pub IsSlot : ℕ → Type 0
IsSlot slot = (1 ≤ slot) × (slot ≤ slot_count)

abbrev pub IsPlace : ℕ → Type 0
IsPlace place = (1 ≤ place) × (place ≤ last_place)

abbrev pub number_of : Kind → ℕ
number_of Speed = 0
number_of GroupOne = 1
number_of GroupTwo = 2
number_of GroupThree = 3

abbrev pub place_of : ℕ → Kind → ℕ
place_of slot kind = slot_count * number_of kind + slot

abbrev pub slot_of : ℕ → ℕ
slot_of place = (place - 1) % slot_count + 1

abbrev pub kind_at : ℕ → Kind
kind_at zero = Speed
kind_at (suc zero) = GroupOne
kind_at (suc (suc zero)) = GroupTwo
kind_at (suc (suc (suc n))) = GroupThree

abbrev pub kind_of : ℕ → Kind
kind_of place = kind_at ((place - 1) / slot_count)

-- whether a slot is refreshed, of the list of the slots from 1 on
abbrev pub is_refreshed : List Bool → ℕ → Bool
is_refreshed slots slot = nat_le 1 slot && slice_index_or slots (slot - 1) false

-- a place is refreshed where its slot is
abbrev pub is_place_on : List Bool → ℕ → Bool
is_place_on slots place = is_refreshed slots (slot_of place)

abbrev pub IsRefreshed : List Bool → ℕ → Type 0
IsRefreshed slots place = (1 ≤ place) × (place ≤ last_place) × (is_place_on slots place ≡ true)

-- the law of the ring: the least refreshed place above the cursor; if there is none, the least
-- refreshed place; None where nothing is refreshed
abbrev pub IsNext : List Bool → ℕ → Option ℕ → Type 0
IsNext slots cursor next = MatchOption next ((q : ℕ) → ¬ IsRefreshed slots q) (λ p. IsRefreshed slots p
    × (((cursor < p) × ((q : ℕ) → cursor < q → q < p → ¬ IsRefreshed slots q))
    ⊎ ((p ≤ cursor) × ((q : ℕ) → cursor < q → ¬ IsRefreshed slots q) × ((q : ℕ) → q < p → ¬ IsRefreshed slots q))))

-- the least of the n numbers from this one on that passes, if there is one
unfoldable pub first_from : (ℕ → Bool) → ℕ → ℕ → Option ℕ
first_from test from zero = None
first_from test from (suc n) = if test from then Some from else first_from test (suc from) n

-- the place that the law of the ring names
unfoldable pub next_place : List Bool → ℕ → Option ℕ
next_place slots cursor = option_or (first_from (is_place_on slots) (cursor + 1) (last_place - cursor)) (first_from (is_place_on slots) 1 last_place)
