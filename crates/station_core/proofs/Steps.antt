-- One slot follows the desk, and the others are as they were.
use Rattle.std.proofs.Common.{◌≡◌, ◌≢◌, ℕ, suc, zero, ◌+◌, ◌-◌, ◌<◌, Bool, false, length, get_or, set, map, replicate, refl, ap, sym, ◌∙◌, inl, inr, arith}
use Rattle.std.proofs.lemmas.Bool.{cases_eq}
use Rattle.std.proofs.lemmas.List.{ext_get_or, length-set, get_or-set_same, get_or-set_other, get_or-replicate}
use Rattle.std.specs.FinMap.{get-empty}
use Rattle.std.specs.List.{range_with_len}
use Rattle.std.specs.Ordering.{nat_cmp}
use Rattle.ln_ops.specs.declared.row.Row.{Row}
use Rattle.slot_table.specs.Entry.{IsSlot}
use Rattle.slot_table.specs.Desk.{Desk, first_desk}
use Rattle.slot_table.specs.Reading.{row_of}
use Rattle.station_core.specs.Refreshed.{is_driven, is_refreshed}
use Rattle.station_core.specs.Slots.{refreshed_slots, addresses}

map_range : (f : ℕ → Bool) (n k i : ℕ) → i < k → get_or (map f (range_with_len n k)) i false ≡ f (n + i)
map_range f n zero i low = absurd (omega arith)
map_range f n (suc k) zero low = ap f (omega arith)
map_range f n (suc k) (suc i) low = map_range f (n + 1) k i (omega arith) ∙ ap f (omega arith)

map_range_number : (f : ℕ → ℕ) (n k i : ℕ) → i < k → get_or (map f (range_with_len n k)) i 0 ≡ f (n + i)
map_range_number f n zero i low = absurd (omega arith)
map_range_number f n (suc k) zero low = ap f (omega arith)
map_range_number f n (suc k) (suc i) low = map_range_number f (n + 1) k i (omega arith) ∙ ap f (omega arith)

pub length-refreshed_slots : (desk : Desk) → length (refreshed_slots desk) ≡ 119
unfolding refreshed_slots
length-refreshed_slots desk = refl

pub get-refreshed_slots : (desk : Desk) (i : ℕ) → i < 119 → get_or (refreshed_slots desk) i false ≡ is_refreshed desk (i + 1)
unfolding refreshed_slots
get-refreshed_slots desk i low = map_range (is_refreshed desk) 1 119 i low ∙ ap (is_refreshed desk) (omega arith)

pub followed : (old new : Desk) (n : ℕ) → IsSlot n → ((m : ℕ) → m ≢ n → row_of new m ≡ row_of old m) → set (refreshed_slots old) (n - 1) (is_refreshed new n) ≡ refreshed_slots new
followed old new n is others = ext_get_or false (set (refreshed_slots old) (n - 1) (is_refreshed new n)) (refreshed_slots new)
    (length-set (refreshed_slots old) (n - 1) (is_refreshed new n) ∙ length-refreshed_slots old ∙ sym (length-refreshed_slots new))
    (λ i low.
    let in_range : i < 119 = omega (arith, length-set (refreshed_slots old) (n - 1) (is_refreshed new n), length-refreshed_slots old) in
    elim (cases_eq i (n - 1)) [
      | inl e ↦
          let at : i + 1 ≡ n = omega arith in
          ap (λ (k : ℕ). get_or (set (refreshed_slots old) (n - 1) (is_refreshed new n)) k false) e
          ∙ get_or-set_same (refreshed_slots old) (n - 1) (is_refreshed new n) false (omega (arith, length-refreshed_slots old))
          ∙ ap (is_refreshed new) (sym at) ∙ sym (get-refreshed_slots new i in_range)
      | inr ne ↦
          get_or-set_other (refreshed_slots old) (n - 1) i (is_refreshed new n) false ne
          ∙ get-refreshed_slots old i in_range
          ∙ sym (ap (λ (r : Row). is_driven r.state) (others (i + 1) (λ e. ne (omega arith))))
          ∙ sym (get-refreshed_slots new i in_range)
    ])

pub get-addresses : (desk : Desk) (i : ℕ) → i < 119 → get_or (addresses desk) i 0 ≡ (row_of desk (i + 1)).address
unfolding addresses
get-addresses desk i low = map_range_number (λ n. (row_of desk n).address) 1 119 i low ∙ ap (λ (n : ℕ). (row_of desk n).address) (omega arith)

-- two slots follow the desk, and the others are as they were
pub followed_both : (old new : Desk) (src dest : ℕ) → IsSlot src → IsSlot dest → src ≢ dest → ((m : ℕ) → m ≢ src → m ≢ dest → row_of new m ≡ row_of old m)
    → set (set (refreshed_slots old) (src - 1) (is_refreshed new src)) (dest - 1) (is_refreshed new dest) ≡ refreshed_slots new
followed_both old new src dest is_src is_dest apart others =
    let first = set (refreshed_slots old) (src - 1) (is_refreshed new src) in
    let size : length (set (refreshed_slots old) (src - 1) (is_refreshed new src)) ≡ 119 = length-set (refreshed_slots old) (src - 1) (is_refreshed new src) ∙ length-refreshed_slots old in
    ext_get_or false (set first (dest - 1) (is_refreshed new dest)) (refreshed_slots new)
    (length-set first (dest - 1) (is_refreshed new dest) ∙ size ∙ sym (length-refreshed_slots new))
    (λ i low.
    let in_range : i < 119 = omega (arith, length-set first (dest - 1) (is_refreshed new dest), size) in
    elim (cases_eq i (dest - 1)) [
      | inl e ↦
          let at : i + 1 ≡ dest = omega arith in
          ap (λ (k : ℕ). get_or (set first (dest - 1) (is_refreshed new dest)) k false) e
          ∙ get_or-set_same first (dest - 1) (is_refreshed new dest) false (omega (arith, size))
          ∙ ap (is_refreshed new) (sym at) ∙ sym (get-refreshed_slots new i in_range)
      | inr ne ↦
          get_or-set_other first (dest - 1) i (is_refreshed new dest) false ne
          ∙ elim (cases_eq i (src - 1)) [
            | inl e ↦
                let at : i + 1 ≡ src = omega arith in
                ap (λ (k : ℕ). get_or first k false) e
                ∙ get_or-set_same (refreshed_slots old) (src - 1) (is_refreshed new src) false (omega (arith, length-refreshed_slots old))
                ∙ ap (is_refreshed new) (sym at) ∙ sym (get-refreshed_slots new i in_range)
            | inr away ↦
                get_or-set_other (refreshed_slots old) (src - 1) i (is_refreshed new src) false away
                ∙ get-refreshed_slots old i in_range
                ∙ sym (ap (λ (r : Row). is_driven r.state) (others (i + 1) (λ e. away (omega arith)) (λ e. ne (omega arith))))
                ∙ sym (get-refreshed_slots new i in_range)
          ]
    ])

-- no slot of a new desk is refreshed
not_refreshed : (n : ℕ) → is_refreshed first_desk n ≡ false
not_refreshed n = rw (get-empty nat_cmp n) refl

pub refreshed_slots-first : refreshed_slots first_desk ≡ replicate 119 false
refreshed_slots-first = ext_get_or false (refreshed_slots first_desk) (replicate 119 false)
    (length-refreshed_slots first_desk)
    (λ i low.
    let in_range : i < 119 = omega (arith, length-refreshed_slots first_desk) in
    get-refreshed_slots first_desk i in_range ∙ not_refreshed (i + 1) ∙ sym (get_or-replicate 119 i false false in_range))
