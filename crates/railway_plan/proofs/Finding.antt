-- The decoder of a name, one after another.
use Rattle.std.proofs.Common.{◌≡◌, ℕ, zero, suc, ◌+◌, ◌<◌, true, false, List, [], ◌∷◌, length, drop, map, arith, Some, refl}
use Rattle.std.specs.List.{slice_index_or}
use Rattle.std.specs.Str.{bytes_eq}
use Rattle.roster.specs.Entry.{Entry, name_of}
use Rattle.railway_plan.specs.Format.{index_from}

pub found : (entries : List Entry) (k i : ℕ) (name : List ℕ) (none : Entry) → i < length entries → bytes_eq name (name_of (slice_index_or entries i none)) ≡ true → index_from k (map name_of (drop i entries)) name ≡ Some k
found [] k i name none within same = absurd (omega arith)
found (entry ∷ entries) k zero name none within same = rw same refl
found (entry ∷ entries) k (suc i) name none within same = found entries k i name none (omega (arith, within)) same

pub found_later : (entries : List Entry) (k i : ℕ) (name : List ℕ) (none : Entry) → i < length entries → bytes_eq name (name_of (slice_index_or entries i none)) ≡ false
    → index_from k (map name_of (drop i entries)) name ≡ index_from (k + 1) (map name_of (drop (suc i) entries)) name
found_later [] k i name none within other = absurd (omega arith)
found_later (entry ∷ entries) k zero name none within other = rw other refl
found_later (entry ∷ entries) k (suc i) name none within other = found_later entries k i name none (omega (arith, within)) other
