-- The name of a decoder, by its index.
use Rattle.std.proofs.Common.{◌≡◌, ◌<◌, ◌≤◌, ℕ, zero, suc, List, [], ◌∷◌, length, refl, arith}
use Rattle.std.specs.Prelude.{slice_get}
use Rattle.std.specs.List.{slice_index_or}
use Rattle.roster.specs.Entry.{Entry, name_of}
use Rattle.roster.specs.Decoders.{decoder_name}

pub name_found : (entries : List Entry) (i : ℕ) (name : List ℕ) → i < length entries → ((none : Entry) → name ≡ name_of (slice_index_or entries i none)) → name ≡ decoder_name (slice_get entries i)
name_found [] i name below is = absurd (omega (arith, below))
name_found (entry ∷ entries) zero name below is = is entry
name_found (entry ∷ entries) (suc i) name below is = name_found entries i name (omega (arith, below)) is

pub name_lost : (entries : List Entry) (i : ℕ) → length entries ≤ i → [] ≡ decoder_name (slice_get entries i)
name_lost [] i over = refl
name_lost (entry ∷ entries) zero over = absurd (omega (arith, over))
name_lost (entry ∷ entries) (suc i) over = name_lost entries i (omega (arith, over))
