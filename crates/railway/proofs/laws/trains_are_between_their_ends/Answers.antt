use Rattle.std.proofs.Common.{◌≡◌, ℕ, ◌<◌, Bool, true, false, inl, inr, List, ap, sym, ◌∙◌}
use Rattle.std.proofs.lemmas.Bool.{and_from, and_parts, lt-ltb}
use Rattle.std.proofs.lemmas.List.{get_or-replicate}
use Rattle.std.specs.List.{slice_index_or}
use Rattle.std.specs.Prelude.{IsTrue, nat_lt}
use Rattle.railway.specs.declared.train.TrainState.{TrainState}
use Rattle.railway.specs.Blocks.{no_blocks}
use Rattle.railway.specs.Laws.{IsOnWay}
use Rattle.railway.specs.Network.{Network}
use Rattle.railway.specs.Places.{is_derailed, span}
use Rattle.railway.specs.Railway.{is_train}
use Rattle.railway.specs.Reports.{occupies}
use Rattle.railway.proofs.Covering.{covered-way, way-covered}
use Rattle.railway.proofs.Keeping.{whole-of}
use Rattle.railway.proofs.Runs.{parts-of}
use Rattle.railway.proofs.laws.trains_are_between_their_ends.Goals as goal

apart : false ≡ true → ⊥
apart e = cc

one_way : (n : Network) (t : TrainState) (b : ℕ) → is_train n t ≡ true → is_derailed t ≡ false → b < 64 → IsTrue (occupies b t) → IsOnWay n t.rear (span t) b
one_way n t b h rails less is =
    let knows = (whole-of n t (parts-of n t h).whole rails).knows in
    let set : slice_index_or t.under b false ≡ true = (and_parts (nat_lt b 64) (slice_index_or t.under b false) is).1 in
    elim (covered-way n t.rear (span t) b no_blocks (sym (ap (λ (m : List Bool). slice_index_or m b false) knows) ∙ set)) [
      | inl on ↦ on
      | inr before ↦ absurd (apart (sym (get_or-replicate 64 b false false less) ∙ before))
    ]

other_way : (n : Network) (t : TrainState) (b : ℕ) → is_train n t ≡ true → is_derailed t ≡ false → b < 64 → IsOnWay n t.rear (span t) b → IsTrue (occupies b t)
other_way n t b h rails less on =
    let knows = (whole-of n t (parts-of n t h).whole rails).knows in
    and_from (nat_lt b 64) (slice_index_or t.under b false) (lt-ltb b 64 less)
    (ap (λ (m : List Bool). slice_index_or m b false) knows ∙ way-covered n t.rear (span t) on.part b no_blocks on.place less on.within on.there on.in_block)

pub returns : goal.returns
returns c = record { between = λ n t b h rails less. (one_way n t b h rails less, other_way n t b h rails less) }
