-- Decoders on a bench.
use Rattle.std.proofs.Common.{refl, subst, eq-eqb, ne_eqb, ◌≡◌, ℕ, suc, ◌+◌, ◌<◌, Bool, if◌then◌else◌, List, length, Option, Some, None, ap, sym, ◌∙◌, inl, inr, arith}
use Rattle.std.specs.Prelude.{◌==◌, IfSome, option_map, position, slice_set}
use Rattle.std.specs.List.{position_or_len, slice_index_or}
use Rattle.std.proofs.lemmas.Bool.{cases_eq, cases_lt, le-ltb, lt-ltb}
use Rattle.std.proofs.lemmas.List.{get_or-set_same, get_or-set_other, length-set}
use Rattle.cv_memory.specs.Hearing.{CvState}
use Rattle.programming_track.specs.Track.{restarted}
use Rattle.programming_track.specs.Bench.{BenchState, IsBench, decoder_named, dismounted, first_of, is_index, mounted_as, mounted_at, put_back, values_of}

-- one position more
pub first_step : (left from rest : ℕ) (holds : ℕ → Bool) → left ≡ suc rest
    → first_of left from holds ≡ (if holds from then Some from else first_of rest (from + 1) holds)
first_step left from rest holds some = ap (λ (n : ℕ). first_of n from holds) some

same_some : (a b : ℕ) → Some a ≡ Some b → a ≡ b
same_some a b h = cc

-- what is found is within the list
pub position_within : {X : Type 0} (p : X → Bool) (xs : List X) (index : ℕ) → position p xs ≡ Some index → index < length xs
position_within p xs index found =
    let n : ℕ = position_or_len p xs in
    let value : Bool → Option ℕ = λ less. if less then Some n else None in
    elim (cases_lt n (length xs)) [
      | inl less ↦ let same : n ≡ index = same_some n index (sym (ap value (lt-ltb n (length xs) less)) ∙ found) in omega (arith, same, less)
      | inr most ↦ let none : None ≡ Some index = sym (ap value (le-ltb n (length xs) most)) ∙ found in cc
    ]

-- A decoder that goes back to its place has its variables there, and all others theirs.

pub length-put_back : (mounted : Option ℕ) (decoder : Option CvState) (memories : List (Option CvState)) → length (put_back mounted decoder memories) ≡ length memories
length-put_back None decoder memories = refl
length-put_back (Some index) decoder memories = length-set memories index decoder

there : (mounted : Option ℕ) (decoder : Option CvState) (memories : List (Option CvState)) (index : ℕ) → IfSome mounted (λ at. at < length memories)
    → slice_index_or (put_back mounted decoder memories) index None ≡ (if is_index mounted index then decoder else slice_index_or memories index None)
there None decoder memories index h = refl
there (Some at) decoder memories index h = elim (cases_eq index at) [
  | inl same ↦ subst (λ (n : ℕ). slice_index_or (slice_set memories at decoder) n None ≡ (if at == n then decoder else slice_index_or memories n None)) (sym same)
      (get_or-set_same memories at decoder None h ∙ sym (ap (λ (is : Bool). if is then decoder else slice_index_or memories at None) (eq-eqb at at refl)))
  | inr differs ↦ get_or-set_other memories at index decoder None differs
      ∙ sym (ap (λ (is : Bool). if is then decoder else slice_index_or memories index None) (ne_eqb at index (λ e. differs (sym e))))
]

values : Option CvState → Option (List ℕ)
values memory = option_map (λ m. m.values) memory

restarts : (memory : Option CvState) → values (option_map restarted memory) ≡ values memory
unfolding values
restarts None = refl
restarts (Some memory) = refl

put_there : (at index : ℕ) (memories : List (Option CvState)) → at < length memories
    → values (if at == index then option_map restarted (slice_index_or memories at None) else slice_index_or (slice_set memories at None) index None)
    ≡ values (slice_index_or memories index None)
put_there at index memories h =
    let taken : ℕ → Bool → Option (List ℕ) = λ n is. values (if is then option_map restarted (slice_index_or memories at None) else slice_index_or (slice_set memories at None) n None) in
    elim (cases_eq index at) [
      | inl same ↦ ap (taken index) (eq-eqb at index (sym same)) ∙ restarts (slice_index_or memories at None) ∙ ap (λ (n : ℕ). values (slice_index_or memories n None)) (sym same)
      | inr differs ↦ ap (taken index) (ne_eqb at index (λ e. differs (sym e))) ∙ ap values (get_or-set_other memories at index None None differs)
    ]

pub dismounting_keeps : (b : BenchState) (index : ℕ) → IsBench b → values_of (dismounted b) index ≡ values_of b index
dismounting_keeps b index h = ap (λ (memory : Option CvState). option_map (λ m. m.values) memory) (there b.mounted b.track.decoder b.memories index h.mounted)

mounting_at : (b : BenchState) (found : Option ℕ) (index : ℕ) → IsBench b → ((at : ℕ) → found ≡ Some at → at < length b.names) → values_of (mounted_at found b) index ≡ values_of b index
unfolding values
mounting_at b None index h within = refl
mounting_at b (Some at) index h within =
    let memories : List (Option CvState) = put_back b.mounted b.track.decoder b.memories in
    put_there at index memories (omega (arith, within at refl, h.as_many, length-put_back b.mounted b.track.decoder b.memories))
    ∙ dismounting_keeps b index h

pub mounting_keeps : (b : BenchState) (name : List ℕ) (index : ℕ) → IsBench b → values_of (mounted_as name b) index ≡ values_of b index
mounting_keeps b name index h = mounting_at b (decoder_named b name) index h (λ at found. position_within _ b.names at found)
