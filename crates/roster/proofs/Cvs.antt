-- The pairs among the values of an array.
use Rattle.std.proofs.Common.{◌≡◌, ◌+◌, ◌<◌, Bool, true, false, ◌&&◌, inl, inr, List, [], ◌∷◌, Option, Some, None, Err, option_map, if◌then◌else◌, length, map, nat_le, arith, refl, ap, ap₂, sym, ◌∙◌}
use Rattle.std.specs.List.{cons_option, list_all}
use Rattle.std.specs.Option.{is_some, unwrap_or}
use Rattle.std.proofs.Math.Bool.{and-true}
use Rattle.std.proofs.lemmas.Bool.{and_cases, and_parts, leb-false}
use Rattle.std.proofs.lemmas.List.{length-map}
use Rattle.toml.specs.declared.value.Value.{Value}
use Rattle.toml.specs.Data.{Data}
use Rattle.toml.specs.View.{items_of, items_view, view}
use Rattle.decoder_cv.specs.declared.cv_pair.CvPair.{CvPair}
use Rattle.decoder_cv.specs.declared.cv_fault.CvFault.TheVariants.{BadList}
use Rattle.decoder_cv.specs.Listed.{listed}
use Rattle.roster.specs.declared.fault.RosterFaultKind.TheVariants.{BadCv, BadCvList}
use Rattle.roster.specs.declared.pair.Pair.{Pair}
use Rattle.roster.specs.Decoder.{loco_of}
use Rattle.roster.specs.Format.{loco_listed}
use Rattle.roster.specs.Pairs.{are_pairs, cv_pair_of, cv_pairs_after, has_byte, has_word, pair_of, pairs_of, values_in}

values_of : (ds : List Data) → values_in (items_of ds) ≡ ds
values_of [] = refl
values_of (d ∷ ds) = ap (λ es. d ∷ es) (values_of ds)

pub values_in_view : (vs : List Value) → values_in (items_view vs) ≡ map view vs
values_in_view vs = values_of (map view vs)

pub are_pairs_view : (vs : List Value) → are_pairs (values_in (items_view vs)) ≡ list_all (λ v. is_some (pair_of (view v))) vs
are_pairs_view [] = refl
are_pairs_view (v ∷ vs) = ap (λ b. is_some (pair_of (view v)) && b) (are_pairs_view vs)

have_byte : (o : Option Pair) (pairs : List Pair) (b : Bool) → list_all has_byte pairs ≡ b → list_all has_byte (cons_option o pairs) ≡ (unwrap_or (option_map has_byte o) true && b)
have_byte None pairs b e = e
have_byte (Some pair) pairs b e = ap (λ c. has_byte pair && c) e

pub have_bytes_view : (vs : List Value) → list_all has_byte (pairs_of (map view vs)) ≡ list_all (λ v. unwrap_or (option_map has_byte (pair_of (view v))) true) vs
have_bytes_view [] = refl
have_bytes_view (v ∷ vs) = have_byte (pair_of (view v)) (pairs_of (map view vs)) _ (have_bytes_view vs)

-- the decoder of a list

both_tests : (pairs : List Pair) → list_all has_byte pairs ≡ true → list_all (λ pair. has_word pair && has_byte pair) pairs ≡ list_all has_word pairs
both_tests [] e = refl
both_tests (pair ∷ pairs) e =
    let (here, rest) = and_parts (has_byte pair) (list_all has_byte pairs) e in
    ap₂ (λ a b. a && b) (ap (λ t. has_word pair && t) here ∙ and-true (has_word pair)) (both_tests pairs rest)

some_if : {A : Type 0} (b : Bool) (x y : A) → (if b then Some x else None) ≡ Some y → (b ≡ true) × (x ≡ y)
some_if true x y e = (refl, cc)
some_if false x y e = cc

none_if : {A : Type 0} (b : Bool) (x : A) → (if b then Some x else None) ≡ None → b ≡ false
none_if true x e = cc
none_if false x e = refl

pub bytes_wrong : (pairs : List Pair) → list_all has_byte pairs ≡ false → loco_listed pairs ≡ Err BadCv
bytes_wrong pairs e = rw e refl

pub list_taken : (pairs : List Pair) (taken : List CvPair) → list_all has_byte pairs ≡ true → cv_pairs_after [] pairs ≡ Some taken → loco_listed pairs ≡ loco_of (listed taken)
list_taken pairs taken bytes e =
    let (tests, same) = some_if _ (map cv_pair_of pairs) taken e in
    let (words, few) = and_parts _ (nat_le (0 + length pairs) 1024) tests in
    rw (bytes, sym (both_tests pairs bytes) ∙ words, same) refl

same_ways : {A : Type 0} (b : Bool) {x : A} → (if b then x else x) ≡ x
same_ways true = refl
same_ways false = refl

pub list_refused : (pairs : List Pair) → list_all has_byte pairs ≡ true → cv_pairs_after [] pairs ≡ None → ((taken : List CvPair) → 1024 < length taken → listed taken ≡ Err BadList) → loco_listed pairs ≡ Err BadCvList
list_refused pairs bytes e long =
    let fails = none_if _ (map cv_pair_of pairs) e in
    elim (and_cases (list_all (λ pair. has_word pair && has_byte pair) pairs) (nat_le (0 + length pairs) 1024) fails) [
      | inl words ↦ rw (bytes, sym (both_tests pairs bytes) ∙ words) refl
      | inr many ↦
          let count : 1024 < length (map cv_pair_of pairs) = omega (arith, leb-false (0 + length pairs) 1024 many, length-map pairs cv_pair_of) in
          rw (bytes, long (map cv_pair_of pairs) count) (same_ways (list_all has_word pairs))
    ]
