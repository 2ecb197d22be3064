-- The places that wait stay marked.
use Rattle.std.proofs.Common.{◌≡◌, ℕ, ◌+◌, ◌==◌, Bool, true, false, ◌||◌, if◌then◌else◌, List, [], ◌∷◌, ◌++◌, Some, slice_get, drop, replicate, refl, sym, ap, subst, ◌∙◌, arith, eqb, eqb-true, eq-eqb}
use Rattle.std.specs.List.{AllByRecursion}
use Rattle.std.proofs.lemmas.Bool.{and_parts, both_ways, cond_both}
use Rattle.std.proofs.lemmas.Map.Keys.{IsDistinct-head}
use Rattle.std.proofs.lemmas.List.Folds.{list_any-append}
use Rattle.refresh_ring.specs.Places.{IsSlot, place_of, number_of}
use Rattle.refresh_ring.specs.Jobs.{is_place, is_queued, places_in, requests_in, IsQueue}
use Rattle.refresh_ring.specs.Marked.{IsMarked}
use Rattle.refresh_ring.specs.declared.kind.Kind.{Kind}
use Rattle.refresh_ring.specs.declared.job.Job.{Job}
use Rattle.refresh_ring.specs.declared.job.Job.TheVariants.{Place, Request}
use Rattle.refresh_ring.specs.Words.{word_count, is_in}
use Rattle.refresh_ring.proofs.Spread.{empty-out}
use Rattle.refresh_ring.proofs.Queued.{place_of-other, requests_in-append}

-- the same slot and kind make the same place
same_place : (slot : ℕ) (kind : Kind) (other : ℕ) (other_kind : Kind) → is_place slot kind (Place other other_kind) ≡ true → place_of other other_kind ≡ place_of slot kind
same_place slot kind other other_kind here =
    let parts = and_parts (other == slot) (number_of other_kind == number_of kind) here in
    let slots : other ≡ slot = eqb-true other slot parts.0 in
    let kinds : number_of other_kind ≡ number_of kind = eqb-true (number_of other_kind) (number_of kind) parts.1 in
    omega arith

-- a place was marked, or its mark taken away, and the others stay
abbrev IsSet : List ℕ → List ℕ → ℕ → Bool → Type 0
IsSet old new place on = (other : ℕ) → is_in new other ≡ (if other == place then on else is_in old other)

-- a place is one slot and one kind
one_place : (place slot : ℕ) (kind : Kind) (other : ℕ) (other_kind : Kind) → place ≡ place_of slot kind → IsSlot slot → IsSlot other → (place_of other other_kind == place) ≡ is_place other other_kind (Place slot kind)
one_place place slot kind other other_kind at in_range other_in = rw at (by_test (is_place other other_kind (Place slot kind)) refl)
  where
    by_test : (b : Bool) → is_place other other_kind (Place slot kind) ≡ b → (place_of other other_kind == place_of slot kind) ≡ b
    by_test true e = eq-eqb (place_of other other_kind) (place_of slot kind) (sym (same_place other other_kind slot kind e))
    by_test false e = place_of-other other other_kind slot kind other_in in_range e

pub marked-empty : IsMarked (replicate word_count 0) []
marked-empty slot kind in_range = empty-out (place_of slot kind)

or_last : (here marked before : Bool) → marked ≡ before → (if here then true else marked) ≡ (before || (here || false))
or_last true marked true e = refl
or_last true marked false e = refl
or_last false marked true e = e
or_last false marked false e = e

pub marked-place : (old new : List ℕ) (jobs : List Job) (place slot : ℕ) (kind : Kind) → place ≡ place_of slot kind → IsSlot slot → IsMarked old jobs → IsSet old new place true → IsMarked new (jobs ++ Place slot kind ∷ [])
marked-place old new jobs place slot kind at is was set other other_kind in_range =
    set (place_of other other_kind)
    ∙ ap (λ b. if b then true else is_in old (place_of other other_kind)) (one_place place slot kind other other_kind at is in_range)
    ∙ or_last (is_place other other_kind (Place slot kind)) (is_in old (place_of other other_kind)) (is_queued other other_kind jobs) (was other other_kind in_range)
    ∙ sym (list_any-append (is_place other other_kind) jobs (Place slot kind ∷ []))

or_none : (before : Bool) → before ≡ (before || false)
or_none true = refl
or_none false = refl

pub marked-request : (marks : List ℕ) (jobs : List Job) (number : ℕ) (closed on again : Bool) → IsMarked marks jobs → IsMarked marks (jobs ++ Request number closed on again ∷ [])
marked-request marks jobs number closed on again was other other_kind in_range =
    was other other_kind in_range ∙ or_none (is_queued other other_kind jobs) ∙ sym (list_any-append (is_place other other_kind) jobs (Request number closed on again ∷ []))

neither : (here later : Bool) → (here ≡ true → ⊥) → later ≡ false → (here || later) ≡ false
neither true later absent h = elim (absent refl) [ ]
neither false later absent h = h

-- of distinct places the first does not wait after itself
behind : (slot : ℕ) (kind : Kind) (place : ℕ) (jobs : List Job) → place_of slot kind ≡ place → AllByRecursion (λ p. eqb place p ≡ false) (places_in jobs) → is_queued slot kind jobs ≡ false
behind slot kind place [] same apart = refl
behind slot kind place (Place other other_kind ∷ jobs) same apart =
    neither (is_place slot kind (Place other other_kind)) (is_queued slot kind jobs)
    (λ here. both_ways (eqb place (place_of other other_kind)) apart.0 (eq-eqb place (place_of other other_kind) (sym same ∙ sym (same_place slot kind other other_kind here))))
    (behind slot kind place jobs same apart.1)
behind slot kind place (Request number closed on again ∷ jobs) same apart = behind slot kind place jobs same apart

marked-tail : (old new : List ℕ) (jobs : List Job) (place slot : ℕ) (kind : Kind) → place ≡ place_of slot kind → IsQueue (Place slot kind ∷ jobs) → IsMarked old (Place slot kind ∷ jobs) → IsSet old new place false → IsMarked new jobs
marked-tail old new jobs place slot kind at queue was set other other_kind in_range =
    set (place_of other other_kind)
    ∙ ap (λ b. if b then false else is_in old (place_of other other_kind)) (one_place place slot kind other other_kind at queue.legal.0 in_range)
    ∙ cond_both (is_place other other_kind (Place slot kind)) false (is_in old (place_of other other_kind)) (λ b. b ≡ is_queued other other_kind jobs)
    (λ here. sym (behind other other_kind (place_of slot kind) jobs (sym (same_place other other_kind slot kind here)) (IsDistinct-head eqb (place_of slot kind) (places_in jobs) queue.once)))
    (λ apart. was other other_kind in_range ∙ ap (λ b. b || is_queued other other_kind jobs) apart)

pub marked-drop : (old new : List ℕ) (jobs : List Job) (place slot : ℕ) (kind : Kind) → place ≡ place_of slot kind → slice_get jobs 0 ≡ Some (Place slot kind) → IsQueue jobs → IsMarked old jobs → IsSet old new place false → IsMarked new (drop 1 jobs)
marked-drop old new [] place slot kind at first queue was set = cc
marked-drop old new (job ∷ jobs) place slot kind at first queue was set =
    let e : job ≡ Place slot kind = cc in
    marked-tail old new jobs place slot kind at (subst (λ j. IsQueue (j ∷ jobs)) e queue) (subst (λ j. IsMarked old (j ∷ jobs)) e was) set

-- ---- how many switch requests wait

pub counted-place : (jobs : List Job) (slot : ℕ) (kind : Kind) → requests_in jobs ≡ requests_in (jobs ++ Place slot kind ∷ [])
counted-place jobs slot kind = omega (arith, requests_in-append jobs (Place slot kind ∷ []))

pub counted-request : (jobs : List Job) (number : ℕ) (closed on again : Bool) → requests_in jobs + 1 ≡ requests_in (jobs ++ Request number closed on again ∷ [])
counted-request jobs number closed on again = omega (arith, requests_in-append jobs (Request number closed on again ∷ []))

pub counted-drop : (jobs : List Job) (slot : ℕ) (kind : Kind) → slice_get jobs 0 ≡ Some (Place slot kind) → requests_in (drop 1 jobs) ≡ requests_in jobs
counted-drop [] slot kind first = cc
counted-drop (job ∷ jobs) slot kind first = let e : job ≡ Place slot kind = cc in rw e refl
