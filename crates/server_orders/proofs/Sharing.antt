-- The values of `--lose`, and the shares that they say.
use Rattle.std.proofs.Common.{◌≡◌, ℕ, zero, suc, ◌+◌, ◌<◌, ◌++◌, Bool, true, false, List, [], ◌∷◌, Option, Some, Result, Ok, Err, cond, length, map, refl, take, arith, subst, sym}
use Rattle.std.specs.Prelude.{◌||◌, IfErr, not, slice_index_or}
use Rattle.std.proofs.lemmas.List.{map_more}
use Rattle.std.specs.Borrow.{Bor}
use Rattle.std.specs.List.{list_any, position_or_len}
use Rattle.clap.specs.Words.{Text}
use Rattle.command_line.specs.declared.fault.OrderFault.{OrderFault}
use Rattle.command_line.specs.declared.fault.OrderFault.TheVariants.{Usage, NoMemory}
use Rattle.command_line.specs.Fault.{IsUnmatched}
use Rattle.server_orders.specs.declared.share.Share.{Share}
use Rattle.server_orders.specs.Shares.{AreShares, AreSharesOf, IsShare}

one_none : (passes any : Bool) (rest len : ℕ) → cond (not passes) (1 + rest) 0 ≡ suc len → (rest ≡ len → any ≡ false) → (passes || any) ≡ false
one_none true any rest len h none = absurd cc
one_none false any rest len h none = none (omega (arith, h))

-- none passes if the first that passes is past the end
pub none_passes : (p : ℕ → Bool) (xs : List ℕ) → position_or_len p xs ≡ length xs → list_any p xs ≡ false
none_passes p [] h = refl
none_passes p (x ∷ xs) h = one_none (p x) (list_any p xs) (position_or_len p xs) (length xs) h (none_passes p xs)

-- the share that a value says, where all say one
pub share_at : (values : List (Bor Text)) (shares : List Share) (i : ℕ) (d : Bor Text) → AreSharesOf (map (λ value. value.now) values) shares → i < length values
    → (share : Share) × IsShare (slice_index_or values i d).now share
share_at [] shares i d are within = absurd (omega (arith, within))
share_at (value ∷ values) [] i d are within = absurd are
share_at (value ∷ values) (share ∷ shares) zero d are within = (share, are.0)
share_at (value ∷ values) (share ∷ shares) (suc i) d are within = share_at values shares i d are.1 (omega (arith, within))

-- one more
pub one_more : (values : List Text) (shares : List Share) (value : Text) (share : Share) → AreSharesOf values shares → IsShare value share
    → AreSharesOf (values ++ value ∷ []) (shares ++ share ∷ [])
one_more [] [] value share are is = (is, tt)
one_more [] (other ∷ shares) value share are is = absurd are
one_more (other ∷ values) [] value share are is = absurd are
one_more (first ∷ values) (other ∷ shares) value share are is = (are.0, one_more values shares value share are.1 is)

pub next_share : (values : List (Bor Text)) (shares after : List Share) (share : Share) (i : ℕ) (d : Bor Text) → i < length values → AreSharesOf (map (λ value. value.now) (take i values)) shares
    → IsShare (slice_index_or values i d).now share → after ≡ shares ++ share ∷ [] → AreSharesOf (map (λ value. value.now) (take (i + 1) values)) after
next_share values shares after share i d within are is more =
    subst (λ (texts : List Text). AreSharesOf texts after) (sym (map_more (λ value. value.now) values i d within))
    (subst (λ (shares : List Share). AreSharesOf (map (λ value. value.now) (take i values) ++ (slice_index_or values i d).now ∷ []) shares) (sym more)
    (one_more (map (λ value. value.now) (take i values)) shares (slice_index_or values i d).now share are is))

-- what is no part is no whole
pub unmatched_of : {A R : Type 0} (Part Whole : A → Type 0) (r : Result R OrderFault) → ((a : A) → Whole a → Part a) → IfErr r (IsUnmatched Part) → IfErr r (IsUnmatched Whole)
unmatched_of Part Whole (Ok value) part none = tt
unmatched_of Part Whole (Err NoMemory) part none = tt
unmatched_of Part Whole (Err (Usage error)) part none = ((λ a is. none.0 a (part a is)), none.1)

-- the values of an option that is given
pub of_given : (read : Option (List Text)) (values : List Text) (shares : List Share) → Some values ≡ read → AreShares read shares → AreSharesOf values shares
of_given read values shares same are =
    let P : Option (List Text) → Type 0 = λ o. AreShares o shares in
    (subst P (sym same) are).0
