use Rattle.std.proofs.Common.{◌≡◌, ◌<◌, ◌≤◌, ℕ, None, Some, List, length, ap, ◌∙◌, subst}
use Rattle.std.specs.FinMap.{FinMap, get}
use Rattle.std.specs.Ordering.{nat_cmp}
use Rattle.slot_table.specs.Index.{addresses_of, pair_at, with_address}
use Rattle.slot_table.specs.declared.pairs.Pair.{Pair}
use Rattle.slot_table.proofs.PairAddresses.{absent, removed-addresses}
use Rattle.slot_table.proofs.Indexed.{own_slot, removed-index, with_address-same}
use Rattle.slot_table.proofs.index.Index.leave.Goals as goal

-- it had none
pub returns-in_default : goal.returns-in_default
returns-in_default c = with_address-same c.args.self.now c.args.slot None (c.requires.had ∙ c.in_default.is)

low : (c : goal.After-self-1) → c.in-Ok.k < length c.self.inside.pairs.items
low c = subst (λ (l : List Pair). c.in-Ok.k < length l) c.as_slice.ensures.value c.in-Ok.ensures.within

at : (c : goal.After-self-1) → get (addresses_of c.self.inside.pairs.items) c.args.slot ≡ Some c.in-Some.address
at c = ap (λ (m : FinMap nat_cmp ℕ). get m c.args.slot) c.self.view_is ∙ c.requires.had ∙ c.in-Some.is

own : (c : goal.After-self-1) → (pair_at c.self.inside.pairs.items c.in-Ok.k).slot ≡ c.args.slot
own c = own_slot c.self.inside.pairs.items c.self.inside.free c.self.invariant c.in-Ok.k c.args.slot c.in-Some.address (low c)
    (subst (λ (l : List Pair). (pair_at l c.in-Ok.k).address ≡ c.in-Some.address) c.as_slice.ensures.value c.in-Ok.ensures.there) (at c)

pub invariant_of-self : goal.invariant_of-self
invariant_of-self c = rw c.remove.ensures.items
    (removed-index c.self.inside.pairs.items c.self.inside.free c.with_bit-self-inside.result c.self.invariant c.in-Ok.k c.args.slot c.in-Some.address (low c) (at c) (own c) c.with_bit-self-inside.ensures.same c.with_bit-self-inside.ensures.others)

pub returns-in-Ok : goal.returns-in-Ok
returns-in-Ok c =
    ap addresses_of c.remove.ensures.items
    ∙ removed-addresses c.self.inside.pairs.items c.in-Ok.k (low c) c.self.invariant.apart c.args.slot (own c)
    ∙ ap (λ (m : FinMap nat_cmp ℕ). with_address m c.args.slot None) c.self.view_is

-- the address is in a slot
pub returns-in_default-position : goal.returns-in_default-position
returns-in_default-position c =
    let at : get (addresses_of c.self.inside.pairs.items) c.args.slot ≡ Some c.in-Some.address = ap (λ (m : FinMap nat_cmp ℕ). get m c.args.slot) c.self.view_is ∙ c.requires.had ∙ c.in-Some.is in
    absurd (absent c.self.inside.pairs.items c.self.invariant.rising c.self.invariant.apart c.in_default-position.field-0 c.in-Some.address
    (subst (λ (l : List Pair). (i : ℕ) → i < c.in_default-position.field-0 → (pair_at l i).address < c.in-Some.address) c.as_slice.ensures.value c.in_default-position.ensures.below)
    (subst (λ (l : List Pair). (i : ℕ) → c.in_default-position.field-0 ≤ i → i < length l → c.in-Some.address < (pair_at l i).address) c.as_slice.ensures.value c.in_default-position.ensures.above)
    c.args.slot at)
