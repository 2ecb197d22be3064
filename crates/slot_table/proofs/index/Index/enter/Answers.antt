use Rattle.std.proofs.Common.{◌≡◌, ◌+◌, ◌<◌, ◌≤◌, ℕ, None, Some, List, length, refl, ap, sym, ◌∙◌, subst, arith}
use Rattle.std.specs.FinMap.{FinMap, get}
use Rattle.std.specs.Ordering.{nat_cmp}
use Rattle.slot_table.specs.Index.{addresses_of, pair_at, with_address}
use Rattle.slot_table.specs.declared.pairs.Pair.{Pair}
use Rattle.slot_table.proofs.PairAddresses.{get-at, inserted-addresses}
use Rattle.slot_table.proofs.Indexed.{few, inserted-index, with_address-free}
use Rattle.slot_table.proofs.index.Index.enter.Goals as goal

end : (c : goal.After-self-1) → c.in-Err.k ≤ length c.self.inside.pairs.items
end c = subst (λ (l : List Pair). c.in-Err.k ≤ length l) c.as_slice.ensures.value c.in-Err.ensures.end

free : (c : goal.After-self-1) → get (addresses_of c.self.inside.pairs.items) c.args.slot ≡ None
free c = ap (λ (m : FinMap nat_cmp ℕ). get m c.args.slot) c.self.view_is ∙ c.requires.free

pub insert-requires : goal.insert-requires
insert-requires c =
    let free : get (addresses_of c.self.inside.pairs.items) c.args.slot ≡ None = ap (λ (m : FinMap nat_cmp ℕ). get m c.args.slot) c.self.view_is ∙ c.requires.free in
    let room : length c.self.inside.pairs.items + 1 ≤ 119 = few c.self.inside.pairs.items c.self.inside.free c.self.invariant c.args.slot c.requires.slot free in
    (omega arith, (subst (λ (l : List Pair). c.in-Err.k ≤ length l) c.as_slice.ensures.value c.in-Err.ensures.end, omega arith))

pub invariant_of-self : goal.invariant_of-self
invariant_of-self c = rw c.insert.ensures.items
    (inserted-index c.self.inside.pairs.items c.self.inside.free c.without_bit-self-inside.result c.self.invariant c.in-Err.k (record { address = c.args.address; slot = c.args.slot }) (end c) c.requires.slot (free c)
    (subst (λ (l : List Pair). (i : ℕ) → i < c.in-Err.k → (pair_at l i).address < c.args.address) c.as_slice.ensures.value c.in-Err.ensures.below)
    (subst (λ (l : List Pair). (i : ℕ) → c.in-Err.k ≤ i → i < length l → c.args.address < (pair_at l i).address) c.as_slice.ensures.value c.in-Err.ensures.above)
    c.without_bit-self-inside.ensures.same c.without_bit-self-inside.ensures.others)

pub returns-in-Err : goal.returns-in-Err
returns-in-Err c =
    ap addresses_of c.insert.ensures.items
    ∙ inserted-addresses c.self.inside.pairs.items c.in-Err.k (end c) (record { address = c.args.address; slot = c.args.slot }) c.self.invariant.apart (free c)
    ∙ with_address-free (addresses_of c.self.inside.pairs.items) c.args.slot c.args.address (free c)
    ∙ ap (λ (m : FinMap nat_cmp ℕ). with_address m c.args.slot (Some c.args.address)) c.self.view_is

-- the address is in no slot
pub returns-in_default : goal.returns-in_default
returns-in_default c =
    let low : c.in_default.field-0 < length c.self.inside.pairs.items = subst (λ (l : List Pair). c.in_default.field-0 < length l) c.as_slice.ensures.value c.in_default.ensures.within in
    let there : (pair_at c.self.inside.pairs.items c.in_default.field-0).address ≡ c.args.address = subst (λ (l : List Pair). (pair_at l c.in_default.field-0).address ≡ c.args.address) c.as_slice.ensures.value c.in_default.ensures.there in
    let slot : ℕ = (pair_at c.self.inside.pairs.items c.in_default.field-0).slot in
    absurd (c.requires.alone slot
    (sym (ap (λ (m : FinMap nat_cmp ℕ). get m slot) c.self.view_is) ∙ get-at c.self.inside.pairs.items slot c.args.address c.self.invariant.apart (c.in_default.field-0, low, refl, there)))
