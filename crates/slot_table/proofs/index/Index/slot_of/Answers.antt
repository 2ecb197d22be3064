use Rattle.std.proofs.Common.{◌≡◌, ◌<◌, ◌≤◌, ℕ, List, length, ap, ◌∙◌, subst, Some}
use Rattle.std.specs.FinMap.{FinMap}
use Rattle.std.specs.Ordering.{nat_cmp}
use Rattle.slot_table.specs.Index.{pair_at, slot_with}
use Rattle.slot_table.specs.declared.pairs.Pair.{Pair}
use Rattle.slot_table.proofs.PairAddresses.{found-slot, no_slot}
use Rattle.slot_table.proofs.index.Index.slot_of.Goals as goal

pub returns-in-Ok : goal.returns-in-Ok
returns-in-Ok c =
    let pairs = c.self.inside.pairs.items in
    let low : c.in-Ok.k < length pairs = subst (λ (l : List Pair). c.in-Ok.k < length l) c.as_slice.ensures.value c.in-Ok.ensures.within in
    let there : (pair_at pairs c.in-Ok.k).address ≡ c.args.address = subst (λ (l : List Pair). (pair_at l c.in-Ok.k).address ≡ c.args.address) c.as_slice.ensures.value c.in-Ok.ensures.there in
    ap (λ (l : List Pair). Some (pair_at l c.in-Ok.k).slot) c.deref.ensures.0
    ∙ found-slot pairs c.self.invariant.rising c.self.invariant.apart c.self.invariant.slots c.in-Ok.k c.args.address low there
    ∙ ap (λ (m : FinMap nat_cmp ℕ). slot_with m c.args.address) c.self.view_is

pub returns-in-Err : goal.returns-in-Err
returns-in-Err c =
    no_slot c.self.inside.pairs.items c.self.invariant.rising c.self.invariant.apart c.in-Err.field-0 c.args.address
    (subst (λ (l : List Pair). (i : ℕ) → i < c.in-Err.field-0 → (pair_at l i).address < c.args.address) c.as_slice.ensures.value c.in-Err.ensures.below)
    (subst (λ (l : List Pair). (i : ℕ) → c.in-Err.field-0 ≤ i → i < length l → c.args.address < (pair_at l i).address) c.as_slice.ensures.value c.in-Err.ensures.above)
    ∙ ap (λ (m : FinMap nat_cmp ℕ). slot_with m c.args.address) c.self.view_is
