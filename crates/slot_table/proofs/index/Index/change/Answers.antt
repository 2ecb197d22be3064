use Rattle.std.proofs.Common.{◌≡◌, ℕ, Some, refl, ap, sym, ◌∙◌, rules}
use Rattle.std.specs.FinMap.{FinMap, get}
use Rattle.std.specs.Ordering.{nat_cmp}
use Rattle.slot_table.specs.Index.{with_address}
use Rattle.slot_table.proofs.Maps.{remove_at}
use Rattle.slot_table.proofs.Indexed.{left_alone, with_address-same, with_address-twice}
use Rattle.slot_table.proofs.index.Index.change.Goals as goal

pub returns-then-eq : goal.returns-then-eq
returns-then-eq c = let same : c.args.old ≡ c.args.new = search rules in with_address-same c.args.self.now c.args.slot c.args.new (c.requires.had ∙ same)

pub enter-requires-clause-free : goal.enter-requires-clause-free
enter-requires-clause-free c = ap (λ (m : FinMap nat_cmp ℕ). get m c.args.slot) c.leave.ensures ∙ remove_at c.args.self.now c.args.slot c.args.slot refl

pub enter-requires-clause-alone : goal.enter-requires-clause-alone
enter-requires-clause-alone c = λ m h.
    left_alone c.args.self.now c.args.slot c.in-Some.address (λ k at. c.requires.alone c.in-Some.address k c.in-Some.is at) m (ap (λ (p : FinMap nat_cmp ℕ). get p m) (sym c.leave.ensures) ∙ h)

pub returns-in-Some : goal.returns-in-Some
returns-in-Some c =
    c.enter.ensures
    ∙ ap (λ (m : FinMap nat_cmp ℕ). with_address m c.args.slot (Some c.in-Some.address)) c.leave.ensures
    ∙ with_address-twice c.args.self.now c.args.slot c.in-Some.address
    ∙ ap (with_address c.args.self.now c.args.slot) (sym c.in-Some.is)
