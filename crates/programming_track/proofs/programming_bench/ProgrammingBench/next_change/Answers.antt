use Rattle.std.proofs.Common.{◌≡◌, ℕ, ◌+◌, ◌-◌, ◌*◌, suc, Bool, Some, length, if◌then◌else◌, ap, sym, ◌∙◌, arith}
use Rattle.programming_track.specs.Bench.{first_of, is_changed_at}
use Rattle.programming_track.proofs.Benches.{first_step}
use Rattle.programming_track.proofs.programming_bench.ProgrammingBench.next_change.Goals as goal

-- a position at which nothing has changed is passed over
pub loop-position-preserved : goal.loop-position-preserved
loop-position-preserved c =
    let bench = c.args.self.now in
    let position : ℕ = c.loop-position.position in
    let rest : ℕ = 1024 * length bench.names - (position + 1) in
    let one_more : 1024 * length bench.names - position ≡ suc rest = omega (arith, c.loop-position-test.true, c.len-position-end.ensures.value, ap (λ b. length b.names) c.self.view_is) in
    sym (first_step (1024 * length bench.names - position) position rest (is_changed_at bench) one_more
    ∙ ap (λ (is : Bool). if is then Some position else first_of rest (position + 1) (is_changed_at bench)) (sym c.is_changed_at.ensures ∙ c.if-is_changed_at.false))
    ∙ c.loop-position.invariant
