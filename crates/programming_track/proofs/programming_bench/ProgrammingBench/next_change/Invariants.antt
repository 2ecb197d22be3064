use Rattle.std.proofs.Common.{◌≡◌, ◌-◌, ◌*◌, length}
use Rattle.programming_track.specs.Bench.{first_of, is_changed_at}
use Rattle.programming_track.proofs.programming_bench.ProgrammingBench.next_change.Given as goal

-- no variable before this position differs
abbrev pub invariant-loop-position : goal.invariant-loop-position
invariant-loop-position l =
    first_of (1024 * length l.self.names - l.position) l.position (is_changed_at l.self)
    ≡ first_of (1024 * length l.self.names - l.from) l.from (is_changed_at l.self)
