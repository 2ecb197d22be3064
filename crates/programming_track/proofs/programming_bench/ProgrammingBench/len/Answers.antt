use Rattle.programming_track.proofs.programming_bench.ProgrammingBench.len.Goals as goal

pub returns-clause-bench : goal.returns-clause-bench
returns-clause-bench c = rw (← c.self.view_is) (record { as_many = c.self.invariant.0; mounted = c.self.invariant.1 })
