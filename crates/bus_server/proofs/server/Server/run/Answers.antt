use Rattle.std.proofs.Common.{Bool, ap, ◌∙◌, ◌≡◌, ◌-◌, ◌^◌, [], ◌∷◌, ◌++◌, arith, inl, inr, length, length-append, refl}
use Rattle.bus_server.specs.Running.{run_snapshot}
use Rattle.bus_server.proofs.Courses.{Laws}
use Rattle.bus_server.proofs.SoFar.{comes_to}
use Rattle.bus_server.proofs.WholeRuns.{run_ends, runs_none, runs_then}
use Rattle.bus_server.proofs.Stopping.{failed_on, passed_on, run_stops}
use Rattle.bus_server.specs.StoppedRuns.{IsStoppedRun, fails}
use Rattle.bus_server.proofs.server.Server.run.Goals as goal

pub loop-round-init : goal.loop-round-init
loop-round-init g c = record { observes = c.requires.observes; reported = c.requires.reported; begun = refl; after_round = refl; rounds = ([], refl, runs_none c.args.most (run_snapshot (g.W.Transport.log c.args.transport.now) (g.C.TimeSource.readings c.args.clock.now) (g.P.Observer.observed c.args.observer.now) (g.A.AfterRound.shown c.args.after_round.now) c.args.self.now.hub)) }

pub loop-round-preserved : goal.loop-round-preserved
loop-round-preserved g c =
    let so_far = c.loop-round.invariant.rounds in
    let one = c.in_ok-run_round.ensures.round in
    record {
      observes = c.in_ok-run_round.ensures.ready.0;
      reported = c.in_ok-run_round.ensures.ready.1;
      begun = c.run_round.ensures.begun ∙ c.loop-round.invariant.begun;
      after_round = c.in_ok-run_round.ensures.after_round ∙ c.loop-round.invariant.after_round;
      rounds = (
        so_far.0 ++ one.0 ∷ [],
        omega (arith, length-append so_far.0 (one.0 ∷ []), so_far.1),
        runs_then c.args.most so_far.0 (one.0 ∷ []) (run_snapshot (g.W.Transport.log c.args.transport.now) (g.C.TimeSource.readings c.args.clock.now) (g.P.Observer.observed c.args.observer.now) (g.A.AfterRound.shown c.args.after_round.now) c.args.self.now.hub) (run_snapshot (g.W.Transport.log c.loop-round.transport) (g.C.TimeSource.readings c.loop-round.clock) (g.P.Observer.observed c.loop-round.observer) (g.A.AfterRound.shown c.loop-round.after_round) c.loop-round.self.hub) (run_snapshot (g.W.Transport.log c.run_round.new.transport) (g.C.TimeSource.readings c.run_round.new.clock) (g.P.Observer.observed c.run_round.new.observer) (g.A.AfterRound.shown c.run_round.new.after_round) c.run_round.new.self.hub) so_far.2 one.1,
      );
    }

pub run_round-requires-clause-so_far : goal.run_round-requires-clause-so_far
run_round-requires-clause-so_far g c =
    let so_far = c.loop-round.invariant.rounds in
    comes_to c.args.most (g.A.AfterRound.begun c.args.after_round.now) (g.A.AfterRound.begun c.loop-round.after_round) so_far.0 (run_snapshot (g.W.Transport.log c.args.transport.now) (g.C.TimeSource.readings c.args.clock.now) (g.P.Observer.observed c.args.observer.now) (g.A.AfterRound.shown c.args.after_round.now) c.args.self.now.hub) (run_snapshot (g.W.Transport.log c.loop-round.transport) (g.C.TimeSource.readings c.loop-round.clock) (g.P.Observer.observed c.loop-round.observer) (g.A.AfterRound.shown c.loop-round.after_round) c.loop-round.self.hub)
    c.loop-round.invariant.begun c.requires.begun so_far.2 c.invariant_holds.ensures.kept c.invariant_holds.ensures.desk

pub returns-then-self-most-clause-run : goal.returns-then-self-most-clause-run
returns-then-self-most-clause-run g c =
    let laws : Laws = record { kept = c.events_are_the_layout.ensures.kept; more = c.events_are_the_layout.ensures.more; none = c.events_add_up.ensures.none } in
    let so_far = c.loop-round.invariant.rounds in
    run_ends laws c.headline.ensures.in_time c.args.most so_far.0 (run_snapshot (g.W.Transport.log c.args.transport.now) (g.C.TimeSource.readings c.args.clock.now) (g.P.Observer.observed c.args.observer.now) (g.A.AfterRound.shown c.args.after_round.now) c.args.self.now.hub) (run_snapshot (g.W.Transport.log c.loop-round.transport) (g.C.TimeSource.readings c.loop-round.clock) (g.P.Observer.observed c.loop-round.observer) (g.A.AfterRound.shown c.loop-round.after_round) c.loop-round.self.hub) c.invariant_holds.ensures.kept c.invariant_holds.ensures.desk so_far.2 (inl c.if-self-most.true)

pub returns-clause-run : goal.returns-clause-run
returns-clause-run g c =
    let laws : Laws = record { kept = c.events_are_the_layout.ensures.kept; more = c.events_are_the_layout.ensures.more; none = c.events_add_up.ensures.none } in
    let so_far = c.loop-round.invariant.rounds in
    let all : length so_far.0 ≡ 2 ^ 64 - 1 = omega (arith, so_far.1, c.loop-round.auto._round-end, c.loop-round-test.false) in
    run_ends laws c.headline.ensures.in_time c.args.most so_far.0 (run_snapshot (g.W.Transport.log c.args.transport.now) (g.C.TimeSource.readings c.args.clock.now) (g.P.Observer.observed c.args.observer.now) (g.A.AfterRound.shown c.args.after_round.now) c.args.self.now.hub) (run_snapshot (g.W.Transport.log c.loop-round.transport) (g.C.TimeSource.readings c.loop-round.clock) (g.P.Observer.observed c.loop-round.observer) (g.A.AfterRound.shown c.loop-round.after_round) c.loop-round.self.hub) c.invariant_holds.ensures.kept c.invariant_holds.ensures.desk so_far.2 (inr all)

pub returns-in_err-run_round-clause-stopped : goal.returns-in_err-run_round-clause-stopped
returns-in_err-run_round-clause-stopped g c =
    let laws : Laws = record { kept = c.events_are_the_layout.ensures.kept; more = c.events_are_the_layout.ensures.more; none = c.events_add_up.ensures.none } in
    let so_far = c.loop-round.invariant.rounds in
    let stop = c.in_err-run_round.field-0.0 in
    let one = c.in_err-run_round.ensures.round in
    let start = (run_snapshot (g.W.Transport.log c.args.transport.now) (g.C.TimeSource.readings c.args.clock.now) (g.P.Observer.observed c.args.observer.now) (g.A.AfterRound.shown c.args.after_round.now) c.args.self.now.hub) in
    let mid = (run_snapshot (g.W.Transport.log c.loop-round.transport) (g.C.TimeSource.readings c.loop-round.clock) (g.P.Observer.observed c.loop-round.observer) (g.A.AfterRound.shown c.loop-round.after_round) c.loop-round.self.hub) in
    let end = (run_snapshot (g.W.Transport.log c.run_round.new.transport) (g.C.TimeSource.readings c.run_round.new.clock) (g.P.Observer.observed c.run_round.new.observer) (g.A.AfterRound.shown c.run_round.new.after_round) c.run_round.new.self.hub) in
    passed_on (λ stop. IsStoppedRun c.args.most stop start end) c.from_residual.result stop c.from_residual.ensures.1
    (run_stops laws c.headline.ensures.in_time c.args.most stop so_far.0 one.0 start mid end c.invariant_holds.ensures.kept c.invariant_holds.ensures.desk so_far.2 one.1)

pub returns-in_err-run_round-clause-after_round : goal.returns-in_err-run_round-clause-after_round
returns-in_err-run_round-clause-after_round g c =
    let failed = g.A.AfterRound.failed in
    let stop = c.in_err-run_round.field-0.0 in
    failed_on c.from_residual.result stop (failed c.args.after_round.now) (failed c.run_round.new.after_round) c.from_residual.ensures.1
    (c.in_err-run_round.ensures.after_round ∙ ap (λ (before : Bool). fails stop before) c.loop-round.invariant.after_round)
