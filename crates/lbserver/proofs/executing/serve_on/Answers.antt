use Rattle.std.proofs.Common.{ℕ, subst}
use Rattle.std.proofs.lemmas.Result.{on_ok_weaker}
use Rattle.bus_server.specs.Snapshots.{state_of}
use Rattle.bus_server.specs.Running.{IsRun}
use Rattle.lbserver.specs.Execution.{logs_of, moment}
use Rattle.lbserver.proofs.executing.serve_on.Goals as goal

pub returns : goal.returns
returns g c =
    let before = moment (logs_of (g.W.Transport.log c.args.transport.now) (g.C.TimeSource.readings c.args.clock.now) (g.A.AfterRound.shown c.args.after_round.now)) (state_of c.args.server.now.hub) in
    let after = moment (logs_of (g.W.Transport.log c.run.new.transport) (g.C.TimeSource.readings c.run.new.clock) (g.A.AfterRound.shown c.run.new.after_round)) (state_of c.run.new.self.hub) in
    record {
      serves =
          on_ok_weaker c.run.result
          (λ run. (state_of c.args.server.now.hub, state_of c.run.new.self.hub, c.requires.ready.new, subst (λ (n : ℕ). IsRun n before after) c.most_clients-most.ensures run))
          c.run.ensures.run;
    }
