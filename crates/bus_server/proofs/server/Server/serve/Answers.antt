use Rattle.std.proofs.Common.{◌++◌, refl}
use Rattle.bus_server.specs.Rounds.{AllWrittenTo, IsFair, ServesClient}
use Rattle.bus_server.specs.Snapshots.{ProgressesBy, ProgressesWithoutInput, snapshot}
use Rattle.bus_server.proofs.Going.{acts_more, wire_more}
use Rattle.bus_server.proofs.Rounding.{reads_apply}
use Rattle.bus_server.proofs.Stopping.{serves_later, stopped, stops_behind}
use Rattle.bus_server.proofs.server.Server.serve.Goals as goal

pub returns-in_err-receive-clause-served : goal.returns-in_err-receive-clause-served
returns-in_err-receive-clause-served g c = stopped _ c.from_residual.result _ _ _ c.from_residual.ensures.1 c.in_err-receive.ensures.served

pub returns-clause-served : goal.returns-clause-served
returns-clause-served g c =
    let log = g.W.Transport.log in
    let observed = g.P.Observer.observed in
    let heard = c.in_ok-receive.ensures.served in
    let old = snapshot (log c.args.transport.now) (observed c.args.observer.now) c.args.self.now.hub in
    let mid = snapshot (log c.receive.new.transport) (observed c.receive.new.observer) c.receive.new.self.hub in
    let new = snapshot (log c.write_all.new.transport) (observed c.write_all.new.observer) c.write_all.new.self.hub in
    serves_later (ProgressesWithoutInput (λ more all. AllWrittenTo 8 more all × IsFair more)) (ProgressesBy (ServesClient c.args.client)) c.write_all.result old mid new
    (λ written. (
      heard.0 ++ written.0,
      wire_more old.log mid.log new.log heard.0 written.0 heard.1 written.1,
      acts_more old.observed mid.observed new.observed heard.0 written.0 heard.2 written.2,
      (heard.0, written.0, mid.state, refl, heard.3, written.3, written.4.0.unread, written.4.1.0, written.4.1.1),
    ))
    (λ stops. stops_behind heard.0 old mid new heard.1 heard.2 (reads_apply c.args.client heard.0 old.state mid.state heard.3) stops)
    c.write_all.ensures.served
