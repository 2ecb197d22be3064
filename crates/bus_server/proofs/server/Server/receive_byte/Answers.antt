use Rattle.std.proofs.Common.{[], List, arith, refl, inl, sym, subst, append-nil}
use Rattle.std.proofs.lemmas.Result.{IfOk-weaker, on_err_weaker}
use Rattle.bus.specs.Log.{Extends}
use Rattle.bus_server.specs.Observations.{Observation}
use Rattle.bus_server.specs.Reading.{ReadsOne}
use Rattle.bus_server.specs.ServerState.{observations_of}
use Rattle.bus_server.specs.Snapshots.{snapshot}
use Rattle.bus_server.specs.TransportEvents.{PeerClosed, ReadBlocked, Received}
use Rattle.bus_server.proofs.Going.{grows_none}
use Rattle.bus_server.proofs.Keeping.{is_of}
use Rattle.bus_server.proofs.Rounding.{one_received}
use Rattle.bus_server.proofs.Stopping.{returned, stopped, stops_first}
use Rattle.bus_server.proofs.server.Server.receive_byte.Goals as goal

pub returns-in-WouldBlock-clause-served : goal.returns-in-WouldBlock-clause-served
returns-in-WouldBlock-clause-served g c =
    (record { log = ReadBlocked c.args.client; applied = [] }, c.in-WouldBlock.ensures.log, grows_none (g.P.Observer.observed c.args.observer.now), is_of c.args.client, (refl, refl), inl refl)

pub returns-in_ok-apply-in-Closed-clause-served : goal.returns-in_ok-apply-in-Closed-clause-served
returns-in_ok-apply-in-Closed-clause-served g c =
    let does = c.apply.ensures.happened in (
      record { log = PeerClosed c.args.client; applied = does.0 },
      c.in-Closed.ensures.log,
      subst (λ (more : List Observation). Extends (g.P.Observer.observed c.args.observer.now) (g.P.Observer.observed c.apply.new.observer) more) (sym (append-nil (observations_of does.0))) does.1,
      is_of c.args.client,
      does.2,
      inl refl,
    )

pub returns-in_err-apply-in-Closed-clause-served : goal.returns-in_err-apply-in-Closed-clause-served
returns-in_err-apply-in-Closed-clause-served g c =
    let begun = c.apply.ensures.happened in
    stopped _ c.from_residual.result _ _ _ c.from_residual.ensures.1
    (stops_first (PeerClosed c.args.client) begun.0 (snapshot (g.W.Transport.log c.args.transport.now) (g.P.Observer.observed c.args.observer.now) c.args.self.now.hub) (snapshot (g.W.Transport.log c.read.new.self) (g.P.Observer.observed c.apply.new.observer) c.apply.new.self.hub) c.in-Closed.ensures.log begun.1 begun.2)

pub returns-in-Bytes-clause-served : goal.returns-in-Bytes-clause-served
returns-in-Bytes-clause-served g c =
    let observed = g.P.Observer.observed in
    let log = one_received c.args.client c.in-Bytes.field-0 c.read.new.buf (g.W.Transport.log c.args.transport.now) (g.W.Transport.log c.read.new.self) c.in-Bytes.ensures.within (omega (arith, c.read.auto.buf)) c.in-Bytes.ensures.log in
    let old = snapshot (g.W.Transport.log c.args.transport.now) (observed c.args.observer.now) c.args.self.now.hub in
    let new = snapshot (g.W.Transport.log c.read.new.self) (observed c.receive_one.new.observer) c.receive_one.new.self.hub in
    returned (ReadsOne c.args.client) c.receive_one.result old new
    (IfOk-weaker c.receive_one.result _ _
    (λ goes_on h. (
      record { log = Received c.args.client _; applied = h.1.0 },
      log,
      subst (λ (more : List Observation). Extends old.observed new.observed more) (sym (append-nil (observations_of h.1.0))) h.1.1,
      is_of c.args.client,
      h.1.2,
      h.0,
    ))
    c.receive_one.ensures.happened)
    (on_err_weaker c.receive_one.result (λ begun. stops_first (Received c.args.client _) begun.0 old new log begun.1 begun.2) c.receive_one.ensures.stops)
