use Rattle.std.proofs.Common.{◌++◌, refl}
use Rattle.std.proofs.lemmas.Result.{on_ok_weaker, on_err_weaker}
use Rattle.bus_server.specs.Rounds.{Accepts}
use Rattle.bus_server.specs.Snapshots.{ProgressesBy, state_of, snapshot}
use Rattle.bus_server.proofs.Going.{acts_more, wire_more}
use Rattle.bus_server.proofs.Rounding.{early_applies, turns_serve}
use Rattle.bus_server.proofs.Stopping.{if_served, if_stopped, stops_behind, whatever_fails}
use Rattle.bus_server.proofs.server.Server.round.Goals as goal

pub returns-clause-served : goal.returns-clause-served
returns-clause-served g c =
    let log = g.W.Transport.log in
    let observed = g.P.Observer.observed in
    let early = c.in_ok-accept_first.ensures.served in
    let written = c.in_ok-write_all.ensures.served in
    let served = c.in_ok-serve_all.ensures.served in
    on_ok_weaker c.accept_pending.result
    (λ joined. (
      early.0 ++ (written.0 ++ (served.0 ++ joined.0)),
      wire_more (log c.args.transport.now) (log c.accept_first.new.transport) (log c.accept_pending.new.transport) early.0 (written.0 ++ (served.0 ++ joined.0)) early.1
          (wire_more (log c.accept_first.new.transport) (log c.write_all.new.transport) (log c.accept_pending.new.transport) written.0 (served.0 ++ joined.0) written.1
          (wire_more (log c.write_all.new.transport) (log c.serve_all.new.transport) (log c.accept_pending.new.transport) served.0 joined.0 served.1 joined.1)),
      acts_more (observed c.args.observer.now) (observed c.accept_first.new.observer) (observed c.accept_pending.new.observer) early.0 (written.0 ++ (served.0 ++ joined.0)) early.2
          (acts_more (observed c.accept_first.new.observer) (observed c.write_all.new.observer) (observed c.accept_pending.new.observer) written.0 (served.0 ++ joined.0) written.2
          (acts_more (observed c.write_all.new.observer) (observed c.serve_all.new.observer) (observed c.accept_pending.new.observer) served.0 joined.0 served.2 joined.2)),
      (
        early.0,
        written.0,
        served.0,
        joined.0,
        state_of c.accept_first.new.self.hub,
        state_of c.write_all.new.self.hub,
        state_of c.serve_all.new.self.hub,
        refl,
        early.3,
        (written.3, written.4.0.unread, written.4.1.0, written.4.1.1),
        served.3,
        joined.3,
      ),
    ))
    (if_served (ProgressesBy Accepts) c.accept_pending.result (snapshot (g.W.Transport.log c.serve_all.new.transport) (g.P.Observer.observed c.serve_all.new.observer) c.serve_all.new.self.hub) (snapshot (g.W.Transport.log c.accept_pending.new.transport) (g.P.Observer.observed c.accept_pending.new.observer) c.accept_pending.new.self.hub) c.accept_pending.ensures.served)

pub returns-in_err-accept_first-clause-stops : goal.returns-in_err-accept_first-clause-stops
returns-in_err-accept_first-clause-stops g c = whatever_fails c.from_residual.result c.in_err-accept_first.ensures.served

pub returns-in_err-write_all-clause-stops : goal.returns-in_err-write_all-clause-stops
returns-in_err-write_all-clause-stops g c =
    let early = c.in_ok-accept_first.ensures.served in
    whatever_fails c.from_residual-in_err-write_all.result
    (stops_behind early.0 (snapshot (g.W.Transport.log c.args.transport.now) (g.P.Observer.observed c.args.observer.now) c.args.self.now.hub) (snapshot (g.W.Transport.log c.accept_first.new.transport) (g.P.Observer.observed c.accept_first.new.observer) c.accept_first.new.self.hub) (snapshot (g.W.Transport.log c.write_all.new.transport) (g.P.Observer.observed c.write_all.new.observer) c.write_all.new.self.hub) early.1 early.2
    (early_applies early.0 (state_of c.args.self.now.hub) (state_of c.accept_first.new.self.hub) early.3) c.in_err-write_all.ensures.served)

pub returns-in_err-serve_all-clause-stops : goal.returns-in_err-serve_all-clause-stops
returns-in_err-serve_all-clause-stops g c =
    let early = c.in_ok-accept_first.ensures.served in
    let written = c.in_ok-write_all.ensures.served in
    whatever_fails c.from_residual-in_err-serve_all.result
    (stops_behind early.0 (snapshot (g.W.Transport.log c.args.transport.now) (g.P.Observer.observed c.args.observer.now) c.args.self.now.hub) (snapshot (g.W.Transport.log c.accept_first.new.transport) (g.P.Observer.observed c.accept_first.new.observer) c.accept_first.new.self.hub) (snapshot (g.W.Transport.log c.serve_all.new.transport) (g.P.Observer.observed c.serve_all.new.observer) c.serve_all.new.self.hub) early.1 early.2
    (early_applies early.0 (state_of c.args.self.now.hub) (state_of c.accept_first.new.self.hub) early.3)
    (stops_behind written.0 (snapshot (g.W.Transport.log c.accept_first.new.transport) (g.P.Observer.observed c.accept_first.new.observer) c.accept_first.new.self.hub) (snapshot (g.W.Transport.log c.write_all.new.transport) (g.P.Observer.observed c.write_all.new.observer) c.write_all.new.self.hub) (snapshot (g.W.Transport.log c.serve_all.new.transport) (g.P.Observer.observed c.serve_all.new.observer) c.serve_all.new.self.hub) written.1 written.2 written.3 c.in_err-serve_all.ensures.served))

pub returns-clause-stops : goal.returns-clause-stops
returns-clause-stops g c =
    let early = c.in_ok-accept_first.ensures.served in
    let written = c.in_ok-write_all.ensures.served in
    let served = c.in_ok-serve_all.ensures.served in
    on_err_weaker c.accept_pending.result
    (λ stops. stops_behind early.0 (snapshot (g.W.Transport.log c.args.transport.now) (g.P.Observer.observed c.args.observer.now) c.args.self.now.hub) (snapshot (g.W.Transport.log c.accept_first.new.transport) (g.P.Observer.observed c.accept_first.new.observer) c.accept_first.new.self.hub) (snapshot (g.W.Transport.log c.accept_pending.new.transport) (g.P.Observer.observed c.accept_pending.new.observer) c.accept_pending.new.self.hub) early.1 early.2
    (early_applies early.0 (state_of c.args.self.now.hub) (state_of c.accept_first.new.self.hub) early.3)
    (stops_behind written.0 (snapshot (g.W.Transport.log c.accept_first.new.transport) (g.P.Observer.observed c.accept_first.new.observer) c.accept_first.new.self.hub) (snapshot (g.W.Transport.log c.write_all.new.transport) (g.P.Observer.observed c.write_all.new.observer) c.write_all.new.self.hub) (snapshot (g.W.Transport.log c.accept_pending.new.transport) (g.P.Observer.observed c.accept_pending.new.observer) c.accept_pending.new.self.hub) written.1 written.2 written.3
    (stops_behind served.0 (snapshot (g.W.Transport.log c.write_all.new.transport) (g.P.Observer.observed c.write_all.new.observer) c.write_all.new.self.hub) (snapshot (g.W.Transport.log c.serve_all.new.transport) (g.P.Observer.observed c.serve_all.new.observer) c.serve_all.new.self.hub) (snapshot (g.W.Transport.log c.accept_pending.new.transport) (g.P.Observer.observed c.accept_pending.new.observer) c.accept_pending.new.self.hub) served.1 served.2
    (turns_serve c.write_all.new.self.hub.first_client 8 served.0 (state_of c.write_all.new.self.hub) (state_of c.serve_all.new.self.hub) served.3) stops)))
    (if_stopped (ProgressesBy Accepts) c.accept_pending.result (snapshot (g.W.Transport.log c.serve_all.new.transport) (g.P.Observer.observed c.serve_all.new.observer) c.serve_all.new.self.hub) (snapshot (g.W.Transport.log c.accept_pending.new.transport) (g.P.Observer.observed c.accept_pending.new.observer) c.accept_pending.new.self.hub) c.accept_pending.ensures.served)
