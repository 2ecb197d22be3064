use Rattle.std.proofs.Common.{◌≡◌, ◌≤◌, ◌∷◌, ◌++◌, [], arith, inl, inr, length, length-append, refl, sym, ◌∙◌}
use Rattle.bus_server.specs.Snapshots.{snapshot, state_of}
use Rattle.bus_server.proofs.Going.{acts_more, grows_none, wire_more}
use Rattle.bus_server.proofs.Rounding.{reads_on_apply, reads_on_more}
use Rattle.bus_server.proofs.Stopping.{stops_behind, stopped}
use Rattle.bus_server.proofs.server.Server.receive.Goals as goal

pub returns-then-must_wait-clause-served : goal.returns-then-must_wait-clause-served
returns-then-must_wait-clause-served g c = (
  [],
  grows_none (g.W.Transport.log c.args.transport.now),
  grows_none (g.P.Observer.observed c.args.observer.now),
  inl (sym c.must_wait.ensures ∙ c.if-must_wait.true, refl, refl),
)

pub loop-byte-init : goal.loop-byte-init
loop-byte-init g c = record {
  ready = c.requires.ready;
  waits = sym c.must_wait.ensures ∙ c.if-must_wait.false;
  served = ([], refl, grows_none (g.W.Transport.log c.args.transport.now), grows_none (g.P.Observer.observed c.args.observer.now), refl);
}

pub loop-byte-preserved : goal.loop-byte-preserved
loop-byte-preserved g c =
    let log = g.W.Transport.log in
    let observed = g.P.Observer.observed in
    let first = c.loop-byte in
    let so_far = first.invariant.served in
    let one = rw c.if-not-branch.false at c.in_ok-receive_byte.ensures.served in
    record {
      ready = c.in_ok-receive_byte.ensures.ready;
      waits = one.5.0;
      served = (
        so_far.0 ++ one.0 ∷ [],
        omega (arith, length-append so_far.0 (one.0 ∷ []), so_far.1),
        wire_more (log c.args.transport.now) (log first.transport) (log c.receive_byte.new.transport) so_far.0 (one.0 ∷ []) so_far.2 one.1,
        acts_more (observed c.args.observer.now) (observed first.observer) (observed c.receive_byte.new.observer) so_far.0 (one.0 ∷ []) so_far.3 one.2,
        reads_on_more c.args.client so_far.0 one.0 (state_of c.args.self.now.hub) (state_of first.self.hub) (state_of c.receive_byte.new.self.hub) so_far.4 one.3 one.4 one.5,
      );
    }

pub returns-then-not-branch-clause-served : goal.returns-then-not-branch-clause-served
returns-then-not-branch-clause-served g c =
    let log = g.W.Transport.log in
    let observed = g.P.Observer.observed in
    let first = c.loop-byte in
    let so_far = first.invariant.served in
    let one = rw c.if-not-branch.true at c.in_ok-receive_byte.ensures.served in
    let few : length (so_far.0 ++ one.0 ∷ []) ≤ 400 = omega (arith, length-append so_far.0 (one.0 ∷ []), so_far.1, c.loop-byte-test.true) in (
      so_far.0 ++ one.0 ∷ [],
      wire_more (log c.args.transport.now) (log first.transport) (log c.receive_byte.new.transport) so_far.0 (one.0 ∷ []) so_far.2 one.1,
      acts_more (observed c.args.observer.now) (observed first.observer) (observed c.receive_byte.new.observer) so_far.0 (one.0 ∷ []) so_far.3 one.2,
      inr (inr (sym c.must_wait.ensures ∙ c.if-must_wait.false, so_far.0, one.0, state_of first.self.hub, refl, few, so_far.4, one.3, one.4, one.5)),
    )

pub returns-clause-served : goal.returns-clause-served
returns-clause-served g c =
    let first = c.loop-byte in
    let so_far = first.invariant.served in
    let all : length so_far.0 ≡ 400 = omega (arith, so_far.1, first.auto._byte-end, c.loop-byte-test.false) in
    (so_far.0, so_far.2, so_far.3, inr (inl (sym c.must_wait.ensures ∙ c.if-must_wait.false, so_far.4, all)))

pub returns-in_err-receive_byte-clause-served : goal.returns-in_err-receive_byte-clause-served
returns-in_err-receive_byte-clause-served g c =
    let first = c.loop-byte in
    let so_far = first.invariant.served in
    let applies = reads_on_apply c.args.client so_far.0 (state_of c.args.self.now.hub) (state_of first.self.hub) so_far.4 in
    stopped _ c.from_residual.result _ _ _ c.from_residual.ensures.1
    (stops_behind so_far.0 (snapshot (g.W.Transport.log c.args.transport.now) (g.P.Observer.observed c.args.observer.now) c.args.self.now.hub) (snapshot (g.W.Transport.log first.transport) (g.P.Observer.observed first.observer) first.self.hub) (snapshot (g.W.Transport.log c.receive_byte.new.transport) (g.P.Observer.observed c.receive_byte.new.observer) c.receive_byte.new.self.hub) so_far.2 so_far.3 applies c.in_err-receive_byte.ensures.served)
