use Rattle.std.proofs.Common.{[], true, inl, inr, refl, sym, ◌∙◌}
use Rattle.bus_server.specs.Snapshots.{snapshot}
use Rattle.bus_server.specs.Rounds.{AcceptsPending, AcceptsSome}
use Rattle.bus_server.proofs.Going.{calm_then, grows_none}
use Rattle.bus_server.proofs.Rounding.{lets_in_behind, turns_others_away}
use Rattle.bus_server.proofs.Stopping.{stopped}
use Rattle.bus_server.proofs.server.Server.accept_pending.Goals as goal

pub returns-then-follow_message-clause-served : goal.returns-then-follow_message-clause-served
returns-then-follow_message-clause-served g c = (
  [],
  grows_none (g.W.Transport.log c.args.transport.now),
  grows_none (g.P.Observer.observed c.args.observer.now),
  inl (sym c.follow_message.ensures ∙ c.if-follow_message.true, refl, refl),
)

pub returns-then-not-branch-clause-served : goal.returns-then-not-branch-clause-served
returns-then-not-branch-clause-served g c =
    let some = rw c.if-not-branch.true at c.in_ok-accept_some.ensures.served in
    (some.0, some.1, some.2, inr (sym c.follow_message.ensures ∙ c.if-follow_message.false, some.3, some.4.0.unread, (some.4.1.1, inl some.4.1.2)))

pub returns-clause-served : goal.returns-clause-served
returns-clause-served g c =
    let some = rw c.if-not-branch.false at c.in_ok-accept_some.ensures.served in
    let before = snapshot (g.W.Transport.log c.accept_some.new.transport) (g.P.Observer.observed c.accept_some.new.observer) c.accept_some.new.self.hub in
    let after = snapshot (g.W.Transport.log c.reject_pending-refused.new.transport) (g.P.Observer.observed c.accept_some.new.observer) c.note_refused.new.self in
    let all =
    calm_then (AcceptsSome true) (λ more _. AcceptsPending more) (λ more _. AcceptsPending more) (snapshot (g.W.Transport.log c.args.transport.now) (g.P.Observer.observed c.args.observer.now) c.args.self.now.hub) before after
    (λ these those kept full last. lets_in_behind these those last)
    some
    (turns_others_away c.reject_pending-refused.result before after some.4.1.1 c.reject_pending-refused.ensures (grows_none (g.P.Observer.observed c.accept_some.new.observer)) c.note_refused.ensures.state) in
    (all.0, all.1, all.2, inr (sym c.follow_message.ensures ∙ c.if-follow_message.false, all.3, all.4.0.unread, all.4.1))

pub returns-in_err-accept_some-clause-served : goal.returns-in_err-accept_some-clause-served
returns-in_err-accept_some-clause-served g c = stopped _ c.from_residual.result _ _ _ c.from_residual.ensures.1 c.in_err-accept_some.ensures.served
