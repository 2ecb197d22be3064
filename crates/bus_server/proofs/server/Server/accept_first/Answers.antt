use Rattle.std.proofs.Common.{◌≡◌, [], Bool, true, false, inl, inr, refl, sym, ◌∙◌}
use Rattle.std.specs.Prelude.{not, ◌&&◌}
use Rattle.bus_server.specs.Pace.{follows_messages}
use Rattle.bus_server.specs.ServerState.{has_turns_to_follow}
use Rattle.bus_server.specs.Snapshots.{state_of}
use Rattle.bus_server.proofs.Going.{grows_none}
use Rattle.bus_server.proofs.Stopping.{stopped}
use Rattle.bus_server.proofs.server.Server.accept_first.Goals as goal

pub returns-then-not-accepts_first-clause-served : goal.returns-then-not-accepts_first-clause-served
returns-then-not-accepts_first-clause-served g c = (
  [],
  grows_none (g.W.Transport.log c.args.transport.now),
  grows_none (g.P.Observer.observed c.args.observer.now),
  inl (sym c.accepts_first.ensures ∙ c.if-not-accepts_first.true, refl, refl),
)

none_left : (follows left : Bool) → (follows && not left) ≡ true → left ≡ false
none_left true false h = refl
none_left true true h = cc
none_left false left h = cc

pub accept_some-requires-clause-turns : goal.accept_some-requires-clause-turns
accept_some-requires-clause-turns g c =
    none_left (follows_messages (state_of c.args.self.now.hub).pace) (has_turns_to_follow (state_of c.args.self.now.hub)) (sym c.accepts_first.ensures ∙ c.if-not-accepts_first.false)

pub returns-clause-served : goal.returns-clause-served
returns-clause-served g c =
    let some = c.in_ok-accept_some.ensures.served in
    (some.0, some.1, some.2, inr (sym c.accepts_first.ensures ∙ c.if-not-accepts_first.false, c.in_ok-accept_some.field-0, some.3, some.4.0.unread, some.4.1))

pub returns-in_err-accept_some-clause-served : goal.returns-in_err-accept_some-clause-served
returns-in_err-accept_some-clause-served g c = stopped _ c.from_residual.result _ _ _ c.from_residual.ensures.1 c.in_err-accept_some.ensures.served
