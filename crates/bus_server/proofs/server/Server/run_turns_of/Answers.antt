use Rattle.std.proofs.Common.{◌≡◌, ◌<◌, ◌≤◌, ℕ, [], List, ap, ap₂, arith, inl, inr, refl, subst, sym, ◌∙◌}
use Rattle.bus_server.specs.declared.track_due.TurnsDue.{TurnsDue}
use Rattle.bus_server.specs.ServerState.{with_backlog}
use Rattle.bus_server.specs.TrackDue.{due_to}
use Rattle.bus_server.specs.Snapshots.{state_of}
use Rattle.bus_server.specs.Track.{IsShare, turns_left}
use Rattle.bus_server.proofs.Going.{grows_none}
use Rattle.bus_server.proofs.Stopping.{whatever_fails}
use Rattle.bus_server.proofs.Tracking.{turns_keep}
use Rattle.bus_server.proofs.server.Server.run_turns_of.Goals as goal

pub returns-then-left-eq0-clause-happened : goal.returns-then-left-eq0-clause-happened
returns-then-left-eq0-clause-happened g c =
    let none : turns_left (state_of c.args.self.now.hub) c.args.client ≡ 0 = omega (arith, c.left-left.ensures, c.if-left-eq0.true) in
    ([], grows_none (g.P.Observer.observed c.args.observer.now), inl (none, refl, refl))

-- the turns that were left are left still
pub note_run-requires-clause-left : goal.note_run-requires-clause-left
note_run-requires-clause-left g c =
    let ran = c.in_ok-count.ensures.happened in
    let same = turns_keep c.in_ok-count.count ran.1.0 (state_of c.args.self.now.hub) (state_of c.run_up_to.new.self.hub) ran.1.2 in
    let left : c.left-left.result ≡ (due_to c.run_up_to.new.self.hub.track_due.turns c.args.client).left = c.left-left.ensures ∙ ap (λ (turns : List TurnsDue). (due_to turns c.args.client).left) (sym same) in
    omega (arith, left, ran.0.0)

pub returns-clause-happened : goal.returns-clause-happened
returns-clause-happened g c =
    let old = state_of c.args.self.now.hub in
    let mid = state_of c.run_up_to.new.self.hub in
    let ran = c.in_ok-count.ensures.happened in
    let count = c.in_ok-count.count in
    let some : 0 < turns_left old c.args.client = omega (arith, c.left-left.ensures, c.if-left-eq0.false) in
    let share : IsShare count count (turns_left old c.args.client) mid = subst (λ (left : ℕ). IsShare count count left mid) c.left-left.ensures ran.0 in (
      ran.1.0,
      ran.1.1,
      inr (some, count, mid, ran.1.2, share, ap₂ (λ (turns : List TurnsDue) (micros : ℕ). record (with_backlog mid) { turns_due = turns; time_due = micros }) c.note_run.ensures.turns c.note_run.ensures.micros),
    )

pub returns-in_err-count-clause-stops : goal.returns-in_err-count-clause-stops
returns-in_err-count-clause-stops g c =
    let old = state_of c.args.self.now.hub in
    let stops = c.in_err-count.ensures.stops in
    whatever_fails c.from_residual.result (stops.0, stops.1, (stops.2.0, subst (λ (left : ℕ). stops.2.0 ≤ left) c.left-left.ensures stops.2.1, stops.2.2, stops.2.3))
