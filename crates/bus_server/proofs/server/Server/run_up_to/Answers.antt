use Rattle.std.proofs.Common.{◌≡◌, ◌<◌, ◌≤◌, ◌+◌, ◌∷◌, ◌++◌, [], arith, inr, refl, sym, ◌∙◌, true}
use Rattle.bus.specs.declared.event.Event.TheVariants.{Turn}
use Rattle.bus_server.specs.Observations.{Observed, Observation}
use Rattle.bus_server.specs.Snapshots.{state_of}
use Rattle.bus_server.specs.ServerState.{LoggedEvent, is_crowded}
use Rattle.bus_server.specs.Track.{is_turn}
use Rattle.bus_server.proofs.Going.{grows_none, shown_more}
use Rattle.bus_server.proofs.Stopping.{whatever_fails}
use Rattle.bus_server.proofs.Tracking.{steps_more}
use Rattle.bus_server.proofs.server.Server.run_up_to.Goals as goal

pub loop-turn-init : goal.loop-turn-init
loop-turn-init g c = record {
  ready = c.requires.ready;
  room = λ some. absurd (omega (arith, some));
  happened = ([], grows_none (g.P.Observer.observed c.args.observer.now), (refl, refl));
}

pub loop-turn-preserved : goal.loop-turn-preserved
loop-turn-preserved g c =
    let so_far = c.loop-turn.invariant.happened in
    let missed = c.turn-outcome.ensures.happens.0 in
    let observed : Observation = Observed c.turn-outcome.result c.turn-outcome.new.self.bus.world.nodes c.turn-outcome.new.self.sensors.railway in
    let one : LoggedEvent = record { event = Turn missed; observed = observed } in
    let reports = c.observe.ensures.log in
    let applied = so_far.0 ++ one ∷ reports.0 in
    let shown = shown_more (g.P.Observer.observed c.args.observer.now) (g.P.Observer.observed c.loop-turn.observer) (g.P.Observer.observed c.observe.new.observer) so_far.0 (one ∷ reports.0) so_far.1 reports.1 in
    let steps =
    steps_more is_turn c.loop-turn.turn so_far.0 (one ∷ reports.0) (state_of c.args.self.now.hub) (state_of c.loop-turn.self.hub) (state_of c.observe.new.self.hub) so_far.2 c.loop-turn.invariant.room
    (Turn missed, refl, (refl, reports.2), (state_of c.turn-outcome.new.self, c.turn-outcome.ensures.happens.1, reports.3)) in
    record {
      ready = c.in_ok-observe.ensures.ready;
      room = λ some. sym c.is_crowded.ensures ∙ c.if-is_crowded.false;
      happened = (applied, shown, steps);
    }

pub returns-then-is_crowded-clause-happened : goal.returns-then-is_crowded-clause-happened
returns-then-is_crowded-clause-happened g c =
    let so_far = c.loop-turn.invariant.happened in
    let missed = c.turn-outcome.ensures.happens.0 in
    let observed : Observation = Observed c.turn-outcome.result c.turn-outcome.new.self.bus.world.nodes c.turn-outcome.new.self.sensors.railway in
    let one : LoggedEvent = record { event = Turn missed; observed = observed } in
    let reports = c.observe.ensures.log in
    let applied = so_far.0 ++ one ∷ reports.0 in
    let shown = shown_more (g.P.Observer.observed c.args.observer.now) (g.P.Observer.observed c.loop-turn.observer) (g.P.Observer.observed c.observe.new.observer) so_far.0 (one ∷ reports.0) so_far.1 reports.1 in
    let steps =
    steps_more is_turn c.loop-turn.turn so_far.0 (one ∷ reports.0) (state_of c.args.self.now.hub) (state_of c.loop-turn.self.hub) (state_of c.observe.new.self.hub) so_far.2 c.loop-turn.invariant.room
    (Turn missed, refl, (refl, reports.2), (state_of c.turn-outcome.new.self, c.turn-outcome.ensures.happens.1, reports.3)) in
    let within : c.loop-turn.turn + 1 ≤ c.args.owed = omega (arith, c.loop-turn-test.true, c.min-most.ensures) in
    let few : c.loop-turn.turn + 1 ≤ 100 = omega (arith, c.loop-turn-test.true, c.min-most.ensures) in
    let some : 0 < c.loop-turn.turn + 1 = omega arith in
    let crowded : is_crowded (state_of c.observe.new.self.hub) ≡ true = sym c.is_crowded.ensures ∙ c.if-is_crowded.true in
    ((within, few, inr (inr (some, crowded))), (applied, shown, steps))

pub returns-in_err-observe-clause-stops : goal.returns-in_err-observe-clause-stops
returns-in_err-observe-clause-stops g c =
    let so_far = c.loop-turn.invariant.happened in
    let missed = c.turn-outcome.ensures.happens.0 in
    let observed : Observation = Observed c.turn-outcome.result c.turn-outcome.new.self.bus.world.nodes c.turn-outcome.new.self.sensors.railway in
    let one : LoggedEvent = record { event = Turn missed; observed = observed } in
    let reports = c.observe.ensures.log in
    let applied = so_far.0 ++ one ∷ reports.0 in
    let shown = shown_more (g.P.Observer.observed c.args.observer.now) (g.P.Observer.observed c.loop-turn.observer) (g.P.Observer.observed c.observe.new.observer) so_far.0 (one ∷ reports.0) so_far.1 reports.1 in
    let steps =
    steps_more is_turn c.loop-turn.turn so_far.0 (one ∷ reports.0) (state_of c.args.self.now.hub) (state_of c.loop-turn.self.hub) (state_of c.observe.new.self.hub) so_far.2 c.loop-turn.invariant.room
    (Turn missed, refl, (refl, reports.2), (state_of c.turn-outcome.new.self, c.turn-outcome.ensures.happens.1, reports.3)) in
    let within : c.loop-turn.turn + 1 ≤ c.args.owed = omega (arith, c.loop-turn-test.true, c.min-most.ensures) in
    let few : c.loop-turn.turn + 1 ≤ 100 = omega (arith, c.loop-turn-test.true, c.min-most.ensures) in
    whatever_fails c.from_residual.result (applied, shown, (c.loop-turn.turn + 1, within, few, steps))
