use Rattle.std.proofs.Common.{◌≡◌, ◌<◌, ◌≤◌, ◌+◌, ◌∷◌, ◌++◌, [], arith, inl, inr, refl, sym, ◌∙◌, true}
use Rattle.bus.specs.declared.event.Event.TheVariants.{Elapses}
use Rattle.bus.specs.Course.{micros_in}
use Rattle.bus_server.specs.Observations.{Observed, Observation}
use Rattle.bus_server.specs.Snapshots.{state_of}
use Rattle.bus_server.specs.ServerState.{LoggedEvent, events_of, is_crowded}
use Rattle.bus_server.specs.Track.{is_piece}
use Rattle.bus_server.proofs.Going.{grows_none, shown_more}
use Rattle.bus_server.proofs.Stopping.{whatever_fails}
use Rattle.bus_server.proofs.Tracking.{micros_more, some_piece, steps_more}
use Rattle.bus_server.proofs.server.Server.run_pieces.Goals as goal

pub loop-piece-init : goal.loop-piece-init
loop-piece-init g c = record {
  ready = c.requires.ready;
  room = λ some. absurd (omega (arith, some));
  happened = ([], grows_none (g.P.Observer.observed c.args.observer.now), (0, omega arith, (refl, refl), refl));
}

pub loop-piece-preserved : goal.loop-piece-preserved
loop-piece-preserved g c =
    let piece = c.min-piece.result in
    let so_far = c.loop-piece.invariant.happened in
    let happens = c.elapse-outcome.ensures.happens in
    let observed : Observation = Observed c.elapse-outcome.result c.elapse-outcome.new.self.bus.world.nodes c.elapse-outcome.new.self.sensors.railway in
    let one : LoggedEvent = record { event = Elapses piece happens.0; observed = observed } in
    let reports = c.observe.ensures.log in
    let applied = so_far.0 ++ one ∷ reports.0 in
    let start = state_of c.args.self.now.hub in
    let shown = shown_more (g.P.Observer.observed c.args.observer.now) (g.P.Observer.observed c.loop-piece.observer) (g.P.Observer.observed c.observe.new.observer) so_far.0 (one ∷ reports.0) so_far.1 reports.1 in
    let some_time : 0 < piece = omega (arith, c.min-piece.ensures, c.min.ensures, c.remaining.ensures.under_way, c.if-rest-eq0.false) in
    let steps =
    steps_more is_piece c.loop-piece._piece so_far.0 (one ∷ reports.0) start (state_of c.loop-piece.self.hub) (state_of c.observe.new.self.hub) so_far.2.2 c.loop-piece.invariant.room
    (Elapses piece happens.0, some_piece piece some_time, (refl, reports.2), (state_of c.elapse-outcome.new.self, happens.1, reports.3)) in
    let elapsed : micros_in start.bus (events_of applied) ≡ so_far.2.0 + piece = micros_more piece happens.0 observed so_far.0 reports.0 start.bus so_far.2.0 so_far.2.3 reports.2 in
    let within : piece ≤ c.loop-piece.rest = omega (arith, c.min-piece.ensures, c.min.ensures) in
    record {
      ready = c.in_ok-observe.ensures.ready;
      room = λ some. sym c.is_crowded.ensures ∙ c.if-is_crowded.false;
      happened = (applied, shown, (so_far.2.0 + piece, omega (arith, so_far.2.1, within), steps, elapsed));
    }

pub returns-then-rest-eq0-clause-happened : goal.returns-then-rest-eq0-clause-happened
returns-then-rest-eq0-clause-happened g c =
    let so_far = c.loop-piece.invariant.happened in
    let all : so_far.2.0 ≡ c.args.owed = omega (arith, so_far.2.1, c.if-rest-eq0.true) in
    let within : so_far.2.0 ≤ c.args.owed = omega (arith, all) in
    let few : c.loop-piece._piece ≤ 100 = omega (arith, c.loop-piece-test.true) in
    (so_far.0, so_far.1, (c.loop-piece._piece, so_far.2.0, omega (arith, all), so_far.2.2, so_far.2.3, (within, few, inl all)))

pub returns-then-is_crowded-clause-happened : goal.returns-then-is_crowded-clause-happened
returns-then-is_crowded-clause-happened g c =
    let piece = c.min-piece.result in
    let so_far = c.loop-piece.invariant.happened in
    let happens = c.elapse-outcome.ensures.happens in
    let observed : Observation = Observed c.elapse-outcome.result c.elapse-outcome.new.self.bus.world.nodes c.elapse-outcome.new.self.sensors.railway in
    let one : LoggedEvent = record { event = Elapses piece happens.0; observed = observed } in
    let reports = c.observe.ensures.log in
    let applied = so_far.0 ++ one ∷ reports.0 in
    let start = state_of c.args.self.now.hub in
    let shown = shown_more (g.P.Observer.observed c.args.observer.now) (g.P.Observer.observed c.loop-piece.observer) (g.P.Observer.observed c.observe.new.observer) so_far.0 (one ∷ reports.0) so_far.1 reports.1 in
    let some_time : 0 < piece = omega (arith, c.min-piece.ensures, c.min.ensures, c.remaining.ensures.under_way, c.if-rest-eq0.false) in
    let steps =
    steps_more is_piece c.loop-piece._piece so_far.0 (one ∷ reports.0) start (state_of c.loop-piece.self.hub) (state_of c.observe.new.self.hub) so_far.2.2 c.loop-piece.invariant.room
    (Elapses piece happens.0, some_piece piece some_time, (refl, reports.2), (state_of c.elapse-outcome.new.self, happens.1, reports.3)) in
    let elapsed : micros_in start.bus (events_of applied) ≡ so_far.2.0 + piece = micros_more piece happens.0 observed so_far.0 reports.0 start.bus so_far.2.0 so_far.2.3 reports.2 in
    let within : piece ≤ c.loop-piece.rest = omega (arith, c.min-piece.ensures, c.min.ensures) in
    let part : so_far.2.0 + piece ≤ c.args.owed = omega (arith, so_far.2.1, within) in
    let few : c.loop-piece._piece + 1 ≤ 100 = omega (arith, c.loop-piece-test.true) in
    let some : 0 < c.loop-piece._piece + 1 = omega arith in
    let crowded : is_crowded (state_of c.observe.new.self.hub) ≡ true = sym c.is_crowded.ensures ∙ c.if-is_crowded.true in
    (applied, shown, (c.loop-piece._piece + 1, so_far.2.0 + piece, omega (arith, so_far.2.1, within), steps, elapsed, (part, few, inr (inr (some, crowded)))))

pub returns-clause-happened : goal.returns-clause-happened
returns-clause-happened g c =
    let so_far = c.loop-piece.invariant.happened in
    let hundred : c.loop-piece._piece ≡ 100 = omega (arith, c.loop-piece.auto._piece-end, c.loop-piece-test.false) in
    let within : so_far.2.0 ≤ c.args.owed = omega (arith, so_far.2.1) in
    let few : c.loop-piece._piece ≤ 100 = omega (arith, hundred) in
    (so_far.0, so_far.1, (c.loop-piece._piece, so_far.2.0, so_far.2.1, so_far.2.2, so_far.2.3, (within, few, inr (inl hundred))))

pub returns-in_err-observe-clause-stops : goal.returns-in_err-observe-clause-stops
returns-in_err-observe-clause-stops g c =
    let piece = c.min-piece.result in
    let so_far = c.loop-piece.invariant.happened in
    let happens = c.elapse-outcome.ensures.happens in
    let observed : Observation = Observed c.elapse-outcome.result c.elapse-outcome.new.self.bus.world.nodes c.elapse-outcome.new.self.sensors.railway in
    let one : LoggedEvent = record { event = Elapses piece happens.0; observed = observed } in
    let reports = c.observe.ensures.log in
    let applied = so_far.0 ++ one ∷ reports.0 in
    let start = state_of c.args.self.now.hub in
    let shown = shown_more (g.P.Observer.observed c.args.observer.now) (g.P.Observer.observed c.loop-piece.observer) (g.P.Observer.observed c.observe.new.observer) so_far.0 (one ∷ reports.0) so_far.1 reports.1 in
    let some_time : 0 < piece = omega (arith, c.min-piece.ensures, c.min.ensures, c.remaining.ensures.under_way, c.if-rest-eq0.false) in
    let steps =
    steps_more is_piece c.loop-piece._piece so_far.0 (one ∷ reports.0) start (state_of c.loop-piece.self.hub) (state_of c.observe.new.self.hub) so_far.2.2 c.loop-piece.invariant.room
    (Elapses piece happens.0, some_piece piece some_time, (refl, reports.2), (state_of c.elapse-outcome.new.self, happens.1, reports.3)) in
    let elapsed : micros_in start.bus (events_of applied) ≡ so_far.2.0 + piece = micros_more piece happens.0 observed so_far.0 reports.0 start.bus so_far.2.0 so_far.2.3 reports.2 in
    let within : piece ≤ c.loop-piece.rest = omega (arith, c.min-piece.ensures, c.min.ensures) in
    let part : micros_in start.bus (events_of applied) ≤ c.args.owed = omega (arith, elapsed, so_far.2.1, within) in
    let few : c.loop-piece._piece + 1 ≤ 100 = omega (arith, c.loop-piece-test.true) in
    whatever_fails c.from_residual.result (applied, shown, (c.loop-piece._piece + 1, steps, part, few))
