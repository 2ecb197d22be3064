use Rattle.std.proofs.Common.{ℕ, List, [], ◌∷◌, Option, ◌++◌, append-nil, refl, subst, sym, inl}
use Rattle.std.specs.Prelude.{option_copied}
use Rattle.std.specs.List.{flat_map}
use Rattle.bus.specs.Log.{Extends}
use Rattle.bus_server.specs.Snapshots.{state_of}
use Rattle.bus_server.specs.Running.{Round, skipped, run_snapshot, shown}
use Rattle.bus_server.specs.ServerState.{ServerState, answer_to, longest_wait, transport_events, observations_in, observations_of}
use Rattle.bus_server.specs.TransportEvents.{Polled, TransportEvent}
use Rattle.bus_server.proofs.Going.{grows_more, grows_none, shown_of}
use Rattle.bus_server.proofs.SoFar.{is_so_far, lent_is}
use Rattle.bus_server.proofs.Stopping.{failed_on, one_grown, round_stopped, stops_on_track}
use Rattle.bus_server.specs.Observations.{Observation}
use Rattle.bus_server.specs.Rounds.{IsRound}
use Rattle.bus_server.specs.StoppedRuns.{StopsIn}
use Rattle.bus_server.proofs.server.Server.run_round.Goals as goal

pub returns-in-Ok-clause-round : goal.returns-in-Ok-clause-round
returns-in-Ok-clause-round g c =
    let log = g.W.Transport.log in
    let observed = g.P.Observer.observed in
    let readings = g.C.TimeSource.readings in
    let shown_so_far = g.A.AfterRound.shown in
    let longest = longest_wait (state_of c.args.self.now.hub) in
    let polled = subst (λ (wait : Option ℕ). Extends (log c.args.transport.now) (log c.wait.new.self) (Polled wait ∷ [])) c.longest_wait.ensures c.in_default.ensures in
    let served = c.in_default-round.ensures.served in
    let is_round = subst (λ (start : ServerState). IsRound served.0 start (state_of c.round.new.self.hub)) c.start_round.ensures.state served.3 in
    let ran = c.in_ok-run_track.ensures.runs in
    let later = flat_map skipped ran.0 ++ observations_of ran.1 in
    let end = state_of c.run_track.new.self.hub in
    let is_shown : Extends (shown_so_far c.args.after_round.now) (shown_so_far c.after_round.new.self) (shown end ∷ []) =
    shown_of (shown_so_far c.args.after_round.now) (shown_so_far c.after_round.new.self) c.world.result.now c.run_track.new.self.hub.bus.world (option_copied c.railway.result) c.run_track.new.self.hub.sensors.railway c.world.ensures c.railway.ensures c.after_round.ensures.shown in
    let round : Round = record { longest = longest; answers = answer_to (state_of c.args.self.now.hub); handled = served.0; readings = ran.0; elapsing = ran.1; shown = shown end ∷ [] } in (
      round,
      (
        one_grown round (run_snapshot (g.W.Transport.log c.args.transport.now) (g.C.TimeSource.readings c.args.clock.now) (g.P.Observer.observed c.args.observer.now) (g.A.AfterRound.shown c.args.after_round.now) c.args.self.now.hub) (run_snapshot (g.W.Transport.log c.after_round.new.transport) (g.C.TimeSource.readings c.run_track.new.clock) (g.P.Observer.observed c.after_round.new.observer) (g.A.AfterRound.shown c.after_round.new.self) c.run_track.new.self.hub)
            (subst (λ (more : List TransportEvent). Extends (log c.args.transport.now) (log c.after_round.new.transport) (Polled longest ∷ more)) (append-nil (transport_events served.0))
            (grows_more (log c.args.transport.now) (log c.wait.new.self) (log c.after_round.new.transport) (Polled longest ∷ []) (transport_events served.0 ++ []) polled
            (grows_more (log c.wait.new.self) (log c.round.new.transport) (log c.after_round.new.transport) (transport_events served.0) [] served.1 c.after_round.ensures.log)))
            ran.2
            (subst (λ (more : List Observation). Extends (observed c.args.observer.now) (observed c.after_round.new.observer) more) (append-nil (observations_in served.0 ++ later))
            (grows_more (observed c.args.observer.now) (observed c.run_track.new.observer) (observed c.after_round.new.observer) (observations_in served.0 ++ later) []
            (grows_more (observed c.args.observer.now) (observed c.round.new.observer) (observed c.run_track.new.observer) (observations_in served.0) later served.2 ran.3) c.after_round.ensures.observed))
            is_shown,
        (c.requires.fewer, end, ((refl, refl), state_of c.round.new.self.hub, is_round, ran.4, refl), refl),
      ),
    )

-- the run so far, with this round
pub after_round-requires-clause-so_far : goal.after_round-requires-clause-so_far
after_round-requires-clause-so_far g c =
    let log = g.W.Transport.log in
    let observed = g.P.Observer.observed in
    let longest = longest_wait (state_of c.args.self.now.hub) in
    let polled = subst (λ (wait : Option ℕ). Extends (log c.args.transport.now) (log c.wait.new.self) (Polled wait ∷ [])) c.longest_wait.ensures c.in_default.ensures in
    let served = c.in_default-round.ensures.served in
    let is_round = subst (λ (start : ServerState). IsRound served.0 start (state_of c.round.new.self.hub)) c.start_round.ensures.state served.3 in
    let ran = c.in_ok-run_track.ensures.runs in
    let later = flat_map skipped ran.0 ++ observations_of ran.1 in
    let end = state_of c.run_track.new.self.hub in
    let before = run_snapshot (log c.args.transport.now) (g.C.TimeSource.readings c.args.clock.now) (observed c.args.observer.now) (g.A.AfterRound.shown c.args.after_round.now) c.args.self.now.hub in
    let round : Round = record { longest = longest; answers = answer_to (state_of c.args.self.now.hub); handled = served.0; readings = ran.0; elapsing = ran.1; shown = shown end ∷ [] } in
    is_so_far c.rounds_are_a_run.ensures c.args.most (g.A.AfterRound.begun c.args.after_round.now) round before end (log c.round.new.transport) (observed c.run_track.new.observer)
    (record { nodes = c.world.result.now.nodes; railway = option_copied c.railway.result }) c.requires.so_far c.requires.fewer
    ((refl, refl), state_of c.round.new.self.hub, is_round, ran.4, refl)
    (subst (λ (more : List TransportEvent). Extends (log c.args.transport.now) (log c.round.new.transport) more) (sym (append-nil (Polled longest ∷ transport_events served.0)))
    (grows_more (log c.args.transport.now) (log c.wait.new.self) (log c.round.new.transport) (Polled longest ∷ []) (transport_events served.0) polled served.1))
    (subst (λ (more : List Observation). Extends (observed c.args.observer.now) (observed c.run_track.new.observer) more) (sym (append-nil (observations_in served.0 ++ later)))
    (grows_more (observed c.args.observer.now) (observed c.round.new.observer) (observed c.run_track.new.observer) (observations_in served.0) later served.2 ran.3))
    (lent_is c.world.result.now c.run_track.new.self.hub.bus.world (option_copied c.railway.result) c.run_track.new.self.hub.sensors.railway c.world.ensures c.railway.ensures)

pub returns-in-Err-clause-round : goal.returns-in-Err-clause-round
returns-in-Err-clause-round g c =
    let log = g.W.Transport.log in
    let longest = longest_wait (state_of c.args.self.now.hub) in
    let last : Round = record { longest = longest; answers = λ client. []; handled = []; readings = []; elapsing = []; shown = [] } in
    let polled = subst (λ (wait : Option ℕ). Extends (log c.args.transport.now) (log c.wait.new.self) (Polled wait ∷ [])) c.longest_wait.ensures c.in-Err.ensures in (
      last,
      (
        one_grown last (run_snapshot (g.W.Transport.log c.args.transport.now) (g.C.TimeSource.readings c.args.clock.now) (g.P.Observer.observed c.args.observer.now) (g.A.AfterRound.shown c.args.after_round.now) c.args.self.now.hub) (run_snapshot (g.W.Transport.log c.wait.new.self) (g.C.TimeSource.readings c.args.clock.now) (g.P.Observer.observed c.args.observer.now) (g.A.AfterRound.shown c.args.after_round.now) c.args.self.now.hub)
            polled (grows_none (g.C.TimeSource.readings c.args.clock.now)) (grows_none (g.P.Observer.observed c.args.observer.now)) (grows_none (g.A.AfterRound.shown c.args.after_round.now)),
        c.requires.fewer,
        (refl, refl),
      ),
    )

pub returns-in-Err-round-clause-round : goal.returns-in-Err-round-clause-round
returns-in-Err-round-clause-round g c =
    let log = g.W.Transport.log in
    let observed = g.P.Observer.observed in
    let readings = g.C.TimeSource.readings in
    let shown_so_far = g.A.AfterRound.shown in
    let longest = longest_wait (state_of c.args.self.now.hub) in
    let polled = subst (λ (wait : Option ℕ). Extends (log c.args.transport.now) (log c.wait.new.self) (Polled wait ∷ [])) c.longest_wait.ensures c.in_default.ensures in
    let stops = c.in-Err-round.ensures.stops in
    let stops_in = subst (λ (start : ServerState). StopsIn stops.0 start (state_of c.round.new.self.hub)) c.start_round.ensures.state stops.3 in
    let last : Round = record { longest = longest; answers = answer_to (state_of c.args.self.now.hub); handled = stops.0; readings = []; elapsing = []; shown = [] } in (
      last,
      (
        one_grown last (run_snapshot (g.W.Transport.log c.args.transport.now) (g.C.TimeSource.readings c.args.clock.now) (g.P.Observer.observed c.args.observer.now) (g.A.AfterRound.shown c.args.after_round.now) c.args.self.now.hub) (run_snapshot (g.W.Transport.log c.round.new.transport) (g.C.TimeSource.readings c.args.clock.now) (g.P.Observer.observed c.round.new.observer) (g.A.AfterRound.shown c.args.after_round.now) c.round.new.self.hub)
            (grows_more (log c.args.transport.now) (log c.wait.new.self) (log c.round.new.transport) (Polled longest ∷ []) (transport_events stops.0) polled stops.1)
            (grows_none (readings c.args.clock.now))
            (subst (λ (more : List Observation). Extends (observed c.args.observer.now) (observed c.round.new.observer) more) (sym (append-nil (observations_in stops.0))) stops.2)
            (grows_none (shown_so_far c.args.after_round.now)),
        c.requires.fewer,
        ((refl, refl), inl (refl, refl, refl, stops_in)),
      ),
    )

pub returns-in_err-run_track-clause-round : goal.returns-in_err-run_track-clause-round
returns-in_err-run_track-clause-round g c =
    let log = g.W.Transport.log in
    let observed = g.P.Observer.observed in
    let readings = g.C.TimeSource.readings in
    let shown_so_far = g.A.AfterRound.shown in
    let longest = longest_wait (state_of c.args.self.now.hub) in
    let polled = subst (λ (wait : Option ℕ). Extends (log c.args.transport.now) (log c.wait.new.self) (Polled wait ∷ [])) c.longest_wait.ensures c.in_default.ensures in
    let served = c.in_default-round.ensures.served in
    let is_round = subst (λ (start : ServerState). IsRound served.0 start (state_of c.round.new.self.hub)) c.start_round.ensures.state served.3 in
    let stop = c.in_err-run_track.field-0.0 in
    let stops = c.in_err-run_track.ensures.stopped in
    let later = flat_map skipped stops.0 ++ observations_of stops.1 in
    let last : Round = record { longest = longest; answers = answer_to (state_of c.args.self.now.hub); handled = served.0; readings = stops.0; elapsing = stops.1; shown = [] } in
    let start = (run_snapshot (g.W.Transport.log c.args.transport.now) (g.C.TimeSource.readings c.args.clock.now) (g.P.Observer.observed c.args.observer.now) (g.A.AfterRound.shown c.args.after_round.now) c.args.self.now.hub) in
    let end = (run_snapshot (g.W.Transport.log c.round.new.transport) (g.C.TimeSource.readings c.run_track.new.clock) (g.P.Observer.observed c.run_track.new.observer) (g.A.AfterRound.shown c.args.after_round.now) c.run_track.new.self.hub) in
    round_stopped c.args.most c.from_residual.result stop start end c.from_residual.ensures.1 (
      last,
      (
        one_grown last start end
            (grows_more (log c.args.transport.now) (log c.wait.new.self) (log c.round.new.transport) (Polled longest ∷ []) (transport_events served.0) polled served.1)
            stops.2
            (grows_more (observed c.args.observer.now) (observed c.round.new.observer) (observed c.run_track.new.observer) (observations_in served.0) later served.2 stops.3)
            (grows_none (shown_so_far c.args.after_round.now)),
        c.requires.fewer,
        stops_on_track stop last (state_of c.args.self.now.hub) (state_of c.round.new.self.hub) (state_of c.run_track.new.self.hub) (refl, refl) is_round refl stops.4,
      ),
    )

pub returns-in-Err-after_round-clause-round : goal.returns-in-Err-after_round-clause-round
returns-in-Err-after_round-clause-round g c =
    let log = g.W.Transport.log in
    let observed = g.P.Observer.observed in
    let readings = g.C.TimeSource.readings in
    let shown_so_far = g.A.AfterRound.shown in
    let longest = longest_wait (state_of c.args.self.now.hub) in
    let polled = subst (λ (wait : Option ℕ). Extends (log c.args.transport.now) (log c.wait.new.self) (Polled wait ∷ [])) c.longest_wait.ensures c.in_default.ensures in
    let served = c.in_default-round.ensures.served in
    let is_round = subst (λ (start : ServerState). IsRound served.0 start (state_of c.round.new.self.hub)) c.start_round.ensures.state served.3 in
    let ran = c.in_ok-run_track.ensures.runs in
    let later = flat_map skipped ran.0 ++ observations_of ran.1 in
    let end = state_of c.run_track.new.self.hub in
    let is_shown : Extends (shown_so_far c.args.after_round.now) (shown_so_far c.after_round.new.self) (shown end ∷ []) =
    shown_of (shown_so_far c.args.after_round.now) (shown_so_far c.after_round.new.self) c.world.result.now c.run_track.new.self.hub.bus.world (option_copied c.railway.result) c.run_track.new.self.hub.sensors.railway c.world.ensures c.railway.ensures c.after_round.ensures.shown in
    let last : Round = record { longest = longest; answers = answer_to (state_of c.args.self.now.hub); handled = served.0; readings = ran.0; elapsing = ran.1; shown = shown end ∷ [] } in (
      last,
      (
        one_grown last (run_snapshot (g.W.Transport.log c.args.transport.now) (g.C.TimeSource.readings c.args.clock.now) (g.P.Observer.observed c.args.observer.now) (g.A.AfterRound.shown c.args.after_round.now) c.args.self.now.hub) (run_snapshot (g.W.Transport.log c.after_round.new.transport) (g.C.TimeSource.readings c.run_track.new.clock) (g.P.Observer.observed c.after_round.new.observer) (g.A.AfterRound.shown c.after_round.new.self) c.run_track.new.self.hub)
            (subst (λ (more : List TransportEvent). Extends (log c.args.transport.now) (log c.after_round.new.transport) (Polled longest ∷ more)) (append-nil (transport_events served.0))
            (grows_more (log c.args.transport.now) (log c.wait.new.self) (log c.after_round.new.transport) (Polled longest ∷ []) (transport_events served.0 ++ []) polled
            (grows_more (log c.wait.new.self) (log c.round.new.transport) (log c.after_round.new.transport) (transport_events served.0) [] served.1 c.after_round.ensures.log)))
            ran.2
            (subst (λ (more : List Observation). Extends (observed c.args.observer.now) (observed c.after_round.new.observer) more) (append-nil (observations_in served.0 ++ later))
            (grows_more (observed c.args.observer.now) (observed c.run_track.new.observer) (observed c.after_round.new.observer) (observations_in served.0 ++ later) []
            (grows_more (observed c.args.observer.now) (observed c.round.new.observer) (observed c.run_track.new.observer) (observations_in served.0) later served.2 ran.3) c.after_round.ensures.observed))
            is_shown,
        c.requires.fewer,
        ((refl, refl), (refl, state_of c.round.new.self.hub, is_round, ran.4)),
      ),
    )

pub returns-in_err-run_track-clause-after_round : goal.returns-in_err-run_track-clause-after_round
returns-in_err-run_track-clause-after_round g c =
    let stop = c.in_err-run_track.field-0.0 in
    let before = g.A.AfterRound.failed c.args.after_round.now in
    failed_on c.from_residual.result stop before before c.from_residual.ensures.1 (sym (c.in_err-run_track.ensures.not_after_round before))
