use Rattle.std.proofs.Common.{[], refl, subst, sym}
use Rattle.std.specs.List.{flat_map}
use Rattle.bus_server.specs.declared.pace.Pace.{Pace}
use Rattle.bus_server.specs.declared.running.Stop.TheVariants.{Observer}
use Rattle.bus_server.specs.ServerState.{ServerState, observations_of}
use Rattle.bus_server.specs.Snapshots.{state_of}
use Rattle.bus_server.specs.Running.{skipped}
use Rattle.bus_server.specs.StoppedRuns.{StopsInTime, StopsOnTrack}
use Rattle.bus_server.specs.Track.{RunsTime, RunsTrack}
use Rattle.bus_server.proofs.Going.{grows_more, grows_none}
use Rattle.bus_server.proofs.server.Server.run_track.Goals as goal

pub returns-in-Ok-clause-runs : goal.returns-in-Ok-clause-runs
returns-in-Ok-clause-runs g c =
    let ran = c.in-Ok.ensures.happened in
    let old = state_of c.args.self.now.hub in
    let new = state_of c.run_turns.new.self.hub in
    ([], ran.0, grows_none (g.C.TimeSource.readings c.args.clock.now), ran.1, subst (λ (pace : Pace). RunsTrack pace [] ran.0 old new) (sym c.in_default.is) (refl, ran.2))

pub returns-in-Err-clause-stopped : goal.returns-in-Err-clause-stopped
returns-in-Err-clause-stopped g c =
    let stops = c.in-Err.ensures.stops in
    let old = state_of c.args.self.now.hub in
    let new = state_of c.run_turns.new.self.hub in
    ([], stops.0, grows_none (g.C.TimeSource.readings c.args.clock.now), stops.1, subst (λ (pace : Pace). StopsOnTrack {T = g.row.W-Fault.Denot} {C = g.row.C-Fault.Denot} {O = g.row.P-Fault.Denot} {A = g.row.A-Fault.Denot} (Observer c.in-Err.fault) pace [] stops.0 old new) (sym c.in_default.is) (refl, stops.2))

pub returns-in-Ok-run_time-clause-runs : goal.returns-in-Ok-run_time-clause-runs
returns-in-Ok-run_time-clause-runs g c =
    let observed = g.P.Observer.observed in
    let takes = c.in_ok-take_time.ensures.takes in
    let ran = c.in-Ok-run_time.ensures.happened in
    let old = state_of c.args.self.now.hub in
    let new = state_of c.run_time.new.self.hub in
    let time : RunsTime takes.1 ran.0 old new = subst (λ (s : ServerState). RunsTime s.time_due ran.0 s new) takes.5 ran.2 in (
      takes.0,
      ran.0,
      takes.2,
      grows_more (observed c.args.observer.now) (observed c.take_time.new.observer) (observed c.run_time.new.observer) (flat_map skipped takes.0) (observations_of ran.0) takes.3 ran.1,
      subst (λ (pace : Pace). RunsTrack pace takes.0 ran.0 old new) (sym c.in-RealTime.is) (takes.1, takes.4, time),
    )

pub returns-in-Err-run_time-clause-stopped : goal.returns-in-Err-run_time-clause-stopped
returns-in-Err-run_time-clause-stopped g c =
    let observed = g.P.Observer.observed in
    let takes = c.in_ok-take_time.ensures.takes in
    let stops = c.in-Err-run_time.ensures.stops in
    let old = state_of c.args.self.now.hub in
    let new = state_of c.run_time.new.self.hub in
    let time : StopsInTime takes.1 stops.0 old new = subst (λ (s : ServerState). StopsInTime s.time_due stops.0 s new) takes.5 stops.2 in (
      takes.0,
      stops.0,
      takes.2,
      grows_more (observed c.args.observer.now) (observed c.take_time.new.observer) (observed c.run_time.new.observer) (flat_map skipped takes.0) (observations_of stops.0) takes.3 stops.1,
      subst (λ (pace : Pace). StopsOnTrack {T = g.row.W-Fault.Denot} {C = g.row.C-Fault.Denot} {O = g.row.P-Fault.Denot} {A = g.row.A-Fault.Denot} (Observer c.in-Err-run_time.fault) pace takes.0 stops.0 old new) (sym c.in-RealTime.is) (takes.1, takes.4, time),
    )
