-- A run that a device stops.
use Rattle.std.proofs.Common.{◌≡◌, ℕ, Bool, List, [], ◌∷◌, ◌++◌, Result, Ok, Err, refl, ap, sym, subst, ◌∙◌, append_assoc, append-nil, inl, inr}
use Rattle.std.specs.Prelude.{IfErr, IfOk, IsErrAnd, OnErr, OnOk}
use Rattle.std.specs.List.{flat_map}
use Rattle.std.proofs.lemmas.List.Concat.{flat_map-append}
use Rattle.station_core.specs.Powered.{HasDesk}
use Rattle.bus.specs.Invariant.{IsInvariant}
use Rattle.bus.specs.Log.{Extends}
use Rattle.bus_server.specs.Observations.{Observation}
use Rattle.bus_server.specs.AfterRound.{Shown}
use Rattle.bus_server.specs.declared.running.Stop.{Stop}
use Rattle.bus_server.specs.declared.running.Stop.TheVariants.{Transport, Clock, Observer, AfterRound}
use Rattle.bus_server.specs.ServerState.{AppliesAll, Handled, LoggedEvent, ServerState, events_of, observations_in, observations_of, overflow_notice, transport_events, round_start}
use Rattle.bus_server.specs.Snapshots.{Snapshot}
use Rattle.bus_server.specs.Rounds.{IsRound}
use Rattle.bus_server.specs.Running.{HasGrown, IsEventRun, Round, RunSnapshot, RunsLogged, StartsRound, logged_in, skipped}
use Rattle.bus_server.specs.StoppedRuns.{Begins, IsStoppedRun, Returns, Serves, ServesRound, Stops, StopsAt, StopsElapsing, StopsIn, StopsLogged, StopsOnTrack, after_round_failed, fails}
use Rattle.bus_server.specs.TransportEvents.{Accepted, NonePending, PeerClosed, Polled, ReadBlocked, Received, Refused, ServerClosed, TransportEvent, WriteBlocked, Written}
use Rattle.bus_server.proofs.Courses.{Laws, act_course, acts_course, course_more, course_polled, cut_course, nothing_done, ran_course, rounds_course, time_course}
use Rattle.bus_server.proofs.Going.{acts_more, serves_more, wire_more}
use Rattle.bus_server.proofs.Rounding.{round_serves}
use Rattle.bus_server.proofs.Tracking.{stop_ran}
use Rattle.bus_server.proofs.WholeRuns.{Headline, has_grown}

-- behind all that these brought
pub stops_behind : (h : List Handled) (old mid new : Snapshot) → Extends old.log mid.log (transport_events h) → Extends old.observed mid.observed (observations_in h) → AppliesAll h old.state mid.state
    → Stops mid new → Stops old new
stops_behind h old mid new grows observed applies stops =
    let k = stops.0 in
    let inside = stops.3 in (
      h ++ k,
      wire_more old.log mid.log new.log h k grows stops.1,
      acts_more old.observed mid.observed new.observed h k observed stops.2,
      (
        h ++ inside.0,
        inside.1,
        inside.2,
        ap (λ (all : List Handled). h ++ all) inside.3 ∙ sym (append_assoc h inside.0 (inside.1 ∷ [])),
        serves_more h inside.0 old.state mid.state inside.2 applies inside.4,
        inside.5,
      ),
    )

-- at the first event of the transport
pub stops_first : (log : TransportEvent) (applied : List LoggedEvent) (old new : Snapshot) → Extends old.log new.log (log ∷ []) → Extends old.observed new.observed (overflow_notice log ++ observations_of applied)
    → Begins log applied old.state new.state → Stops old new
stops_first log applied old new grows observed begins =
    let last : Handled = record { log = log; applied = applied } in (
      last ∷ [],
      grows,
      subst (λ (more : List Observation). Extends old.observed new.observed more) (sym (append-nil (overflow_notice log ++ observations_of applied))) observed,
      ([], last, old.state, refl, refl, begins),
    )

-- What it ran is one list of events of the bus.

begins_course : Laws → (log : TransportEvent) (applied : List LoggedEvent) (old new : ServerState) → IsInvariant old.bus → Begins log applied old new → IsEventRun (events_of applied) old new
begins_course laws (Accepted client) applied old new kept h = act_course laws (Accepted client) applied old new kept h
begins_course laws (Received client byte) applied old new kept h = act_course laws (Received client byte) applied old new kept h
begins_course laws (PeerClosed client) applied old new kept h = act_course laws (PeerClosed client) applied old new kept h
begins_course laws (ServerClosed client) applied old new kept h = elim h [
  | inl begun ↦ act_course laws (ServerClosed client) applied old new kept begun
  | inr nothing ↦ nothing_done laws applied old new nothing.1 nothing.2
]
begins_course laws (Polled longest) applied old new kept h = absurd h
begins_course laws (Written client bytes) applied old new kept h = absurd h
begins_course laws Refused applied old new kept h = absurd h
begins_course laws (ReadBlocked client) applied old new kept h = absurd h
begins_course laws (WriteBlocked client) applied old new kept h = absurd h
begins_course laws NonePending applied old new kept h = absurd h

abbrev applied_in : List Handled → List LoggedEvent
applied_in handled = flat_map (λ one_handled. one_handled.applied) handled

stops_in_course : Laws → (handled : List Handled) (old new : ServerState) → IsInvariant old.bus → StopsIn handled old new → IsEventRun (events_of (applied_in handled)) old new
stops_in_course laws handled old new kept h =
    let before = h.0 in
    let last = h.1 in
    let mid = h.2 in
    subst (λ (all : List Handled). IsEventRun (events_of (applied_in all)) old new) (sym h.3)
    (subst (λ (all : List LoggedEvent). IsEventRun (events_of all) old new) (sym (flat_map-append (λ (one_handled : Handled). one_handled.applied) before (last ∷ [])))
    (cut_course (applied_in before) (applied_in (last ∷ [])) old new
    (course_more laws (events_of (applied_in before)) (events_of (applied_in (last ∷ []))) old mid new kept (acts_course laws before old mid kept h.4)
    (λ k. subst (λ (all : List LoggedEvent). IsEventRun (events_of all) mid new) (sym (append-nil last.applied)) (begins_course laws last.log last.applied mid new k h.5)))))

-- the last round, in two parts
last_course : Laws → (last : Round) (old mid new : ServerState) → IsInvariant old.bus → IsEventRun (events_of (applied_in last.handled)) old mid → (IsInvariant mid.bus → IsEventRun (events_of last.elapsing) mid new)
    → IsEventRun (events_of (logged_in (last ∷ []))) old new
last_course laws last old mid new kept first second =
    subst (λ (all : List LoggedEvent). IsEventRun (events_of all) old new) (sym (append-nil (applied_in last.handled ++ last.elapsing)))
    (cut_course (applied_in last.handled) last.elapsing old new (course_more laws (events_of (applied_in last.handled)) (events_of last.elapsing) old mid new kept first second))

elapsing_course : {T C O A : Type 0} → Laws → (stop : Stop T C O A) (last : Round) (old new : ServerState) → IsInvariant old.bus → StopsElapsing stop last old new → IsEventRun (events_of (logged_in (last ∷ []))) old new
elapsing_course laws stop last old new kept h =
    last_course laws last old h.1 new kept (acts_course laws last.handled old h.1 kept (round_serves last.handled old h.1 h.2))
    (λ k. ran_course laws last.elapsing h.1 new k (stop_ran stop h.1.pace last.readings last.elapsing h.1 new h.3))

stop_course : {T C O A : Type 0} → Laws → (stop : Stop T C O A) (last : Round) (old new : ServerState) → IsInvariant old.bus → StopsAt stop last old new → IsEventRun (events_of (logged_in (last ∷ []))) old new
stop_course laws (Transport fault) last old new kept h =
    subst (λ (round : Round). IsEventRun (events_of (logged_in (round ∷ []))) old new) (sym h.0) (nothing_done laws [] old new refl h.1)
stop_course {T = T} {O = O} {A = A} laws (Clock fault) last old new kept h =
    course_polled (events_of (logged_in (last ∷ []))) old new (elapsing_course {T = T} {O = O} {A = A} laws (Clock fault) last (round_start old) new kept h.1)
stop_course {T = T} {C = C} {A = A} laws (Observer fault) last old new kept h = course_polled (events_of (logged_in (last ∷ []))) old new (elim h.1 [
  | inl inside ↦ last_course laws last (round_start old) new new kept (stops_in_course laws last.handled (round_start old) new kept inside.3) (λ k. nothing_done laws last.elapsing new new inside.1 refl)
  | inr elapsing ↦ elapsing_course {T = T} {C = C} {A = A} laws (Observer fault) last (round_start old) new kept elapsing
])
stop_course laws (AfterRound fault) last old new kept h =
    let after = h.1 in
    course_polled (events_of (logged_in (last ∷ [])))
    old new
    (last_course laws last (round_start old) after.1 new kept
    (acts_course laws last.handled (round_start old) after.1 kept (round_serves last.handled (round_start old) after.1 after.2))
    (λ k. time_course laws after.1.pace last.readings last.elapsing after.1 new k after.3))

-- whole rounds, and then the last
pub run_stops : {T C O A : Type 0} → Laws → Headline → (most : ℕ) (stop : Stop T C O A) (rounds : List Round) (last : Round) (old mid new : RunSnapshot) → IsInvariant old.state.bus → HasDesk old.state.bus.station.powered
    → RunsLogged most rounds old mid → StopsLogged most stop last mid new → IsStoppedRun most stop old new
run_stops laws headline most stop rounds last old mid new kept desk runs stops =
    let course : IsEventRun (events_of (logged_in (rounds ++ last ∷ []))) old.state new.state =
    subst (λ (all : List LoggedEvent). IsEventRun (events_of all) old.state new.state)
    (sym (flat_map-append (λ (round : Round). applied_in round.handled ++ round.elapsing) rounds (last ∷ [])))
    (cut_course (logged_in rounds) (logged_in (last ∷ [])) old.state new.state
    (course_more laws (events_of (logged_in rounds)) (events_of (logged_in (last ∷ []))) old.state mid.state new.state kept (rounds_course laws most rounds old.state mid.state kept runs.1)
    (λ k. stop_course laws stop last mid.state new.state k stops.2))) in (
      rounds,
      last,
      has_grown rounds (last ∷ []) old mid new runs.0 stops.0,
      mid.state,
      runs.1,
      stops.1,
      stops.2,
      course,
      headline old.state.bus (events_of (logged_in (rounds ++ last ∷ []))) old.state.nodes new.state.nodes kept course.legal desk course.nodes,
    )

-- The fault that was passed on.

pub whatever_fails : {T E P : Type 0} (r : Result T E) → P → OnErr r P
whatever_fails (Ok value) p = tt
whatever_fails (Err fault) p = p

pub stopped : {T E : Type 0} (Holds : T → Snapshot → Snapshot → Type 0) (r : Result T E) (fault : E) (old new : Snapshot) → IsErrAnd r (λ propagated. propagated ≡ fault) → Stops old new → Returns Holds r old new
stopped Holds (Ok value) fault old new failed stops = absurd failed
stopped Holds (Err propagated) fault old new failed stops = stops

-- What a call did, by its two outcomes.

pub returned : {T E : Type 0} (Holds : T → Snapshot → Snapshot → Type 0) (r : Result T E) (old new : Snapshot) → IfOk r (λ value. Holds value old new) → OnErr r (Stops old new) → Returns Holds r old new
returned Holds (Ok value) old new holds stops = holds
returned Holds (Err fault) old new holds stops = stops

pub if_served : {T E : Type 0} (Holds : Snapshot → Snapshot → Type 0) (r : Result T E) (old new : Snapshot) → Serves Holds r old new → OnOk r (Holds old new)
if_served Holds (Ok value) old new did = did
if_served Holds (Err fault) old new did = tt

pub if_stopped : {T E : Type 0} (Holds : Snapshot → Snapshot → Type 0) (r : Result T E) (old new : Snapshot) → Serves Holds r old new → OnErr r (Stops old new)
if_stopped Holds (Ok value) old new did = tt
if_stopped Holds (Err fault) old new did = did

pub serves_later : {T E : Type 0} (Holds Holds' : Snapshot → Snapshot → Type 0) (r : Result T E) (old mid new : Snapshot) → (Holds mid new → Holds' old new) → (Stops mid new → Stops old new)
    → Serves Holds r mid new → Serves Holds' r old new
serves_later Holds Holds' (Ok value) old mid new holds stops did = holds did
serves_later Holds Holds' (Err fault) old mid new holds stops did = stops did

pub passed_on : {T E : Type 0} (P : E → Type 0) (r : Result T E) (fault : E) → IsErrAnd r (λ propagated. propagated ≡ fault) → P fault → IfErr r P
passed_on P (Ok value) fault same p = tt
passed_on P (Err propagated) fault same p = subst P (sym same) p

pub round_stopped : {U T C O A : Type 0} (most : ℕ) (r : Result U (Stop T C O A)) (stop : Stop T C O A) (old new : RunSnapshot) → IsErrAnd r (λ propagated. propagated ≡ stop)
    → (last : Round) × StopsLogged most stop last old new → ServesRound most r old new
round_stopped most (Ok value) stop old new same h = absurd same
round_stopped most (Err propagated) stop old new same h = subst (λ (s : Stop _ _ _ _). (last : Round) × StopsLogged most s last old new) (sym same) h

pub failed_on : {U T C O A : Type 0} (r : Result U (Stop T C O A)) (stop : Stop T C O A) (before now : Bool) → IsErrAnd r (λ propagated. propagated ≡ stop) → now ≡ fails stop before → now ≡ after_round_failed r before
failed_on (Ok value) stop before now same h = absurd same
failed_on (Err propagated) stop before now same h = h ∙ ap (λ (s : Stop _ _ _ _). fails s before) (sym same)

-- The last round.

pub one_grown : (last : Round) (old new : RunSnapshot) → Extends old.log new.log (Polled last.longest ∷ transport_events last.handled) → Extends old.readings new.readings last.readings
    → Extends old.observed new.observed (observations_in last.handled ++ (flat_map skipped last.readings ++ observations_of last.elapsing)) → Extends old.shown new.shown last.shown → HasGrown (last ∷ []) old new
one_grown last old new log readings observed shown = (
  subst (λ (more : List TransportEvent). Extends old.log new.log (Polled last.longest ∷ more)) (sym (append-nil (transport_events last.handled))) log,
  subst (λ (more : List ℕ). Extends old.readings new.readings more) (sym (append-nil last.readings)) readings,
  subst (λ (more : List Observation). Extends old.observed new.observed more) (sym (append-nil (observations_in last.handled ++ (flat_map skipped last.readings ++ observations_of last.elapsing)))) observed,
  subst (λ (more : List Shown). Extends old.shown new.shown more) (sym (append-nil last.shown)) shown,
)

-- behind a whole round, on the track
pub stops_on_track : {T C O A : Type 0} → (stop : Stop T C O A) (last : Round) (old mid new : ServerState) → StartsRound last old → IsRound last.handled (round_start old) mid → last.shown ≡ []
    → StopsOnTrack stop mid.pace last.readings last.elapsing mid new → StopsAt stop last old new
stops_on_track (Transport fault) last old mid new starts round none h = absurd h
stops_on_track (Clock fault) last old mid new starts round none h = (starts, (none, mid, round, h))
stops_on_track (Observer fault) last old mid new starts round none h = (starts, inr (none, mid, round, h))
stops_on_track (AfterRound fault) last old mid new starts round none h = absurd h
