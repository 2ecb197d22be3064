-- The events of rounds run one after another on a layout, whatever else a server does between them.
use Rattle.std.proofs.Common.{◌≡◌, ℕ, List, [], ◌∷◌, ◌++◌, refl, ap, sym, subst, ◌∙◌}
use Rattle.std.specs.List.{flat_map}
use Rattle.decoder_node.specs.declared.running.Running.{Running}
use Rattle.bus_server.specs.declared.pace.Pace.{Pace}
use Rattle.bus_server.specs.Running.{Round, RunsRounds, logged_in}
use Rattle.bus_server.specs.ServerState.{Applies, AppliesAll, Handled, LoggedEvent, RunsEvent, RunsEvents, ServerState, with_backlog, round_start}
use Rattle.bus_server.specs.SliderToRail.{HasSameLayout, StaysLeftAlone, RunsLeavingAlone, RunsRoundsLeavingAlone}
use Rattle.bus_server.specs.Track.{RunsTrack}
use Rattle.bus_server.specs.TransportEvents.{Accepted, NonePending, PeerClosed, Polled, ReadBlocked, Received, Refused, ServerClosed, TransportEvent, WriteBlocked, Written}
use Rattle.bus_server.proofs.Rounding.{round_serves}
use Rattle.bus_server.proofs.Tracking.{track_ran, with_due}

abbrev RunsOnLayout : List LoggedEvent → (old new : ServerState) → Type 0
RunsOnLayout [] old new = HasSameLayout old new
RunsOnLayout (one ∷ more) old new =
    (begun mid : ServerState) × HasSameLayout old begun × RunsEvent one.event one.observed begun mid × RunsOnLayout more mid new

is_same : (old new : ServerState) → new ≡ old → HasSameLayout old new
is_same old new same = record {
  bus = ap (λ (s : ServerState). s.bus) same;
  nodes = ap (λ (s : ServerState). s.nodes) same;
  names = ap (λ (s : ServerState). s.names) same;
  railway = ap (λ (s : ServerState). s.railway) same;
}

same_then : (old mid new : ServerState) → HasSameLayout old mid → HasSameLayout mid new → HasSameLayout old new
same_then old mid new h k = record { bus = k.bus ∙ h.bus; nodes = k.nodes ∙ h.nodes; names = k.names ∙ h.names; railway = k.railway ∙ h.railway }

starts_later : (applied : List LoggedEvent) (old mid new : ServerState) → HasSameLayout old mid → RunsOnLayout applied mid new → RunsOnLayout applied old new
starts_later [] old mid new same h = same_then old mid new same h
starts_later (one ∷ more) old mid new same h = (h.0, h.1, same_then old mid h.0 same h.2, h.3, h.4)

run_more : (first second : List LoggedEvent) (old mid new : ServerState) → RunsOnLayout first old mid → RunsOnLayout second mid new → RunsOnLayout (first ++ second) old new
run_more [] second old mid new h k = starts_later second old mid new h k
run_more (one ∷ first) second old mid new h k = (h.0, h.1, h.2, h.3, run_more first second h.1 mid new h.4 k)

ends_earlier : (applied : List LoggedEvent) (old mid new : ServerState) → RunsOnLayout applied old mid → HasSameLayout mid new → RunsOnLayout applied old new
ends_earlier [] old mid new h same = same_then old mid new h same
ends_earlier (one ∷ more) old mid new h same = (h.0, h.1, h.2, h.3, ends_earlier more h.1 mid new h.4 same)

events_run : (applied : List LoggedEvent) (old new : ServerState) → RunsEvents applied old new → RunsOnLayout applied old new
events_run [] old new h = is_same old new h
events_run (one ∷ more) old new h = (old, h.0, is_same old old refl, h.1, events_run more h.0 new h.2)

none_run : (applied : List LoggedEvent) (old new : ServerState) → applied ≡ [] → HasSameLayout old new → RunsOnLayout applied old new
none_run applied old new none same = subst (λ (all : List LoggedEvent). RunsOnLayout all old new) (sym none) same

as_before : (applied : List LoggedEvent) (old new : ServerState) → applied ≡ [] → new ≡ old → RunsOnLayout applied old new
as_before applied old new none same = none_run applied old new none (is_same old new same)

backlog_same : (old : ServerState) → HasSameLayout old (with_backlog old)
backlog_same old = record { bus = refl; nodes = refl; names = refl; railway = refl }

start_same : (old : ServerState) → HasSameLayout old (round_start old)
start_same old = record { bus = refl; nodes = refl; names = refl; railway = refl }

act_runs : (log : TransportEvent) (applied : List LoggedEvent) (old new : ServerState) → Applies log applied old new → RunsOnLayout applied old new
act_runs (Accepted client) applied old new h = starts_later applied old (with_backlog old) new (backlog_same old) (events_run applied (with_backlog old) new h.1.2)
act_runs (Received client byte) applied old new h = starts_later applied old (with_backlog old) new (backlog_same old) (events_run applied (with_backlog old) new h.1.2)
act_runs (PeerClosed client) applied old new h = events_run applied old new h.2
act_runs (ServerClosed client) applied old new h = events_run applied old new h.1.2
act_runs (Written client bytes) applied old new h =
    none_run applied old new h.0
    (record {
      bus = ap (λ (s : ServerState). s.bus) h.3;
      nodes = ap (λ (s : ServerState). s.nodes) h.3;
      names = ap (λ (s : ServerState). s.names) h.3;
      railway = ap (λ (s : ServerState). s.railway) h.3;
    })
act_runs Refused applied old new h = none_run applied old new h.0 (same_then old (with_backlog old) new (backlog_same old) (is_same (with_backlog old) new h.2))
act_runs (Polled longest) applied old new h = absurd h
act_runs (ReadBlocked client) applied old new h = as_before applied old new h.0 h.1
act_runs (WriteBlocked client) applied old new h = as_before applied old new h.0 h.1
act_runs NonePending applied old new h = as_before applied old new h.0 h.1

abbrev applied_in : List Handled → List LoggedEvent
applied_in handled = flat_map (λ one_handled. one_handled.applied) handled

acts_run : (handled : List Handled) (old new : ServerState) → AppliesAll handled old new → RunsOnLayout (applied_in handled) old new
acts_run [] old new h = is_same old new h
acts_run (one_handled ∷ handled) old new h =
    run_more one_handled.applied (applied_in handled) old h.0 new (act_runs one_handled.log one_handled.applied old h.0 h.1) (acts_run handled h.0 new h.2)

track_runs : (pace : Pace) (readings : List ℕ) (elapsing : List LoggedEvent) (old new : ServerState) → RunsTrack pace readings elapsing old new → RunsOnLayout elapsing old new
track_runs pace readings elapsing old new h =
    let ran = track_ran pace readings elapsing old new h in
    let moved = with_due new.turns_due new.time_due new.has_backlog ran.0 in
    let same : HasSameLayout ran.0 moved = record { bus = refl; nodes = refl; names = refl; railway = refl } in
    ends_earlier elapsing old ran.0 new (events_run elapsing old ran.0 ran.1) (same_then ran.0 moved new same (is_same moved new ran.2))

rounds_run : (most : ℕ) (rounds : List Round) (old new : ServerState) → RunsRounds most rounds old new → RunsOnLayout (logged_in rounds) old new
rounds_run most [] old new h = is_same old new h
rounds_run most (round ∷ rounds) old new h =
    let went = h.2 in
    let handled = applied_in round.handled in
    let served = acts_run round.handled (round_start old) went.1 (round_serves round.handled (round_start old) went.1 went.2) in
    run_more (handled ++ round.elapsing) (logged_in rounds) old h.1 new
    (run_more handled round.elapsing old went.1 h.1 (starts_later handled old (round_start old) went.1 (start_same old) served)
    (track_runs went.1.pace round.readings round.elapsing went.1 h.1 went.3))
    (rounds_run most rounds h.1 new h.3)

left_alone : (train : ℕ) (running : Running) (applied : List LoggedEvent) (old new : ServerState) → RunsOnLayout applied old new → StaysLeftAlone train running applied old → RunsLeavingAlone train running applied old new
left_alone train running [] old new h alone = h
left_alone train running (one ∷ more) old new h alone =
    let here = alone h.0 h.1 h.2 h.3 in
    (h.0, h.1, h.2, h.3, here.0, left_alone train running more h.1 new h.4 here.1)

pub rounds_leave_alone : (train : ℕ) (running : Running) (applied : List LoggedEvent) (old new : ServerState) → RunsRoundsLeavingAlone train running applied old new → RunsLeavingAlone train running applied old new
rounds_leave_alone train running applied old new h =
    left_alone train running applied old new (subst (λ (all : List LoggedEvent). RunsOnLayout all old new) (sym h.2) (rounds_run h.0 h.1 old new h.3)) h.4
