-- The track time of a run.
use Rattle.std.proofs.Common.{◌≡◌, ℕ, zero, suc, ◌+◌, ◌*◌, ◌-◌, ◌≤◌, List, [], ◌∷◌, ◌++◌, refl, ap, sym, subst, ◌∙◌, arith, mul-add, mul-zero}
use Rattle.std.specs.Prelude.{min}
use Rattle.std.specs.List.{flat_map}
use Rattle.std.proofs.lemmas.List.{map-append}
use Rattle.bus.specs.declared.event.Event.{Event}
use Rattle.bus.specs.declared.event.Event.TheVariants.{Connects, Disconnects, Receives}
use Rattle.bus.specs.Bus.{BusState, after_event, after_events}
use Rattle.bus.specs.Course.{micros_in, micros_of}
use Rattle.bus_server.specs.declared.pace.Pace.{Pace}
use Rattle.bus_server.specs.declared.pace.Pace.TheVariants.{RealTime}
use Rattle.bus_server.specs.Pace.{longest_step, track_time}
use Rattle.bus_server.specs.Running.{RunsRounds, Round, logged_in, readings_of, time_read}
use Rattle.bus_server.specs.ServerState.{Handled, RunsEventWithReports, Applies, LoggedEvent, RunsEvents, IsWithReports, AppliesAll, ServerState, events_of, with_backlog, round_start}
use Rattle.bus_server.specs.Track.{IsTimeDue, RunsTime, RunsTrack, is_piece, with_time_due}
use Rattle.bus_server.specs.TransportEvents.{Polled, ServerClosed, Accepted, WriteBlocked, PeerClosed, NonePending, TransportEvent, Written, ReadBlocked, Received, Refused}
use Rattle.bus_server.proofs.Courses.{after-append}
use Rattle.bus_server.proofs.Going.{reports_take_none}
use Rattle.bus_server.proofs.Rounding.{round_serves}
use Rattle.bus_server.proofs.Tracking.{steps_run}

-- of so much time that was read, this elapsed in these events, and the rest is due
record Took (read : ℕ) (events : List Event) (old new : ServerState) : Type 0 where
  bus : new.bus ≡ after_events old.bus events
  time : micros_in old.bus events + new.time_due ≡ old.time_due + read
  pace : new.pace ≡ old.pace

micros-append : (events later : List Event) (bus : BusState) → micros_in bus (events ++ later) ≡ micros_in bus events + micros_in (after_events bus events) later
micros-append [] later bus = omega arith
micros-append (event ∷ events) later bus = omega (arith, micros-append events later (after_event bus event))

took_more : (m n : ℕ) (first second : List Event) (old mid new : ServerState) → Took m first old mid → Took n second mid new → Took (m + n) (first ++ second) old new
took_more m n first second old mid new h k =
    let both = micros-append first second old.bus in
    let later : micros_in (after_events old.bus first) second ≡ micros_in mid.bus second = ap (λ (bus : BusState). micros_in bus second) (sym h.bus) in
    record {
      bus = k.bus ∙ ap (λ (bus : BusState). after_events bus second) h.bus ∙ sym (after-append first second old.bus);
      time = omega (arith, both, later, h.time, k.time);
      pace = k.pace ∙ h.pace;
    }

took_none : (old new : ServerState) → new ≡ old → Took 0 [] old new
took_none old new same = let owed : new.time_due ≡ old.time_due = ap (λ (s : ServerState). s.time_due) same in record { bus = ap (λ (s : ServerState). s.bus) same; time = omega (arith, owed); pace = ap (λ (s : ServerState). s.pace) same }

-- what events change of it
record Went (events : List Event) (old new : ServerState) : Type 0 where
  bus : new.bus ≡ after_events old.bus events
  owed : new.time_due ≡ old.time_due
  pace : new.pace ≡ old.pace

went : (applied : List LoggedEvent) (old new : ServerState) → RunsEvents applied old new → Went (events_of applied) old new
went [] old new same = record { bus = ap (λ (s : ServerState). s.bus) same; owed = ap (λ (s : ServerState). s.time_due) same; pace = ap (λ (s : ServerState). s.pace) same }
went (one ∷ more) old new h =
    let rest = went more h.0 new h.2 in
    record { bus = rest.bus ∙ ap (λ (bus : BusState). after_events bus (events_of more)) h.1.bus; owed = rest.owed ∙ h.1.time_due; pace = rest.pace ∙ h.1.pace }

took_same : (m n : ℕ) (events : List Event) (old new : ServerState) → m ≡ n → Took m events old new → Took n events old new
took_same m n events old new same = subst (λ (k : ℕ). Took k events old new) same

took_cut : (m : ℕ) (first second : List LoggedEvent) (old new : ServerState) → Took m (events_of first ++ events_of second) old new → Took m (events_of (first ++ second)) old new
took_cut m first second old new = subst (λ (events : List Event). Took m events old new) (sym (map-append (λ (one : LoggedEvent). one.event) first second))

-- Events of clients take none.

one_alone : (event : Event) (events : List Event) (bus : BusState) → micros_of bus event ≡ 0 → IsWithReports event events → micros_in bus events ≡ 0
one_alone event [] bus takes are = absurd are
one_alone event (first ∷ rest) bus takes are =
    let one : micros_of bus first ≡ 0 = ap (λ (e : Event). micros_of bus e) are.0 ∙ takes in
    let others : micros_in (after_event bus first) rest ≡ 0 = reports_take_none rest (after_event bus first) are.1 in
    omega (arith, one, others)

brings_took : (event : Event) (applied : List LoggedEvent) (old new : ServerState) → micros_of old.bus event ≡ 0 → RunsEventWithReports event applied old new → Took 0 (events_of applied) old new
brings_took event applied old new takes h =
    let went = went applied old new h.2 in
    let none : micros_in old.bus (events_of applied) ≡ 0 = one_alone event (events_of applied) old.bus takes h.1 in
    record { bus = went.bus; time = omega (arith, none, went.owed); pace = went.pace }

nothing_took : (applied : List LoggedEvent) (old new : ServerState) → applied ≡ [] → new.bus ≡ old.bus → new.time_due ≡ old.time_due → new.pace ≡ old.pace → Took 0 (events_of applied) old new
nothing_took applied old new none bus owed pace = subst (λ (all : List LoggedEvent). Took 0 (events_of all) old new) (sym none) (record { bus = bus; time = omega (arith, owed); pace = pace })

same_took : (applied : List LoggedEvent) (old new : ServerState) → applied ≡ [] → new ≡ old → Took 0 (events_of applied) old new
same_took applied old new none same = nothing_took applied old new none (ap (λ (s : ServerState). s.bus) same) (ap (λ (s : ServerState). s.time_due) same) (ap (λ (s : ServerState). s.pace) same)

-- that there may be more input takes no time
took_behind : (read : ℕ) (events : List Event) (old new : ServerState) → Took read events (with_backlog old) new → Took read events old new
took_behind read events old new h = record { bus = h.bus; time = h.time; pace = h.pace }

took_polled : (read : ℕ) (events : List Event) (old new : ServerState) → Took read events (round_start old) new → Took read events old new
took_polled read events old new h = record { bus = h.bus; time = h.time; pace = h.pace }

act_took : (log : TransportEvent) (applied : List LoggedEvent) (old new : ServerState) → Applies log applied old new → Took 0 (events_of applied) old new
act_took (Accepted client) applied old new h = took_behind 0 (events_of applied) old new (brings_took (Connects client) applied (with_backlog old) new refl h.1)
act_took (Received client byte) applied old new h = took_behind 0 (events_of applied) old new (brings_took (Receives client byte) applied (with_backlog old) new refl h.1)
act_took (PeerClosed client) applied old new h = brings_took (Disconnects client) applied old new refl h
act_took (ServerClosed client) applied old new h = brings_took (Disconnects client) applied old new refl h.1
act_took (Written client bytes) applied old new h =
    nothing_took applied old new h.0 (ap (λ (s : ServerState). s.bus) h.3) (ap (λ (s : ServerState). s.time_due) h.3) (ap (λ (s : ServerState). s.pace) h.3)
act_took Refused applied old new h =
    nothing_took applied old new h.0 (ap (λ (s : ServerState). s.bus) h.2) (ap (λ (s : ServerState). s.time_due) h.2) (ap (λ (s : ServerState). s.pace) h.2)
act_took (Polled longest) applied old new h = absurd h
act_took (ReadBlocked client) applied old new h = same_took applied old new h.0 h.1
act_took (WriteBlocked client) applied old new h = same_took applied old new h.0 h.1
act_took NonePending applied old new h = same_took applied old new h.0 h.1

acts_took : (handled : List Handled) (old new : ServerState) → AppliesAll handled old new → Took 0 (events_of (flat_map (λ one_handled. one_handled.applied) handled)) old new
acts_took [] old new h = took_none old new h
acts_took (one_handled ∷ handled) old new h =
    took_cut 0 one_handled.applied (flat_map (λ one_handled. one_handled.applied) handled) old new
    (took_more 0 0 (events_of one_handled.applied) (events_of (flat_map (λ one_handled. one_handled.applied) handled)) old h.0 new (act_took one_handled.log one_handled.applied old h.0 h.1) (acts_took handled h.0 new h.2))

-- The clock.

read_once : (rate : ℕ) (readings : List ℕ) (micros : ℕ) → readings ≡ micros ∷ [] → track_time rate micros ≡ rate * time_read readings
read_once rate readings micros same = ap (λ (n : ℕ). rate * n) (sym (ap time_read same ∙ let n = min micros longest_step in omega arith))

due_read : (rate left : ℕ) (readings : List ℕ) (owed : ℕ) → IsTimeDue rate left readings owed → owed ≡ left + rate * time_read readings
due_read rate zero readings owed h = let read = h.2 ∙ read_once rate readings h.0 h.1 in omega (arith, read)
due_read rate (suc n) readings owed h =
    let none : rate * time_read readings ≡ 0 = ap (λ (all : List ℕ). rate * time_read all) h.0 ∙ mul-zero rate in
    omega (arith, none, h.1)

elapsed_took : (owed read : ℕ) (applied : List LoggedEvent) (old new : ServerState) → owed ≡ old.time_due + read → RunsTime owed applied old new → Took read (events_of applied) old new
elapsed_took owed read applied old new is h =
    let went = went applied (with_time_due owed old) h.2 (steps_run is_piece h.0 applied (with_time_due owed old) h.2 h.3) in
    let left : new.time_due ≡ owed - h.1 = ap (λ (s : ServerState). s.time_due) h.6 in
    let part : h.1 ≤ owed = h.5.0 in
    record {
      bus = ap (λ (s : ServerState). s.bus) h.6 ∙ went.bus;
      time = omega (arith, h.4, left, part, is);
      pace = ap (λ (s : ServerState). s.pace) h.6 ∙ went.pace;
    }

time_took : (rate : ℕ) (readings : List ℕ) (elapsing : List LoggedEvent) (old new : ServerState) → RunsTrack (RealTime rate) readings elapsing old new → Took (rate * time_read readings) (events_of elapsing) old new
time_took rate readings elapsing old new h = elapsed_took h.0 (rate * time_read readings) elapsing old new (due_read rate old.time_due readings h.0 h.1) h.2

read-append : (first second : List ℕ) → time_read (first ++ second) ≡ time_read first + time_read second
read-append [] second = omega arith
read-append (micros ∷ first) second = omega (arith, read-append first second)

rounds_took : (rate most : ℕ) (rounds : List Round) (old new : ServerState) → old.pace ≡ RealTime rate → RunsRounds most rounds old new → Took (rate * time_read (readings_of rounds)) (events_of (logged_in rounds)) old new
rounds_took rate most [] old new none h = took_same 0 (rate * 0) [] old new (sym (mul-zero rate)) (took_none old new h)
rounds_took rate most (round ∷ rounds) old new none h =
    let went = h.2 in
    let handled = flat_map (λ one_handled. one_handled.applied) round.handled in
    let first = rate * time_read round.readings in
    let second = rate * time_read (readings_of rounds) in
    let served = took_polled 0 (events_of handled) old went.1 (acts_took round.handled (round_start old) went.1 (round_serves round.handled (round_start old) went.1 went.2)) in
    let on_track = subst (λ (pace : Pace). RunsTrack pace round.readings round.elapsing went.1 h.1) (served.pace ∙ none) went.3 in
    let elapsed = time_took rate round.readings round.elapsing went.1 h.1 on_track in
    let one = took_same (0 + first) first (events_of handled ++ events_of round.elapsing) old h.1 (omega arith) (took_more 0 first (events_of handled) (events_of round.elapsing) old went.1 h.1 served elapsed) in
    let rest = rounds_took rate most rounds h.1 new (one.pace ∙ none) h.3 in
    let both : first + second ≡ rate * time_read (readings_of (round ∷ rounds)) =
    sym (ap (λ (n : ℕ). rate * n) (read-append round.readings (readings_of rounds)) ∙ mul-add rate (time_read round.readings) (time_read (readings_of rounds))) in
    took_same (first + second) (rate * time_read (readings_of (round ∷ rounds))) (events_of (logged_in (round ∷ rounds))) old new both
    (took_cut (first + second) (handled ++ round.elapsing) (logged_in rounds) old new
    (took_more first second (events_of (handled ++ round.elapsing)) (events_of (logged_in rounds)) old h.1 new
    (took_cut first handled round.elapsing old h.1 one) rest))

pub time_is_read : (rate most : ℕ) (rounds : List Round) (old new : ServerState) → old.pace ≡ RealTime rate → RunsRounds most rounds old new
    → micros_in old.bus (events_of (logged_in rounds)) + new.time_due ≡ old.time_due + rate * time_read (readings_of rounds)
time_is_read rate most rounds old new none h = (rounds_took rate most rounds old new none h).time
