-- What a client knows by messages stays known in a run if it does in each event.
use Rattle.std.proofs.Common.{◌≡◌, ℕ, Bool, true, List, [], ◌∷◌, ◌++◌, refl, ap, sym, subst, ◌∙◌}
use Rattle.std.specs.List.{flat_map, list_all}
use Rattle.std.proofs.lemmas.Bool.{and_parts}
use Rattle.std.proofs.lemmas.List.Concat.{flat_map-append}
use Rattle.std.proofs.lemmas.List.Folds.{list_all-append}
use Rattle.bus.specs.declared.event.Event.{Event}
use Rattle.bus_server.specs.Observations.{Observation}
use Rattle.bus_server.specs.ServerState.{Applies, AppliesAll, Handled, LoggedEvent, RunsEvent, RunsEvents, ServerState, with_backlog, round_start}
use Rattle.bus_server.specs.Known.{messages_of, received_in}
use Rattle.bus_server.specs.declared.pace.Pace.{Pace}
use Rattle.bus_server.specs.Running.{Round, RunsRounds, logged_in}
use Rattle.bus_server.specs.TransportEvents.{Accepted, NonePending, PeerClosed, Polled, ReadBlocked, Received, Refused, ServerClosed, TransportEvent, WriteBlocked, Written}
use Rattle.bus_server.specs.Track.{RunsTrack}
use Rattle.bus_server.proofs.Rounding.{round_serves}
use Rattle.bus_server.proofs.Tracking.{track_ran, with_due}

-- What is known depends on the railway and on what is due, and goes on from message to message.
module _ (IsSo : Bool → ServerState → Type 0) (knows : List (List ℕ) → Bool → Bool) (is_quiet : Observation → Bool)
    (carried : (level : Bool) (old new : ServerState) → new.railway ≡ old.railway → new.unreported ≡ old.unreported → IsSo level old → IsSo level new)
    (knows-none : (level : Bool) → knows [] level ≡ level)
    (knows-append : (first second : List (List ℕ)) (level : Bool) → knows (first ++ second) level ≡ knows second (knows first level))
    (event_known : (level : Bool) (event : Event) (observed : Observation) (old new : ServerState) → RunsEvent event observed old new → is_quiet observed ≡ true → IsSo level old → IsSo (knows (messages_of observed ++ []) level) new) where
  abbrev AreQuiet : List LoggedEvent → Type 0
  AreQuiet applied = list_all (λ one. is_quiet one.observed) applied ≡ true

  abbrev known_after : List LoggedEvent → Bool → Bool
  known_after applied level = knows (received_in applied) level

  after-append : (first second : List LoggedEvent) (level : Bool) → known_after (first ++ second) level ≡ known_after second (known_after first level)
  after-append first second level =
      ap (λ (messages : List (List ℕ)). knows messages level) (flat_map-append (λ (one : LoggedEvent). messages_of one.observed) first second)
      ∙ knows-append (received_in first) (received_in second) level

  quiet_parts : (first second : List LoggedEvent) → AreQuiet (first ++ second) → AreQuiet first × AreQuiet second
  quiet_parts first second h = and_parts (list_all (λ one. is_quiet one.observed) first) (list_all (λ one. is_quiet one.observed) second) (sym (list_all-append (λ (one : LoggedEvent). is_quiet one.observed) first second) ∙ h)

  unchanged : (level : Bool) (new : ServerState) → IsSo level new → IsSo (knows [] level) new
  unchanged level new h = subst (λ (l : Bool). IsSo l new) (sym (knows-none level)) h

  happened_known : (applied : List LoggedEvent) (level : Bool) (old new : ServerState) → RunsEvents applied old new → AreQuiet applied → IsSo level old → IsSo (known_after applied level) new
  happened_known [] level old new same quiet h = unchanged level new (subst (λ (s : ServerState). IsSo level s) (sym same) h)
  happened_known (one ∷ more) level old new runs quiet h =
      let p = and_parts (is_quiet one.observed) (list_all (λ one. is_quiet one.observed) more) quiet in
      let first = event_known level one.event one.observed old runs.0 runs.1 p.0 h in
      subst (λ (l : Bool). IsSo l new) (sym (after-append (one ∷ []) more level))
      (happened_known more (knows (messages_of one.observed ++ []) level) runs.0 new runs.2 p.1 first)

  none_known : (applied : List LoggedEvent) (level : Bool) (new : ServerState) → applied ≡ [] → IsSo level new → IsSo (known_after applied level) new
  none_known applied level new none h = subst (λ (all : List LoggedEvent). IsSo (known_after all level) new) (sym none) (unchanged level new h)

  as_before : (applied : List LoggedEvent) (level : Bool) (old new : ServerState) → applied ≡ [] → new ≡ old → IsSo level old → IsSo (known_after applied level) new
  as_before applied level old new none same h = none_known applied level new none (subst (λ (s : ServerState). IsSo level s) (sym same) h)

  act_known : (log : TransportEvent) (applied : List LoggedEvent) (level : Bool) (old new : ServerState) → Applies log applied old new → AreQuiet applied → IsSo level old → IsSo (known_after applied level) new
  act_known (Accepted client) applied level old new does quiet h = happened_known applied level (with_backlog old) new does.1.2 quiet (carried level old (with_backlog old) refl refl h)
  act_known (Received client byte) applied level old new does quiet h = happened_known applied level (with_backlog old) new does.1.2 quiet (carried level old (with_backlog old) refl refl h)
  act_known (PeerClosed client) applied level old new does quiet h = happened_known applied level old new does.2 quiet h
  act_known (ServerClosed client) applied level old new does quiet h = happened_known applied level old new does.1.2 quiet h
  act_known (Written client bytes) applied level old new does quiet h =
      none_known applied level new does.0 (carried level old new (ap (λ (s : ServerState). s.railway) does.3) (ap (λ (s : ServerState). s.unreported) does.3) h)
  act_known Refused applied level old new does quiet h = as_before applied level (with_backlog old) new does.0 does.2 (carried level old (with_backlog old) refl refl h)
  act_known (Polled longest) applied level old new does quiet h = absurd does
  act_known (ReadBlocked client) applied level old new does quiet h = as_before applied level old new does.0 does.1 h
  act_known (WriteBlocked client) applied level old new does quiet h = as_before applied level old new does.0 does.1 h
  act_known NonePending applied level old new does quiet h = as_before applied level old new does.0 does.1 h

  abbrev applied_in : List Handled → List LoggedEvent
  applied_in handled = flat_map (λ one_handled. one_handled.applied) handled

  acts_known : (handled : List Handled) (level : Bool) (old new : ServerState) → AppliesAll handled old new → AreQuiet (applied_in handled) → IsSo level old → IsSo (known_after (applied_in handled) level) new
  acts_known [] level old new same quiet h = unchanged level new (subst (λ (s : ServerState). IsSo level s) (sym same) h)
  acts_known (one_handled ∷ handled) level old new does quiet h =
      let p = quiet_parts one_handled.applied (applied_in handled) quiet in
      let first = act_known one_handled.log one_handled.applied level old does.0 does.1 p.0 h in
      subst (λ (l : Bool). IsSo l new) (sym (after-append one_handled.applied (applied_in handled) level))
      (acts_known handled (known_after one_handled.applied level) does.0 new does.2 p.1 first)

  time_known : (pace : Pace) (readings : List ℕ) (elapsing : List LoggedEvent) (level : Bool) (old new : ServerState) → RunsTrack pace readings elapsing old new → AreQuiet elapsing → IsSo level old → IsSo (known_after elapsing level) new
  time_known pace readings elapsing level old new runs quiet h =
      let ran = track_ran pace readings elapsing old new runs in
      let then_due = with_due new.turns_due new.time_due new.has_backlog ran.0 in
      let went : IsSo (known_after elapsing level) then_due = carried (known_after elapsing level) ran.0 then_due refl refl (happened_known elapsing level old ran.0 ran.1 quiet h) in
      subst (λ (s : ServerState). IsSo (known_after elapsing level) s) (sym ran.2) went

  pub rounds_known : (most : ℕ) (rounds : List Round) (level : Bool) (old new : ServerState) → RunsRounds most rounds old new → AreQuiet (logged_in rounds) → IsSo level old → IsSo (known_after (logged_in rounds) level) new
  rounds_known most [] level old new same quiet h = unchanged level new (subst (λ (s : ServerState). IsSo level s) (sym same) h)
  rounds_known most (round ∷ rounds) level old new runs quiet h =
      let went = runs.2 in
      let handled = applied_in round.handled in
      let both = quiet_parts (handled ++ round.elapsing) (logged_in rounds) quiet in
      let one = quiet_parts handled round.elapsing both.0 in
      let served = acts_known round.handled level (round_start old) went.1 (round_serves round.handled (round_start old) went.1 went.2) one.0 (carried level old (round_start old) refl refl h) in
      let timed = time_known went.1.pace round.readings round.elapsing (known_after handled level) went.1 runs.1 went.3 one.1 served in
      let rest = rounds_known most rounds (known_after round.elapsing (known_after handled level)) runs.1 new runs.3 both.1 timed in
      subst (λ (l : Bool). IsSo l new)
      (sym (after-append (handled ++ round.elapsing) (logged_in rounds) level ∙ ap (λ (l : Bool). known_after (logged_in rounds) l) (after-append handled round.elapsing level))) rest
