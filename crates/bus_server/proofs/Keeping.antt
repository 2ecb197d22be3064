-- What a round has done stays done while no client is read.
use Rattle.std.proofs.Common.{◌≡◌, ◌≢◌, ℕ, zero, suc, ◌+◌, ◌<◌, ◌⊎◌, inl, inr, Bool, true, false, List, [], ◌∷◌, ◌++◌, length, Option, Some, None, refl, ap, ap₂, sym, subst, ◌∙◌, arith, append_assoc, append-nil, ne_eqb, eq-eqb, if◌then◌else◌, nat_le}
use Rattle.std.specs.Prelude.{◌==◌, ◌&&◌, ◌||◌, slice_set, is_some, not, replicate}
use Rattle.std.specs.List.{list_all, list_any, slice_index_or}
use Rattle.std.proofs.lemmas.Bool.{and_parts, and_from, cases_eq}
use Rattle.std.proofs.lemmas.List.{get_or-set_same, get_or-set_other}
use Rattle.std.proofs.lemmas.List.Folds.{list_any-append}
use Rattle.bus.specs.declared.event.Event.{Event}
use Rattle.bus.specs.declared.event.Event.TheVariants.{Connects, Receives, Disconnects, Reports, Programs, Elapses, Turn}
use Rattle.bus.specs.declared.outcome.Outcome.{Outcome}
use Rattle.bus.specs.declared.outcome.Outcome.TheVariants.{Connected}
use Rattle.bus_server.specs.Observations.{Observation}
use Rattle.bus.specs.Bus.{BusState}
use Rattle.bus.specs.Outcome.{text_for}
use Rattle.loconet_tcp.specs.ClientLines.{version_text}
use Rattle.bus_server.specs.Rounds.{HasMoreClients, IsWrittenTo, PreservesRound, HasEmptyQueue, IsUnread, WritesInARow, backlog_after, is_reading, is_write_blocked}
use Rattle.bus_server.specs.ServerState.{Handled, RunsEventWithReports, Applies, LoggedEvent, RunsEvent, RunsEvents, IsWithReports, AppliesAll, ServerState, events_of, is_connected, has_overflowed, transport_events, observations_in, with_backlog}
use Rattle.bus_server.specs.Sensors.{is_report}
use Rattle.bus_server.specs.SendQueue.{is_within_capacity, enqueued, queued}
use Rattle.bus_server.specs.SendQueues.{SendQueues, enqueued_all, enqueued_from}
use Rattle.bus_server.specs.TransportEvents.{Accepted, TransportEvent, Written, Refused}

-- What was done is done of a longer list.

or_left : (a b : Bool) → a ≡ true → (a || b) ≡ true
or_left true b h = refl
or_left false b h = cc

or_right : (a b : Bool) → b ≡ true → (a || b) ≡ true
or_right true b h = refl
or_right false b h = h

pub any_before : (p : TransportEvent → Bool) (before more : List TransportEvent) → list_any p before ≡ true → list_any p (before ++ more) ≡ true
any_before p before more h = list_any-append p before more ∙ or_left (list_any p before) (list_any p more) h

pub any_behind : (p : TransportEvent → Bool) (before more : List TransportEvent) → list_any p more ≡ true → list_any p (before ++ more) ≡ true
any_behind p before more h = list_any-append p before more ∙ or_right (list_any p before) (list_any p more) h

pub row_behind : (client count : ℕ) (before more : List TransportEvent) → WritesInARow client count more → WritesInARow client count (before ++ more)
row_behind client count before more h =
    (before ++ h.0, h.1, h.2, ap (λ (all : List TransportEvent). before ++ all) h.3 ∙ sym (append_assoc before h.0 (h.1 ++ h.2)), h.4, h.5)

pub row_before : (client count : ℕ) (more after : List TransportEvent) → WritesInARow client count more → WritesInARow client count (more ++ after)
row_before client count more after h = (
  h.0,
  h.1,
  h.2 ++ after,
  ap (λ (all : List TransportEvent). all ++ after) h.3 ∙ append_assoc h.0 (h.1 ++ h.2) after ∙ ap (λ (all : List TransportEvent). h.0 ++ all) (append_assoc h.1 h.2 after),
  h.4,
  h.5,
)

pub written_behind : (client : ℕ) (before more : List TransportEvent) (all : ServerState) → IsWrittenTo client more all → IsWrittenTo client (before ++ more) all
written_behind client before more all done = elim done [
  | inl nothing ↦ inl nothing
  | inr (inl later) ↦ inr (inl (any_behind (is_write_blocked client) before more later))
  | inr (inr four) ↦ inr (inr (row_behind client 4 before more four))
]

-- What keeps what was done.

pub none_of_both : (a b : Bool) → a ≡ false → b ≡ false → (a || b) ≡ false
none_of_both true b h k = cc
none_of_both false b h k = k

pub keeps_more : (first second : List TransportEvent) (old mid new : ServerState) → PreservesRound first old mid → PreservesRound second mid new → PreservesRound (first ++ second) old new
keeps_more first second old mid new h k = record {
  written = λ client before done.
      subst (λ (all : List TransportEvent). IsWrittenTo client all new) (append_assoc before first second)
      (k.written client (before ++ first) (h.written client before done));
  on_time = λ client overflowed. k.on_time client (h.on_time client overflowed);
  unread = list_any-append is_reading first second ∙ none_of_both (list_any is_reading first) (list_any is_reading second) h.unread k.unread;
}

keeps_where : (more : List TransportEvent) (old new : ServerState)
    → IsUnread more
    → ((client : ℕ) → HasEmptyQueue client old → (list_any (is_write_blocked client) more ≡ true) ⊎ HasEmptyQueue client new)
    → ((client : ℕ) → has_overflowed old client ≡ false → has_overflowed new client ≡ false)
    → PreservesRound more old new
keeps_where more old new unread nothing on_time = record {
  unread = unread;
  written = λ client before done. elim done [
    | inl none ↦ elim (nothing client none) [
      | inl later ↦ inr (inl (any_behind (is_write_blocked client) before more later))
      | inr still ↦ inl still
    ]
    | inr (inl later) ↦ inr (inl (any_before (is_write_blocked client) before more later))
    | inr (inr four) ↦ inr (inr (row_before client 4 before more four))
  ];
  on_time = on_time;
}

pub keeps_same : (more : List TransportEvent) (all : ServerState) → IsUnread more → PreservesRound more all all
keeps_same more all unread = keeps_where more all all unread (λ client none. inr none) (λ client overflowed. overflowed)

-- A piece is written.

nothing_left : (bytes rest : List ℕ) → bytes ++ rest ≡ [] → rest ≡ []
nothing_left [] rest h = h
nothing_left (b ∷ bytes) rest h = cc

late_unless : (a b : Bool) → b ≡ true → (a && not b) ≡ false
late_unless true b h = rw h refl
late_unless false b h = refl

pub set_at : (queues : SendQueues) (i : ℕ) (before after : List ℕ) → slice_index_or queues i None ≡ Some before → slice_index_or (slice_set queues i (Some after)) i None ≡ Some after
set_at [] i before after h = cc
set_at (p ∷ queues) zero before after h = refl
set_at (p ∷ queues) (suc i) before after h = set_at queues i before after h

pub put_keeps : (client : ℕ) (bytes : List ℕ) (more : List TransportEvent) (old new : ServerState) → IsUnread more → Applies (Written client bytes) [] old new → PreservesRound more old new
put_keeps client bytes more old new unread does =
    let rest = does.1 in
    let set : new ≡ record old { queues = slice_set old.queues client (Some rest) } = does.3 in
    let now : slice_index_or (slice_set old.queues client (Some rest)) client None ≡ Some rest = set_at old.queues client (bytes ++ rest) rest does.2 in
    let changed : ServerState = record old { queues = slice_set old.queues client (Some rest) } in
    let kept : PreservesRound more old changed = keeps_where more old changed unread
    (λ other none. elim (cases_eq other client) [
      | inl same ↦ inr (subst (λ (i : ℕ). HasEmptyQueue i changed) (sym same)
          (ap queued now ∙ nothing_left bytes rest (ap queued (sym does.2) ∙ subst (λ (i : ℕ). HasEmptyQueue i old) same none)))
      | inr differs ↦ inr (ap queued (get_or-set_other old.queues client other (Some rest) None differs) ∙ none)
    ])
    (λ other overflowed. elim (cases_eq other client) [
      | inl same ↦ subst (λ (i : ℕ). has_overflowed changed i ≡ false) (sym same) (late_unless (is_connected changed client) (is_some (slice_index_or changed.queues client None)) (ap is_some now))
      | inr differs ↦ ap (λ (w : Option (List ℕ)). is_connected old other && not (is_some w)) (get_or-set_other old.queues client other (Some rest) None differs) ∙ overflowed
    ]) in
    subst (λ (all : ServerState). PreservesRound more old all) (sym set) kept

-- A client leaves.

pub none_set : {A : Type 0} (all : List (Option A)) (i : ℕ) → slice_index_or (slice_set all i None) i None ≡ None
none_set [] i = refl
none_set (x ∷ all) zero = refl
none_set (x ∷ all) (suc i) = none_set all i

pub left_keeps : (client : ℕ) (observed : Observation) (more : List TransportEvent) (old new : ServerState) → IsUnread more → RunsEvent (Disconnects client) observed old new → PreservesRound more old new
left_keeps client observed more old new unread happened =
    keeps_where more old new unread
    (λ other none. inr (ap (λ (queues : SendQueues). queued (slice_index_or queues other None)) happened.queues ∙ elim (cases_eq other client) [
      | inl same ↦ ap queued (subst (λ (i : ℕ). slice_index_or (slice_set old.queues client None) i None ≡ None) (sym same) (none_set old.queues client))
      | inr differs ↦ ap queued (get_or-set_other old.queues client other None None differs) ∙ none
    ]))
    (λ other overflowed. ap₂ (λ (bus : BusState) (queues : SendQueues). is_some (slice_index_or bus.clients other None) && not (is_some (slice_index_or queues other None))) happened.bus happened.queues ∙ elim (cases_eq other client) [
      | inl same ↦
          ap (λ (w : Option (List ℕ)). is_some w && not (is_some (slice_index_or (slice_set old.queues client None) other None)))
          (subst (λ (i : ℕ). slice_index_or (slice_set old.bus.clients client None) i None ≡ None) (sym same) (none_set old.bus.clients client))
      | inr differs ↦
          ap₂ (λ (w v : Option (List ℕ)). is_some w && not (is_some v)) (get_or-set_other old.bus.clients client other None None differs) (get_or-set_other old.queues client other None None differs) ∙ overflowed
    ])

pub left_waits : (client : ℕ) (observed : Observation) (old new : ServerState) → RunsEvent (Disconnects client) observed old new → HasEmptyQueue client new
left_waits client observed old new happened = ap (λ (queues : SendQueues). queued (slice_index_or queues client None)) happened.queues ∙ ap queued (none_set old.queues client)

pub left_is_not_late : (client : ℕ) (observed : Observation) (old new : ServerState) → RunsEvent (Disconnects client) observed old new → has_overflowed new client ≡ false
left_is_not_late client observed old new happened =
    ap (λ (bus : BusState). is_some (slice_index_or bus.clients client None) && not (is_some (slice_index_or new.queues client None))) happened.bus
    ∙ ap (λ (w : Option (List ℕ)). is_some w && not (is_some (slice_index_or new.queues client None))) (none_set old.bus.clients client)

-- After an event that makes no device report, none reports.

no_cons : {A B : Type 0} (x : A) (xs : List A) → [] ≡ x ∷ xs → B
no_cons x xs h = cc

nothing_due : (event : Event) (observed : Observation) (old new : ServerState) → is_report event ≡ true → old.unreported ≡ [] → RunsEvent event observed old new → ⊥
nothing_due (Connects client) observed old new reports none h = cc
nothing_due (Receives client byte) observed old new reports none h = cc
nothing_due (Disconnects client) observed old new reports none h = cc
nothing_due (Elapses micros missed) observed old new reports none h = cc
nothing_due (Turn missed) observed old new reports none h = cc
nothing_due (Reports message) observed old new reports none h = no_cons h.unreported.0 new.unreported (sym none ∙ h.unreported.1)
nothing_due (Programs packet change) observed old new reports none h = no_cons h.unreported.0 new.unreported (sym none ∙ h.unreported.1)

-- the event makes no device report
abbrev pub IsSilent : Event → ServerState → Type 0
IsSilent event old = (observed : Observation) (new : ServerState) → RunsEvent event observed old new → new.unreported ≡ []

first_alone : (event : Event) (one : LoggedEvent) (behind : List LoggedEvent) (old new : ServerState) → one.event ≡ event → IsSilent event old → list_all is_report (events_of behind) ≡ true → RunsEvents (one ∷ behind) old new
    → RunsEvent event one.observed old new
first_alone event one [] old new same silent are h = subst (λ (e : Event). RunsEvent e one.observed old new) same (subst (λ (s : ServerState). RunsEvent one.event one.observed old s) (sym h.2) h.1)
first_alone event one (other ∷ behind) old new same silent are h =
    absurd (nothing_due other.event other.observed h.0 h.2.0 (and_parts (is_report other.event) (list_all is_report (events_of behind)) are).0
    (silent one.observed h.0 (subst (λ (e : Event). RunsEvent e one.observed old h.0) same h.1)) h.2.1)

pub alone : (event : Event) (applied : List LoggedEvent) (old new : ServerState) → IsSilent event old → IsWithReports event (events_of applied) → RunsEvents applied old new
    → (observed : Observation) × RunsEvent event observed old new
alone event [] old new silent are h = absurd are
alone event (one ∷ behind) old new silent are h = (one.observed, first_alone event one behind old new are.0 silent are.1 h)

pub only_leaves : (client : ℕ) (applied : List LoggedEvent) (old new : ServerState) → RunsEventWithReports (Disconnects client) applied old new → (observed : Observation) × RunsEvent (Disconnects client) observed old new
only_leaves client applied old new brings = alone (Disconnects client) applied old new (λ observed after h. h.unreported.1) brings.1 brings.2

pub only_joins : (client : ℕ) (applied : List LoggedEvent) (old new : ServerState) → RunsEventWithReports (Connects client) applied old new → (observed : Observation) × RunsEvent (Connects client) observed old new
only_joins client applied old new brings = alone (Connects client) applied old new (λ observed after h. h.unreported.1) brings.1 brings.2

-- A client joins.

enqueued_at : (text : ℕ → List ℕ) (place : ℕ) (queues : SendQueues) (i : ℕ) → slice_index_or (enqueued_from place text queues) i None ≡ enqueued (text (place + i)) (slice_index_or queues i None)
enqueued_at text place [] i = refl
enqueued_at text place (send_queue ∷ queues) zero = ap (λ (n : ℕ). enqueued (text n) send_queue) {x = place} {y = place + 0} (omega arith)
enqueued_at text place (send_queue ∷ queues) (suc i) =
    enqueued_at text (place + 1) queues i ∙ ap (λ (n : ℕ). enqueued (text n) (slice_index_or queues i None)) {x = place + 1 + i} {y = place + suc i} (omega arith)

pub enqueued_there : (text : ℕ → List ℕ) (queues : SendQueues) (i : ℕ) → slice_index_or (enqueued_from 0 text queues) i None ≡ enqueued (text i) (slice_index_or queues i None)
enqueued_there text queues i = enqueued_at text 0 queues i ∙ ap (λ (n : ℕ). enqueued (text n) (slice_index_or queues i None)) {x = 0 + i} {y = i} (omega arith)

pub told_there : (outcome : Outcome) (queues : SendQueues) (i : ℕ) → slice_index_or (enqueued_all outcome queues) i None ≡ enqueued (text_for i outcome) (slice_index_or queues i None)
told_there outcome queues i = enqueued_there (λ client. text_for client outcome) queues i

-- without text for it, a client is as it was
nothing_told : (send_queue : Option (List ℕ)) → is_within_capacity send_queue ≡ true → enqueued [] send_queue ≡ send_queue
nothing_told None within_capacity = refl
nothing_told (Some bytes) within_capacity =
    let same : length bytes + 0 ≡ length bytes = omega arith in
    ap (λ (n : ℕ). if nat_le n 65536 then Some (bytes ++ []) else None) same ∙ ap (λ (b : Bool). if b then Some (bytes ++ []) else None) within_capacity ∙ ap Some (append-nil bytes)

pub room_at : (queues : SendQueues) (i : ℕ) → list_all is_within_capacity queues ≡ true → is_within_capacity (slice_index_or queues i None) ≡ true
room_at [] i all = refl
room_at (send_queue ∷ queues) zero all = (and_parts (is_within_capacity send_queue) (list_all is_within_capacity queues) all).0
room_at (send_queue ∷ queues) (suc i) all = room_at queues i (and_parts (is_within_capacity send_queue) (list_all is_within_capacity queues) all).1

joined_other : (queues : SendQueues) (client other : ℕ) → list_all is_within_capacity queues ≡ true → other ≢ client
    → slice_index_or (enqueued_all (Connected client) (slice_set queues client (Some []))) other None ≡ slice_index_or queues other None
joined_other queues client other within_capacity differs =
    let send_queue = slice_index_or queues other None in
    let text : text_for other (Connected client) ≡ [] = ap (λ (b : Bool). if b then version_text else []) (ne_eqb client other (λ same. differs (sym same))) in
    told_there (Connected client) (slice_set queues client (Some [])) other
    ∙ ap₂ enqueued text (get_or-set_other queues client other (Some []) None differs)
    ∙ nothing_told send_queue (room_at queues other within_capacity)

pub joined_one : (queues : SendQueues) (client : ℕ) → client < length queues
    → slice_index_or (enqueued_all (Connected client) (slice_set queues client (Some []))) client None ≡ Some version_text
joined_one queues client within =
    let text : text_for client (Connected client) ≡ version_text = ap (λ (b : Bool). if b then version_text else []) (eq-eqb client client refl) in
    told_there (Connected client) (slice_set queues client (Some [])) client
    ∙ ap₂ enqueued text (get_or-set_same queues client (Some []) None within)

joins_now : (client : ℕ) → list_any (is_write_blocked client) (Accepted client ∷ []) ≡ true
joins_now client = or_left (client == client) false (eq-eqb client client refl)

pub joined_keeps : (client : ℕ) (observed : Observation) (old new : ServerState) → client < length old.queues → list_all is_within_capacity old.queues ≡ true
    → RunsEvent (Connects client) observed old new → PreservesRound (Accepted client ∷ []) old new
joined_keeps client observed old new within within_capacity happened =
    keeps_where (Accepted client ∷ []) old new refl
    (λ other none. elim (cases_eq other client) [
      | inl same ↦ inl (subst (λ (i : ℕ). list_any (is_write_blocked i) (Accepted client ∷ []) ≡ true) (sym same) (joins_now client))
      | inr differs ↦ inr (ap (λ (queues : SendQueues). queued (slice_index_or queues other None)) happened.queues ∙ ap queued (joined_other old.queues client other within_capacity differs) ∙ none)
    ])
    (λ other overflowed. elim (cases_eq other client) [
      | inl same ↦ subst (λ (i : ℕ). has_overflowed new i ≡ false) (sym same)
          (late_unless (is_connected new client) (is_some (slice_index_or new.queues client None))
          (ap (λ (queues : SendQueues). is_some (slice_index_or queues client None)) happened.queues ∙ ap is_some (joined_one old.queues client within)))
      | inr differs ↦
          ap₂ (λ (bus : BusState) (queues : SendQueues). is_some (slice_index_or bus.clients other None) && not (is_some (slice_index_or queues other None))) happened.bus happened.queues
          ∙ ap₂ (λ (w v : Option (List ℕ)). is_some w && not (is_some v)) (get_or-set_other old.bus.clients client other (Some []) None differs) (joined_other old.queues client other within_capacity differs)
          ∙ overflowed
    ])

pub joined_places : (client : ℕ) (observed : Observation) (old new : ServerState) → client < length old.bus.clients → RunsEvent (Connects client) observed old new → HasMoreClients client old new
joined_places client observed old new within happened =
    let now : is_connected new client ≡ true =
    ap (λ (bus : BusState). is_some (slice_index_or bus.clients client None)) happened.bus ∙ ap is_some (get_or-set_same old.bus.clients client (Some []) None within) in
    record {
      takes = now;
      turns = happened.turns_due;
      keeps = λ other placed. elim (cases_eq other client) [
        | inl same ↦ subst (λ (i : ℕ). is_connected new i ≡ true) (sym same) now
        | inr differs ↦
            ap (λ (bus : BusState). is_some (slice_index_or bus.clients other None)) happened.bus
            ∙ ap is_some (get_or-set_other old.bus.clients client other (Some []) None differs) ∙ placed
      ];
    }

-- The clients that are read, and those that are rejected.

pub heard_now : (client : ℕ) → ((client == client) || false) ≡ true
heard_now client = or_left (client == client) false (eq-eqb client client refl)

pub is_of : (client : ℕ) → (client == client) ≡ true
is_of client = eq-eqb client client refl

pub read_now : (client : ℕ) → ((client == client) && true) ≡ true
read_now client = and_from (client == client) true (eq-eqb client client refl) refl

-- that there may be more input undoes nothing
pub keeps_backlog : (more : List TransportEvent) (old new : ServerState) → PreservesRound more (with_backlog old) new → PreservesRound more old new
keeps_backlog more old new h = record { written = h.written; on_time = h.on_time; unread = h.unread }

pub more_backlog : (client : ℕ) (old new : ServerState) → HasMoreClients client (with_backlog old) new → HasMoreClients client old new
more_backlog client old new h = record { takes = h.takes; keeps = h.keeps; turns = h.turns }

still_backlog : (count : ℕ) (all : ServerState) → backlog_after count (with_backlog all) ≡ with_backlog all
still_backlog zero all = refl
still_backlog (suc count) all = refl

pub keeps_refused : (count : ℕ) (more : List TransportEvent) (all : ServerState) → IsUnread more → PreservesRound more all (backlog_after count all)
keeps_refused zero more all unread = keeps_same more all unread
keeps_refused (suc count) more all unread = keeps_where more all (with_backlog all) unread (λ client none. inr none) (λ client overflowed. overflowed)

-- one that is turned away
abbrev pub one_refused : Handled
one_refused = record { log = Refused; applied = [] }

pub turned_away_all : (count : ℕ) (all : ServerState) → ((client : ℕ) → client < 8 → is_connected all client ≡ true) → AppliesAll (replicate count one_refused) all (backlog_after count all)
turned_away_all zero all taken = refl
turned_away_all (suc count) all taken =
    (with_backlog all, (refl, taken, refl), subst (λ (s : ServerState). AppliesAll (replicate count one_refused) (with_backlog all) s) (still_backlog count all) (turned_away_all count (with_backlog all) taken))

pub turned_passed : (count : ℕ) → transport_events (replicate count one_refused) ≡ replicate count Refused
turned_passed zero = refl
turned_passed (suc count) = ap (λ (all : List TransportEvent). Refused ∷ all) (turned_passed count)

pub turned_shown : (count : ℕ) → observations_in (replicate count one_refused) ≡ []
turned_shown zero = refl
turned_shown (suc count) = turned_shown count

one_turned : (count : ℕ) → replicate count Refused ++ Refused ∷ [] ≡ replicate (suc count) Refused
one_turned zero = refl
one_turned (suc count) = ap (λ (all : List TransportEvent). Refused ∷ all) (one_turned count)

pub one_turned_more : (count : ℕ) → replicate count Refused ++ Refused ∷ [] ≡ replicate (count + 1) Refused
one_turned_more count = one_turned count ∙ ap (λ (n : ℕ). replicate n Refused) {x = suc count} {y = count + 1} (omega arith)

-- Room for what waits.

pub room_set : (queues : SendQueues) (i : ℕ) (send_queue : Option (List ℕ)) → list_all is_within_capacity queues ≡ true → is_within_capacity send_queue ≡ true → list_all is_within_capacity (slice_set queues i send_queue) ≡ true
room_set [] i send_queue all within_capacity = refl
room_set (p ∷ queues) zero send_queue all within_capacity = and_from (is_within_capacity send_queue) (list_all is_within_capacity queues) within_capacity (and_parts (is_within_capacity p) (list_all is_within_capacity queues) all).1
room_set (p ∷ queues) (suc i) send_queue all within_capacity =
    let parts = and_parts (is_within_capacity p) (list_all is_within_capacity queues) all in
    and_from (is_within_capacity p) (list_all is_within_capacity (slice_set queues i send_queue)) parts.0 (room_set queues i send_queue parts.1 within_capacity)
