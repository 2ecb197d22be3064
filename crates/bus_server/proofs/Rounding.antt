-- A round, client by client.
use Rattle.std.proofs.Common.{◌≡◌, ℕ, zero, suc, ◌+◌, ◌<◌, ◌≤◌, inl, inr, Bool, true, false, if◌then◌else◌, List, [], ◌∷◌, ◌++◌, length, map, take, Option, refl, ap, ap₂, sym, subst, ◌∙◌, arith, append_assoc, append-nil, eqb-true, ne_eqb, replicate}
use Rattle.std.specs.Prelude.{◌==◌, nat_lt}
use Rattle.std.specs.List.{list_all, list_any, slice_index_or}
use Rattle.std.proofs.lemmas.Bool.{and_from, and_parts, cases_eq, eqb-false}
use Rattle.std.proofs.lemmas.Bool.Decides.{nat_tests}
use Rattle.std.proofs.lemmas.List.{length-append}
use Rattle.std.proofs.lemmas.List.Folds.{list_all-append, list_any-append}
use Rattle.bus.specs.declared.event.Event.TheVariants.{Disconnects}
use Rattle.bus_server.specs.Observations.{Observation}
use Rattle.bus.specs.Log.{Extends}
use Rattle.bus_server.specs.Snapshots.{ProgressesWithoutInput, Snapshot, WritesFront}
use Rattle.bus_server.specs.Rounds.{Accepts, AcceptsFirst, AcceptsSome, AllWrittenTo, HasMoreClients, Reads, ReadsOn, ServesClient, ServesClients, IsReadOn, IsRound, IsUnread, IsWrittenTo, is_read, is_reading, PreservesRound, AcceptsPending, WritesInARow, backlog_after, refusals, is_accept, is_write, nth_client, pieces_to, IsFair, Writes, WritesNone}
use Rattle.bus_server.specs.ServerState.{Handled, RunsEventWithReports, Applies, LoggedEvent, AppliesAll, ServerState, is_connected, has_overflowed, transport_events, observations_in, observations_of}
use Rattle.bus_server.specs.declared.transport.IoOutcome.TheVariants.{WouldBlock}
use Rattle.bus_server.specs.TransportEvents.{Accepted, Polled, ReadBlocked, ServerClosed, WriteBlocked, PeerClosed, NonePending, TransportEvent, Received, Written, Refused}
use Rattle.bus_server.proofs.Going.{Claim, calm_then, goes_one, log-append, same_on_wire, serves_more, observed-append}
use Rattle.bus_server.proofs.Keeping.{heard_now, left_keeps, left_waits, only_leaves, put_keeps, keeps_refused, read_now, none_of_both, one_refused, turned_away_all, turned_passed, turned_shown, written_behind}

-- The client that is written to.

-- so many pieces were written to a client, and nothing else happened
abbrev pub HasPut : (client count : ℕ) → List TransportEvent → ServerState → Type 0
HasPut client count more all = (length more ≡ count) × (list_all (is_write client) more ≡ true)

-- one piece was written to a client, and nothing else happened
abbrev pub IsPiece : (client : ℕ) → List TransportEvent → ServerState → Type 0
IsPiece client more all = (bytes : List ℕ) × (more ≡ Written client bytes ∷ [])

-- The result of one write.

pub wrote_one : (client : ℕ) (bytes : List ℕ) (old new : Snapshot) → Extends old.log new.log (Written client bytes ∷ []) → Extends old.observed new.observed [] → Applies (Written client bytes) [] old.state new.state
    → ProgressesWithoutInput (IsPiece client) old new
wrote_one client bytes old new grows observed does =
    goes_one (λ more all. PreservesRound more old.state all × IsPiece client more all) (Written client bytes) [] old new grows observed does
    (put_keeps client bytes (Written client bytes ∷ []) old.state new.state refl does, (bytes, refl))

-- How many pieces.

pieces-append : (client : ℕ) (first second : List TransportEvent) → pieces_to client (first ++ second) ≡ pieces_to client first + pieces_to client second
pieces-append client [] second = omega arith
pieces-append client (log ∷ first) second = omega (arith, pieces-append client first second)

one_most : (b : Bool) → (if b then 1 else 0) ≤ 1
one_most true = omega arith
one_most false = omega arith

pieces_most : (client : ℕ) (more : List TransportEvent) → pieces_to client more ≤ length more
pieces_most client [] = omega arith
pieces_most client (log ∷ more) = omega (arith, one_most (is_write client log), pieces_most client more)

no_both : {P : Type 0} (a : Bool) → a ≡ true → a ≡ false → P
no_both true h k = cc
no_both false h k = cc

-- what is written to one is not to another
not_to_other : (client other : ℕ) (log : TransportEvent) → is_write client log ≡ true → (other == client) ≡ false → is_write other log ≡ false
not_to_other client other (Written i bytes) is differs = elim (cases_eq i other) [
  | inl same ↦ no_both (other == client) (subst (λ (n : ℕ). (n == client) ≡ true) same is) differs
  | inr apart ↦ ne_eqb i other apart
]
not_to_other client other (Polled longest) is differs = cc
not_to_other client other (Accepted i) is differs = cc
not_to_other client other (Received i byte) is differs = cc
not_to_other client other (PeerClosed i) is differs = cc
not_to_other client other (ServerClosed i) is differs = cc
not_to_other client other (ReadBlocked i) is differs = cc
not_to_other client other (WriteBlocked i) is differs = cc
not_to_other client other NonePending is differs = cc
not_to_other client other Refused is differs = cc

none_to_other : (client other : ℕ) (more : List TransportEvent) → list_all (is_write client) more ≡ true → (other == client) ≡ false → pieces_to other more ≡ 0
none_to_other client other [] are differs = refl
none_to_other client other (log ∷ more) are differs =
    let p = and_parts (is_write client log) (list_all (is_write client) more) are in
    let bit : Bool → ℕ = λ b. if b then 1 else 0 in
    let none : bit (is_write other log) ≡ 0 = ap bit (not_to_other client other log p.0 differs) in
    omega (arith, none, none_to_other client other more p.1 differs)

own_by : (own : Bool) (client other count : ℕ) (more : List TransportEvent) (all : ServerState) → (other == client) ≡ own → count ≤ 4 → HasPut client count more all → pieces_to other more ≤ (if own then 4 else 0)
own_by true client other count more all is four put = omega (arith, pieces_most other more, put.0, four)
own_by false client other count more all is four put = let none = none_to_other client other more put.1 is in omega (arith, none)

-- four pieces at most were written to a client, and then none
pub put_own : (client count : ℕ) (first second : List TransportEvent) (mid : ServerState) → count ≤ 4 → HasPut client count first mid → WritesNone second → (other : ℕ) → pieces_to other (first ++ second) ≤ (if other == client then 4 else 0)
put_own client count first second mid four put none other =
    let own = own_by (other == client) client other count first mid refl four put in
    omega (arith, pieces-append other first second, own, none other)

pub wrote_later : (client : ℕ) (old new : Snapshot) → WritesFront client WouldBlock old.log new.log old.state new.state → Extends old.observed new.observed []
    → ProgressesWithoutInput (λ more all. IsWrittenTo client more all × WritesNone more) old new
wrote_later client old new wrote observed = elim wrote.0 [
  | inl nothing ↦ same_on_wire (λ more all. IsWrittenTo client more all × WritesNone more) [] [] old new refl refl nothing.0 observed refl wrote.1 refl (inl nothing.1, λ other. refl)
  | inr full ↦
      same_on_wire (λ more all. IsWrittenTo client more all × WritesNone more) (record { log = WriteBlocked client; applied = [] } ∷ []) (WriteBlocked client ∷ []) old new refl refl full observed
      (old.state, (refl, refl), refl) wrote.1 refl (inr (inl (heard_now client)), λ other. refl)
]

pub wrote_to_none : (client : ℕ) (applied : List LoggedEvent) (old new : Snapshot) → Extends old.log new.log (PeerClosed client ∷ []) → Extends old.observed new.observed (observations_of applied)
    → RunsEventWithReports (Disconnects client) applied old.state new.state → ProgressesWithoutInput (λ more all. IsWrittenTo client more all × WritesNone more) old new
wrote_to_none client applied old new grows observed does =
    let remaining = only_leaves client applied old.state new.state does in
    goes_one (λ more all. PreservesRound more old.state all × (IsWrittenTo client more all × WritesNone more)) (PeerClosed client) applied old new grows observed does
    (left_keeps client remaining.0 (PeerClosed client ∷ []) old.state new.state refl remaining.1, (inl (left_waits client remaining.0 old.state new.state remaining.1), λ other. refl))

pub more_pieces : (client n : ℕ) (first second : List TransportEvent) (mid new : ServerState) → HasPut client n first mid → IsPiece client second new → HasPut client (n + 1) (first ++ second) new
more_pieces client n first second mid new h k =
    let one = Written client k.0 ∷ [] in
    let is_one : list_all (is_write client) one ≡ true = read_now client in
    let size : length second ≡ 1 = ap length k.1 in (
      omega (arith, length-append first second, size, h.0),
      ap (λ (all : List TransportEvent). list_all (is_write client) (first ++ all)) k.1 ∙ list_all-append (is_write client) first one
          ∙ and_from (list_all (is_write client) first) (list_all (is_write client) one) h.1 is_one,
    )

-- four pieces in a row were written
pub in_a_row : (client n : ℕ) (more : List TransportEvent) (new : ServerState) → 4 ≤ n → HasPut client n more new → WritesInARow client 4 more
in_a_row client n more new four h = ([], more, [], sym (append-nil more), omega (arith, four, h.0), h.1)

pub put_four : (client n : ℕ) (more : List TransportEvent) (new : ServerState) → n ≡ 4 → HasPut client n more new → Writes client more new
put_four client n more new four put = (
  inr (inr (in_a_row client n more new (omega (arith, four)) put)),
  λ other. let own = own_by (other == client) client other n more new refl (omega (arith, four)) put in own,
)

pub calm_weaker : (P Q : Claim) (old new : Snapshot) → ((more : List TransportEvent) → P more new.state → Q more new.state) → ProgressesWithoutInput P old new → ProgressesWithoutInput Q old new
calm_weaker P Q old new weaker goes = (goes.0, goes.1, goes.2, goes.3, (goes.4.0, weaker (transport_events goes.0) goes.4.1))

-- after some pieces, a write to the client
pub put_then : (client count : ℕ) (old mid new : Snapshot) → count ≤ 4 → ProgressesWithoutInput (HasPut client count) old mid → ProgressesWithoutInput (λ more all. IsWrittenTo client more all × WritesNone more) mid new
    → ProgressesWithoutInput (Writes client) old new
put_then client count old mid new four =
    calm_then (HasPut client count) (λ more all. IsWrittenTo client more all × WritesNone more) (Writes client) old mid new
    (λ these those kept before done. (written_behind client these those new.state done.0, put_own client count these those mid.state four before done.1))

-- All clients below one were written to, four pieces at most to each.

abbrev pub AllShared : (client : ℕ) → List TransportEvent → ServerState → Type 0
AllShared client more all = AllWrittenTo client more all × ((other : ℕ) → pieces_to other more ≤ (if nat_lt other client then 4 else 0))

-- and this one too
abbrev pub AllAndOne : (client : ℕ) → List TransportEvent → ServerState → Type 0
AllAndOne client more all = AllWrittenTo client more all × IsWrittenTo client more all × ((other : ℕ) → pieces_to other more ≤ (if nat_lt other (client + 1) then 4 else 0))

share_more : (below own too : Bool) (m n : ℕ) → (own ≡ true → (below ≡ false) × (too ≡ true)) → (own ≡ false → too ≡ below) → m ≤ (if below then 4 else 0) → n ≤ (if own then 4 else 0) → m + n ≤ (if too then 4 else 0)
share_more true true too m n is other h k = no_both true refl (is refl).0
share_more false true too m n is other h k = let now = (is refl).1 in rw now (omega (arith, h, k))
share_more true false too m n is other h k = let now = other refl in rw now (omega (arith, h, k))
share_more false false too m n is other h k = let now = other refl in rw now (omega (arith, h, k))

pub one_written : (client : ℕ) (first second : List TransportEvent) (mid new : ServerState) → PreservesRound second mid new → AllShared client first mid → Writes client second new → AllAndOne client (first ++ second) new
one_written client first second mid new kept all one = (
  λ other within. (kept.written other first (all.0 other within).0, kept.on_time other (all.0 other within).1),
  written_behind client first second new one.0,
  λ other.
      let shared = share_more (nat_lt other client) (other == client) (nat_lt other (client + 1)) (pieces_to other first) (pieces_to other second)
      (λ same. let is : other ≡ client = eqb-true other client same in (grind (arith, nat_tests, is), grind (arith, nat_tests, is)))
      (λ differs. let apart = eqb-false other client differs in grind (arith, nat_tests, apart))
      (all.1 other) (one.1 other) in
      subst (λ (n : ℕ). n ≤ (if nat_lt other (client + 1) then 4 else 0)) (sym (pieces-append other first second)) shared,
)

pub one_on_time : (client : ℕ) (first second : List TransportEvent) (mid new : ServerState) → PreservesRound second mid new → AllAndOne client first mid → (has_overflowed new client ≡ false) × WritesNone second → AllShared (client + 1) (first ++ second) new
one_on_time client first second mid new kept done overflowed = (
  λ other within. elim (cases_eq other client) [
    | inl same ↦ subst (λ (i : ℕ). IsWrittenTo i (first ++ second) new × (has_overflowed new i ≡ false)) (sym same) (kept.written client first done.1, overflowed.0)
    | inr differs ↦
        let before : other < client = omega (arith, within, differs) in
        (kept.written other first (done.0 other before).0, kept.on_time other (done.0 other before).1)
  ],
  λ other. let same : pieces_to other (first ++ second) ≡ pieces_to other first = omega (arith, pieces-append other first second, overflowed.1 other) in
      subst (λ (n : ℕ). n ≤ (if nat_lt other (client + 1) then 4 else 0)) (sym same) (done.2 other),
)

at_most_four : (b : Bool) (n : ℕ) → n ≤ (if b then 4 else 0) → n ≤ 4
at_most_four true n h = h
at_most_four false n h = omega (arith, h)

pub all_fair : (client : ℕ) (more : List TransportEvent) (all : ServerState) → AllShared client more all → IsFair more
all_fair client more all shared other = at_most_four (nat_lt other client) (pieces_to other more) (shared.1 other)

-- The turns of a round.

pub next_turn : (first count : ℕ) (before served : List Handled) (old mid new : ServerState) → ServesClients first count before old mid → ServesClient (nth_client first count) served mid new
    → ServesClients first (count + 1) (before ++ served) old new
next_turn first count before served old mid new had turn =
    subst (λ (n : ℕ). ServesClients first n (before ++ served) old new) {x = suc count} {y = count + 1} (omega arith) (before, served, mid, refl, had, turn)

-- a read of one byte
pub one_received : (client count : ℕ) (buf : List ℕ) (log log' : Option (List TransportEvent)) → (0 < count) × (count ≤ length buf) → length buf ≡ 1 → Extends log log' (map (λ byte. Received client byte) (take count buf))
    → Extends log log' (Received client (slice_index_or buf 0 0) ∷ [])
one_received client count [] log log' within one h = absurd (omega (arith, one))
one_received client count (byte ∷ b ∷ more) log log' within one h = absurd (omega (arith, one))
one_received client zero (byte ∷ []) log log' within one h = absurd (omega (arith, within.0))
one_received client (suc (suc n)) (byte ∷ []) log log' within one h = absurd (omega (arith, within.1))
one_received client (suc zero) (byte ∷ []) log log' within one h = h

pub reads_on_apply : (client : ℕ) (handled : List Handled) (old new : ServerState) → ReadsOn client handled old new → AppliesAll handled old new
reads_on_apply client [] old new same = same
reads_on_apply client (one ∷ handled) old new h = (h.0, h.2, reads_on_apply client handled h.0 new h.4)

pub reads_on_more : (client : ℕ) (handled : List Handled) (one : Handled) (old mid new : ServerState) → ReadsOn client handled old mid → is_read client one.log ≡ true → Applies one.log one.applied mid new → IsReadOn client mid new
    → ReadsOn client (handled ++ one ∷ []) old new
reads_on_more client [] one old mid new same is applies on =
    subst (λ (s : ServerState). ReadsOn client (one ∷ []) s new) same (new, is, applies, on, refl)
reads_on_more client (first ∷ handled) one old mid new h is applies on = (h.0, h.1, h.2, h.3, reads_on_more client handled one h.0 mid new h.4 is applies on)

pub reads_apply : (client : ℕ) (handled : List Handled) (old new : ServerState) → Reads client handled old new → AppliesAll handled old new
reads_apply client handled old new reads = elim reads [
  | inl waits ↦ subst (λ (all : List Handled). AppliesAll all old new) (sym waits.1) waits.2
  | inr (inl all) ↦ reads_on_apply client handled old new all.1
  | inr (inr ends) ↦
      subst (λ (all : List Handled). AppliesAll all old new) (sym ends.4)
      (serves_more ends.1 (ends.2 ∷ []) old ends.3 new (reads_on_apply client ends.1 old ends.3 ends.6) (new, ends.8, refl))
]

pub turn_serves : (client : ℕ) (handled : List Handled) (old new : ServerState) → ServesClient client handled old new → AppliesAll handled old new
turn_serves client handled old new turn =
    subst (λ (all : List Handled). AppliesAll all old new) (sym turn.3) (serves_more turn.0 turn.1 old turn.2 new (reads_apply client turn.0 old turn.2 turn.4) turn.5)

pub turns_serve : (first count : ℕ) (handled : List Handled) (old new : ServerState) → ServesClients first count handled old new → AppliesAll handled old new
turns_serve first zero handled old new h = subst (λ (all : List Handled). AppliesAll all old new) (sym h.0) h.1
turns_serve first (suc n) handled old new h =
    subst (λ (all : List Handled). AppliesAll all old new) (sym h.3)
    (serves_more h.0 h.1 old h.2 new (turns_serve first n h.0 old h.2 h.4) (turn_serves (nth_client first n) h.1 h.2 new h.5))

pub early_applies : (handled : List Handled) (old new : ServerState) → AcceptsFirst handled old new → AppliesAll handled old new
early_applies handled old new h = elim h [
  | inl none ↦ subst (λ (all : List Handled). AppliesAll all old new) (sym none.1) none.2
  | inr some ↦ some.2
]

pub early_unread : (handled : List Handled) (old new : ServerState) → AcceptsFirst handled old new → IsUnread (transport_events handled)
early_unread handled old new h = elim h [
  | inl none ↦ ap (λ (all : List Handled). list_any is_reading (transport_events all)) none.1
  | inr some ↦ some.3
]

pub accepts_apply : (handled : List Handled) (old new : ServerState) → Accepts handled old new → AppliesAll handled old new
accepts_apply handled old new h = elim h [
  | inl none ↦ subst (λ (all : List Handled). AppliesAll all old new) (sym none.1) none.2
  | inr some ↦ some.1
]

pub accepts_unread : (handled : List Handled) (old new : ServerState) → Accepts handled old new → IsUnread (transport_events handled)
accepts_unread handled old new h = elim h [
  | inl none ↦ ap (λ (all : List Handled). list_any is_reading (transport_events all)) none.1
  | inr some ↦ some.2
]

pub round_serves : (handled : List Handled) (old new : ServerState) → IsRound handled old new → AppliesAll handled old new
round_serves handled old new round =
    subst (λ (all : List Handled). AppliesAll all old new) (sym round.7)
    (serves_more round.0 (round.1 ++ (round.2 ++ round.3)) old round.4 new (early_applies round.0 old round.4 round.8)
    (serves_more round.1 (round.2 ++ round.3) round.4 round.5 new round.9.0
    (serves_more round.2 round.3 round.5 round.6 new (turns_serve round.5.first_client 8 round.2 round.5 round.6 round.10) (accepts_apply round.3 round.6 new round.11))))

pub lets_in_behind : (first second : List TransportEvent) → AcceptsPending second → AcceptsPending (first ++ second)
lets_in_behind first second last = (
  first ++ last.0,
  elim last.1 [
    | inl nobody ↦ inl (ap (λ (all : List TransportEvent). first ++ all) nobody ∙ sym (append_assoc first last.0 (NonePending ∷ [])))
    | inr eight ↦ inr (ap (λ (all : List TransportEvent). first ++ all) eight ∙ sym (append_assoc first last.0 (replicate 8 Refused)))
  ],
)

-- The pending clients.

both_accept : (first second : List TransportEvent) → list_all is_accept first ≡ true → list_all is_accept second ≡ true → list_all is_accept (first ++ second) ≡ true
both_accept first second one two = list_all-append is_accept first second ∙ and_from (list_all is_accept first) (list_all is_accept second) one two

-- the places before this one are taken
abbrev pub AreTaken : (below : ℕ) → List TransportEvent → ServerState → Type 0
AreTaken below more all = (client : ℕ) → client < below → is_connected all client ≡ true

pub more_taken : (below : ℕ) (mid new : ServerState) → ((client : ℕ) → client < below → is_connected mid client ≡ true) → HasMoreClients below mid new → (client : ℕ) → client < below + 1 → is_connected new client ≡ true
more_taken below mid new taken more client within = elim (cases_eq client below) [
  | inl same ↦ subst (λ (i : ℕ). is_connected new i ≡ true) (sym same) more.takes
  | inr differs ↦ let before : client < below = omega (arith, within, differs) in more.keeps client (taken client before)
]

-- the places before this one are taken, and none was refused
abbrev pub HasAccepted : (below : ℕ) → List TransportEvent → ServerState → Type 0
HasAccepted below more all = (list_all is_accept more ≡ true) × AreTaken below more all

pub accepted_more : (below : ℕ) (these those : List TransportEvent) (mid new : ServerState) → HasAccepted below these mid → (list_all is_accept those ≡ true) × HasMoreClients below mid new
    → HasAccepted (below + 1) (these ++ those) new
accepted_more below these those mid new so_far more = (both_accept these those so_far.0 more.0, more_taken below mid new so_far.1 more.1)

pub nobody_waits : (old new : Snapshot) → Extends old.log new.log (NonePending ∷ []) → Extends old.observed new.observed [] → new.state ≡ old.state → ProgressesWithoutInput (AcceptsSome false) old new
nobody_waits old new grows observed same =
    same_on_wire (AcceptsSome false) (record { log = NonePending; applied = [] } ∷ []) (NonePending ∷ []) old new refl refl grows observed (old.state, (refl, refl), refl) same refl (refl, [], refl)

pub nobody_more : (below : ℕ) (these those : List TransportEvent) (mid new : ServerState) → HasAccepted below these mid → AcceptsSome false those new → AcceptsSome false (these ++ those) new
nobody_more below these those mid new so_far last =
    (both_accept these those so_far.0 last.0, these ++ last.1, ap (λ (all : List TransportEvent). these ++ all) last.2 ∙ sym (append_assoc these last.1 (NonePending ∷ [])))

-- a number are refused: eight, or fewer and then none is pending
abbrev none_pending : Handled
none_pending = record { log = NonePending; applied = [] }

abbrev refused_one_by_one : (count : ℕ) (eight : Bool) → List Handled
refused_one_by_one count eight = replicate count one_refused ++ (if eight then [] else none_pending ∷ [])

none_pending_last : (eight : Bool) → transport_events (if eight then [] else none_pending ∷ []) ≡ (if eight then [] else NonePending ∷ [])
none_pending_last true = refl
none_pending_last false = refl

nothing_seen : (eight : Bool) → observations_in (if eight then [] else none_pending ∷ []) ≡ []
nothing_seen true = refl
nothing_seen false = refl

none_pending_applies : (eight : Bool) (all : ServerState) → AppliesAll (if eight then [] else none_pending ∷ []) all all
none_pending_applies true all = refl
none_pending_applies false all = (all, (refl, refl), refl)

all_refused : (count : ℕ) (eight : Bool) → (count == 8) ≡ eight → AcceptsPending (replicate count Refused ++ (if eight then [] else NonePending ∷ []))
all_refused count true is = ([], inr (append-nil (replicate count Refused) ∙ ap (λ (n : ℕ). replicate n Refused) (eqb-true count 8 is)))
all_refused count false is = (replicate count Refused, inl refl)

none_read : (count : ℕ) → IsUnread (replicate count Refused)
none_read zero = refl
none_read (suc count) = none_read count

last_unread : (eight : Bool) → IsUnread (if eight then [] else NonePending ∷ [])
last_unread true = refl
last_unread false = refl

refusals_unread : (count : ℕ) (eight : Bool) → IsUnread (replicate count Refused ++ (if eight then [] else NonePending ∷ []))
refusals_unread count eight =
    list_any-append is_reading (replicate count Refused) (if eight then [] else NonePending ∷ [])
    ∙ none_of_both (list_any is_reading (replicate count Refused)) (list_any is_reading (if eight then [] else NonePending ∷ [])) (none_read count) (last_unread eight)

pub turns_others_away : (count : ℕ) (old new : Snapshot) → ((client : ℕ) → client < 8 → is_connected old.state client ≡ true) → Extends old.log new.log (refusals count) → Extends old.observed new.observed []
    → new.state ≡ backlog_after count old.state → ProgressesWithoutInput (λ more _. AcceptsPending more) old new
turns_others_away count old new taken grows observed same =
    let eight = count == 8 in
    let handled = refused_one_by_one count eight in
    let are : transport_events handled ≡ refusals count =
    log-append (replicate count one_refused) (if eight then [] else none_pending ∷ []) ∙ ap₂ (λ (a b : List TransportEvent). a ++ b) (turned_passed count) (none_pending_last eight) in
    let none : observations_in handled ≡ [] =
    observed-append (replicate count one_refused) (if eight then [] else none_pending ∷ []) ∙ ap₂ (λ (a b : List Observation). a ++ b) (turned_shown count) (nothing_seen eight) in (
      handled,
      subst (λ (all : List TransportEvent). Extends old.log new.log all) (sym are) grows,
      subst (λ (all : List Observation). Extends old.observed new.observed all) (sym none) observed,
      subst (λ (all : ServerState). AppliesAll handled old.state all) (sym same)
          (serves_more (replicate count one_refused) (if eight then [] else none_pending ∷ []) old.state (backlog_after count old.state) (backlog_after count old.state)
          (turned_away_all count old.state taken) (none_pending_applies eight (backlog_after count old.state))),
      subst (λ (all : ServerState). PreservesRound (transport_events handled) old.state all × AcceptsPending (transport_events handled)) (sym same)
          (keeps_refused count (transport_events handled) old.state (subst IsUnread (sym are) (refusals_unread count eight)), subst (λ (all : List TransportEvent). AcceptsPending all) (sym are) (all_refused count eight refl)),
    )
