-- The bytes written to a client are a prefix of its text.
use Rattle.std.proofs.Common.{◌≡◌, ℕ, zero, suc, ◌+◌, Bool, true, false, if◌then◌else◌, nat_le, inl, inr, List, [], ◌∷◌, ◌++◌, length, Option, Some, None, refl, ap, sym, subst, ◌∙◌, append_assoc, append-nil, eq-eqb, ne_eqb}
use Rattle.std.specs.Prelude.{◌==◌, slice_set, unwrap_or}
use Rattle.std.specs.List.{slice_index_or}
use Rattle.std.proofs.lemmas.Bool.{cases_eq}
use Rattle.std.proofs.lemmas.List.{get_or-set_other}
use Rattle.bus.specs.declared.event.Event.{Event}
use Rattle.bus_server.specs.Observations.{Observation}
use Rattle.bus.specs.declared.outcome.Outcome.{Outcome}
use Rattle.bus.specs.declared.outcome.Outcome.TheVariants.{Nothing, Connected, Disconnected, Rejected, Reported, Sent, Programmed, TurnBegan, TurnsRequested, StatesRequested, PlaceRequested, DeviceRequested, Placed, DeviceAnswered}
use Rattle.bus.specs.Outcome.{text_for}
use Rattle.bus_server.specs.SendQueue.{enqueued}
use Rattle.bus_server.specs.TransportEvents.{Polled, ServerClosed, Accepted, WriteBlocked, PeerClosed, NonePending, TransportEvent, Written, ReadBlocked, Received, Refused}
use Rattle.bus_server.specs.Fronts.{Account, IsFront, account_handled, account_applied, account_written, account_run, account_observed, account_after_outcome, account_answered}
use Rattle.bus_server.specs.SendQueues.{SendQueues, enqueued_all, queues_after}
use Rattle.bus_server.specs.declared.pace.Pace.{Pace}
use Rattle.bus_server.specs.Running.{RunsRounds, Round}
use Rattle.bus_server.specs.ServerState.{Handled, Applies, LoggedEvent, RunsEvent, RunsEvents, AppliesAll, ServerState, answer_to, outcome_in, round_start, with_backlog}
use Rattle.bus_server.proofs.Keeping.{enqueued_there, none_set, set_at, told_there}
use Rattle.bus_server.specs.Track.{RunsTrack}
use Rattle.bus_server.proofs.Rounding.{round_serves}
use Rattle.bus_server.proofs.Tracking.{track_ran, with_due}

some_same : {A : Type 0} (a b : A) → Some a ≡ Some b → a ≡ b
some_same {A = A} a b h = ap (λ (o : Option A). unwrap_or o a) h

no_some : {A B : Type 0} (a : A) → None ≡ Some a → B
no_some a h = cc

fits_some : (w text q : List ℕ) (fits : Bool) → (if fits then Some (w ++ text) else None) ≡ Some q → (w' : List ℕ) × (Some w ≡ Some w') × (q ≡ w' ++ text)
fits_some w text q true h = (w, refl, sym (some_same (w ++ text) q h))
fits_some w text q false h = no_some q h

told_some : (text : List ℕ) (send_queue : Option (List ℕ)) (q : List ℕ) → enqueued text send_queue ≡ Some q → (w : List ℕ) × (send_queue ≡ Some w) × (q ≡ w ++ text)
told_some text None q h = no_some q h
told_some text (Some w) q h = fits_some w text q (nat_le (length w + length text) 65536) h

set_empty : (queues : SendQueues) (i : ℕ) (w : List ℕ) → slice_index_or (slice_set queues i (Some [])) i None ≡ Some w → w ≡ []
set_empty [] i w h = no_some w h
set_empty (p ∷ queues) zero w h = sym (some_same [] w h)
set_empty (p ∷ queues) (suc i) w h = set_empty queues i w h

-- the bytes written and the bytes queued for a client are together its text
abbrev pub Fits : (client : ℕ) → Account → SendQueues → Type 0
Fits i account queues = (queued : List ℕ) → slice_index_or queues i None ≡ Some queued → account.written ++ queued ≡ account.text

-- a text after the queued bytes
text_more : (written w q text t : List ℕ) → q ≡ w ++ t → written ++ w ≡ text → written ++ q ≡ text ++ t
text_more written w q text t is fits = ap (λ (b : List ℕ). written ++ b) is ∙ sym (append_assoc written w t) ∙ ap (λ (b : List ℕ). b ++ t) fits

all_told : (i : ℕ) (account : Account) (outcome : Outcome) (queues : SendQueues) → Fits i account queues → (q : List ℕ) → slice_index_or (enqueued_all outcome queues) i None ≡ Some q
    → account.written ++ q ≡ account.text ++ text_for i outcome
all_told i account outcome queues fits q h =
    let o = told_some (text_for i outcome) (slice_index_or queues i None) q (sym (told_there outcome queues i) ∙ h) in
    text_more account.written o.0 q account.text (text_for i outcome) o.2 (fits o.0 o.1)

joins_anew : (b : Bool) (written text q t : List ℕ) → b ≡ true → q ≡ t → (if b then [] else written) ++ q ≡ (if b then [] else text) ++ t
joins_anew true written text q t is h = h
joins_anew false written text q t is h = cc

another_joins : (b : Bool) (written text q t : List ℕ) → b ≡ false → written ++ q ≡ text ++ t → (if b then [] else written) ++ q ≡ (if b then [] else text) ++ t
another_joins true written text q t is h = cc
another_joins false written text q t is h = h

front_told : (i : ℕ) (account : Account) (outcome : Outcome) (queues : SendQueues) → Fits i account queues → Fits i (account_after_outcome i account outcome) (queues_after outcome queues)
front_told i account Nothing queues fits q h = fits q h ∙ sym (append-nil account.text)
front_told i account (Programmed packet change) queues fits q h = fits q h ∙ sym (append-nil account.text)
front_told i account (TurnBegan packet) queues fits q h = fits q h ∙ sym (append-nil account.text)
front_told i account (Rejected client reason) queues fits q h = all_told i account (Rejected client reason) queues fits q h
front_told i account (Sent client message reply) queues fits q h = all_told i account (Sent client message reply) queues fits q h
front_told i account (Reported message) queues fits q h = all_told i account (Reported message) queues fits q h
front_told i account (TurnsRequested client turns) queues fits q h = all_told i account (TurnsRequested client turns) queues fits q h
front_told i account (StatesRequested client things) queues fits q h = fits q h ∙ sym (append-nil account.text)
front_told i account (PlaceRequested client placement) queues fits q h = fits q h ∙ sym (append-nil account.text)
front_told i account (DeviceRequested client request) queues fits q h = fits q h ∙ sym (append-nil account.text)
front_told i account (Placed client answer) queues fits q h = all_told i account (Placed client answer) queues fits q h
front_told i account (DeviceAnswered client answer) queues fits q h = all_told i account (DeviceAnswered client answer) queues fits q h
front_told i account (Disconnected client) queues fits q h = elim (cases_eq i client) [
  | inl same ↦ no_some q (sym (subst (λ (n : ℕ). slice_index_or (slice_set queues client None) n None ≡ None) (sym same) (none_set queues client)) ∙ h)
  | inr differs ↦ fits q (sym (get_or-set_other queues client i None None differs) ∙ h) ∙ sym (append-nil account.text)
]
front_told i account (Connected client) queues fits q h =
    let before = slice_set queues client (Some []) in
    let text = text_for i (Connected client) in
    let o = told_some text (slice_index_or before i None) q (sym (told_there (Connected client) before i) ∙ h) in
    elim (cases_eq i client) [
      | inl same ↦
          let at : slice_index_or before client None ≡ Some o.0 = subst (λ (n : ℕ). slice_index_or before n None ≡ Some o.0) same o.1 in
          joins_anew (client == i) account.written account.text q text (eq-eqb client i (sym same)) (o.2 ∙ ap (λ (w : List ℕ). w ++ text) (set_empty queues client o.0 at))
      | inr differs ↦
          another_joins (client == i) account.written account.text q text (ne_eqb client i (λ same. differs (sym same)))
          (text_more account.written o.0 q account.text text o.2 (fits o.0 (sym (get_or-set_other queues client i (Some []) None differs) ∙ o.1)))
    ]

front_happens : (i : ℕ) (account : Account) (event : Event) (observed : Observation) (old new : ServerState) → RunsEvent event observed old new → IsFront i account old → IsFront i (account_observed i account observed) new
front_happens i account event observed old new h fits =
    subst (λ (s : Observation). IsFront i (account_observed i account s) new) (sym h.saw)
    (λ q at. front_told i account (outcome_in old event) old.queues fits q (ap (λ (queues : SendQueues). slice_index_or queues i None) (sym h.queues) ∙ at))

front_happened : (i : ℕ) (account : Account) (happened : List LoggedEvent) (old new : ServerState) → RunsEvents happened old new → IsFront i account old → IsFront i (account_applied i account happened) new
front_happened i account [] old new same fits = subst (λ (s : ServerState). IsFront i account s) (sym same) fits
front_happened i account (one ∷ more) old new h fits =
    front_happened i (account_observed i account one.observed) more h.0 new h.2 (front_happens i account one.event one.observed old h.0 h.1 fits)

-- A piece is written.

put_here : (b : Bool) (account : Account) (bytes q : List ℕ) → b ≡ true → (account.written ++ bytes) ++ q ≡ account.text
    → (if b then record account { written = account.written ++ bytes } else account).written ++ q ≡ (if b then record account { written = account.written ++ bytes } else account).text
put_here true account bytes q is h = h
put_here false account bytes q is h = cc

put_there : (b : Bool) (account : Account) (bytes q : List ℕ) → b ≡ false → account.written ++ q ≡ account.text
    → (if b then record account { written = account.written ++ bytes } else account).written ++ q ≡ (if b then record account { written = account.written ++ bytes } else account).text
put_there true account bytes q is h = cc
put_there false account bytes q is h = h

front_put : (i : ℕ) (account : Account) (client : ℕ) (bytes rest : List ℕ) (queues : SendQueues) → slice_index_or queues client None ≡ Some (bytes ++ rest) → Fits i account queues
    → Fits i (account_written i account (Written client bytes)) (slice_set queues client (Some rest))
front_put i account client bytes rest queues queued fits q h = elim (cases_eq i client) [
  | inl same ↦
      let here : slice_index_or queues i None ≡ Some (bytes ++ rest) = subst (λ (n : ℕ). slice_index_or queues n None ≡ Some (bytes ++ rest)) (sym same) queued in
      let at : slice_index_or (slice_set queues client (Some rest)) client None ≡ Some q = subst (λ (n : ℕ). slice_index_or (slice_set queues client (Some rest)) n None ≡ Some q) same h in
      let remaining : rest ≡ q = some_same rest q (sym (set_at queues client (bytes ++ rest) rest queued) ∙ at) in
      put_here (client == i) account bytes q (eq-eqb client i (sym same))
      (ap (λ (b : List ℕ). (account.written ++ bytes) ++ b) (sym remaining) ∙ append_assoc account.written bytes rest ∙ fits (bytes ++ rest) here)
  | inr differs ↦
      put_there (client == i) account bytes q (ne_eqb client i (λ same. differs (sym same))) (fits q (sym (get_or-set_other queues client i (Some rest) None differs) ∙ h))
]

nothing_more : (i : ℕ) (account : Account) (applied : List LoggedEvent) (new : ServerState) → applied ≡ [] → IsFront i account new → IsFront i (account_applied i account applied) new
nothing_more i account applied new none fits = subst (λ (all : List LoggedEvent). IsFront i (account_applied i account all) new) (sym none) fits

as_before : (i : ℕ) (account : Account) (applied : List LoggedEvent) (old new : ServerState) → applied ≡ [] → new ≡ old → IsFront i account old → IsFront i (account_applied i account applied) new
as_before i account applied old new none same fits = nothing_more i account applied new none (subst (λ (s : ServerState). IsFront i account s) (sym same) fits)

front_act : (i : ℕ) (account : Account) (log : TransportEvent) (applied : List LoggedEvent) (old new : ServerState) → Applies log applied old new → IsFront i account old
    → IsFront i (account_applied i (account_written i account log) applied) new
front_act i account (Accepted client) applied old new h fits = front_happened i account applied (with_backlog old) new h.1.2 fits
front_act i account (Received client byte) applied old new h fits = front_happened i account applied (with_backlog old) new h.1.2 fits
front_act i account (PeerClosed client) applied old new h fits = front_happened i account applied old new h.2 fits
front_act i account (ServerClosed client) applied old new h fits = front_happened i account applied old new h.1.2 fits
front_act i account (Written client bytes) applied old new h fits =
    nothing_more i (account_written i account (Written client bytes)) applied new h.0
    (subst (λ (s : ServerState). IsFront i (account_written i account (Written client bytes)) s) (sym h.3) (front_put i account client bytes h.1 old.queues h.2 fits))
front_act i account Refused applied old new h fits = as_before i account applied (with_backlog old) new h.0 h.2 fits
front_act i account (Polled longest) applied old new h fits = absurd h
front_act i account (ReadBlocked client) applied old new h fits = as_before i account applied old new h.0 h.1 fits
front_act i account (WriteBlocked client) applied old new h fits = as_before i account applied old new h.0 h.1 fits
front_act i account NonePending applied old new h fits = as_before i account applied old new h.0 h.1 fits

front_acts : (i : ℕ) (account : Account) (handled : List Handled) (old new : ServerState) → AppliesAll handled old new → IsFront i account old → IsFront i (account_handled i account handled) new
front_acts i account [] old new same fits = subst (λ (s : ServerState). IsFront i account s) (sym same) fits
front_acts i account (one_handled ∷ handled) old new h fits =
    front_acts i (account_applied i (account_written i account one_handled.log) one_handled.applied) handled h.0 new h.2 (front_act i account one_handled.log one_handled.applied old h.0 h.1 fits)

front_time : (i : ℕ) (account : Account) (pace : Pace) (readings : List ℕ) (elapsing : List LoggedEvent) (old new : ServerState) → RunsTrack pace readings elapsing old new → IsFront i account old
    → IsFront i (account_applied i account elapsing) new
front_time i account pace readings elapsing old new h fits =
    let ran = track_ran pace readings elapsing old new h in
    let after : IsFront i (account_applied i account elapsing) (with_due new.turns_due new.time_due new.has_backlog ran.0) = front_happened i account elapsing old ran.0 ran.1 fits in
    subst (λ (s : ServerState). IsFront i (account_applied i account elapsing) s) (sym ran.2) after

-- A round starts.
front_starts : (i : ℕ) (account : Account) (round : Round) (old : ServerState) → round.answers ≡ answer_to old → IsFront i account old → IsFront i (account_answered i account round) (round_start old)
front_starts i account round old same fits q h =
    let o = told_some (answer_to old i) (slice_index_or old.queues i None) q (sym (enqueued_there (answer_to old) old.queues i) ∙ h) in
    text_more account.written o.0 q account.text (answer_to old i) o.2 (fits o.0 o.1) ∙ ap (λ (answers : ℕ → List ℕ). account.text ++ answers i) (sym same)

pub front_rounds : (i : ℕ) (account : Account) (most : ℕ) (rounds : List Round) (old new : ServerState) → RunsRounds most rounds old new → IsFront i account old → IsFront i (account_run i account rounds) new
front_rounds i account most [] old new same fits = subst (λ (s : ServerState). IsFront i account s) (sym same) fits
front_rounds i account most (round ∷ rounds) old new h fits =
    let went = h.2 in
    let start = account_answered i account round in
    let served = front_acts i start round.handled (round_start old) went.1 (round_serves round.handled (round_start old) went.1 went.2) (front_starts i account round old went.0.1 fits) in
    front_rounds i (account_applied i (account_handled i start round.handled) round.elapsing) most rounds h.1 new h.3
    (front_time i (account_handled i start round.handled) went.1.pace round.readings round.elapsing went.1 h.1 went.3 served)
