-- Jobs: a place that waits is sent, and in its turn.
use Rattle.std.proofs.Common.{◌≡◌, ℕ, ◌+◌, ◌*◌, ◌≤◌, ◌==◌, ◌&&◌, nat_lt, Bool, true, false, not, if◌then◌else◌, List, [], ◌∷◌, ◌++◌, Option, Some, None, option_map, refl, ap, ap₂, arith, inl, inr, ◌⊎◌, eqb-true, eq-eqb}
use Rattle.std.proofs.lemmas.Bool.{cond_both, and_parts, and_from}
use Rattle.refresh_ring.specs.Places.{number_of, is_refreshed, slot_of, next_place}
use Rattle.refresh_ring.specs.Jobs.{is_place, is_queued, most_requests, requests_in, sends_of, sends_ahead, live_jobs, first_of, after_send}
use Rattle.refresh_ring.specs.Scheduled.{Scheduled, after_changed, after_switch}
use Rattle.refresh_ring.specs.Picked.{Picked, picked, live, candidate, sent, idle, is_last, destination_of, address_of, pick_of}
use Rattle.refresh_ring.specs.Left.{jobs_wait, turns_ahead}
use Rattle.refresh_ring.specs.declared.kind.Kind.{Kind}
use Rattle.refresh_ring.specs.declared.job.Job.{Job}
use Rattle.refresh_ring.specs.declared.job.Job.TheVariants.{Place, Request}
use Rattle.refresh_ring.specs.declared.job.Destination.{Destination}
use Rattle.refresh_ring.specs.declared.job.Destination.TheVariants.{Loco}
use Rattle.refresh_ring.specs.declared.turn.Candidate.TheVariants.{FromJobs, FromRing}
use Rattle.refresh_ring.specs.declared.pick.Pick.TheVariants.{Place as PlacePick}
use Rattle.refresh_ring.proofs.Numbers.{number_of-same}

is_place-same : (slot : ℕ) (kind : Kind) (job : Job) → is_place slot kind job ≡ true → job ≡ Place slot kind
is_place-same slot kind (Place s k) h =
    let parts : ((s == slot) ≡ true) × ((number_of k == number_of kind) ≡ true) = and_parts (s == slot) (number_of k == number_of kind) h in
    let at_slot : s ≡ slot = eqb-true s slot parts.0 in
    let at_kind : k ≡ kind = number_of-same k kind (eqb-true (number_of k) (number_of kind) parts.1) in
    ap₂ Place at_slot at_kind
is_place-same slot kind (Request number closed on again) h = cc

is_place-itself : (slot : ℕ) (kind : Kind) → is_place slot kind (Place slot kind) ≡ true
is_place-itself slot kind = and_from (slot == slot) (number_of kind == number_of kind) (eq-eqb slot slot refl) (eq-eqb (number_of kind) (number_of kind) refl)

-- the place waits, with at most q sends ahead of it
pub data Waits (slot : ℕ) (kind : Kind) : List Job → ℕ → Type 0 where
  here : {jobs : List Job} {q : ℕ} → Waits slot kind (Place slot kind ∷ jobs) q
  later : {job : Job} {jobs : List Job} {q : ℕ} (r : ℕ) → Waits slot kind jobs r → sends_of job + r ≤ q → Waits slot kind (job ∷ jobs) q

Waits-by : (slot : ℕ) (kind : Kind) (job : Job) (jobs : List Job) (q : ℕ) (o : Option ℕ) → ((r : ℕ) → o ≡ Some r → Waits slot kind jobs r) → option_map (λ n. sends_of job + n) o ≡ Some q → Waits slot kind (job ∷ jobs) q
Waits-by slot kind job jobs q None rest h = cc
Waits-by slot kind job jobs q (Some r) rest h =
    let e : sends_of job + r ≡ q = cc in
    later r (rest r refl) (omega arith)

Waits-step : (slot : ℕ) (kind : Kind) (job : Job) (jobs : List Job) (q : ℕ) → ((r : ℕ) → sends_ahead slot kind jobs ≡ Some r → Waits slot kind jobs r) → (b : Bool) → is_place slot kind job ≡ b → (if b then Some 0 else option_map (λ n. sends_of job + n) (sends_ahead slot kind jobs)) ≡ Some q → Waits slot kind (job ∷ jobs) q
Waits-step slot kind job jobs q rest true same h = rw (is_place-same slot kind job same) here
Waits-step slot kind job jobs q rest false other h = Waits-by slot kind job jobs q (sends_ahead slot kind jobs) rest h

pub Waits-from : (slot : ℕ) (kind : Kind) (jobs : List Job) (q : ℕ) → sends_ahead slot kind jobs ≡ Some q → Waits slot kind jobs q
Waits-from slot kind [] q h = cc
Waits-from slot kind (job ∷ jobs) q h = Waits-step slot kind job jobs q (λ r e. Waits-from slot kind jobs r e) (is_place slot kind job) refl h

-- the sends ahead are known, and at most q
pub record KnowsAhead (slot : ℕ) (kind : Kind) (jobs : List Job) (q : ℕ) : Type 0 where
  pub ahead : ℕ
  pub known : sends_ahead slot kind jobs ≡ Some ahead
  pub within : ahead ≤ q

knows_step : (slot : ℕ) (kind : Kind) (job : Job) (jobs : List Job) (q r : ℕ) → sends_of job + r ≤ q → KnowsAhead slot kind jobs r → (b : Bool) → is_place slot kind job ≡ b → KnowsAhead slot kind (job ∷ jobs) q
knows_step slot kind job jobs q r fits rest true same = record { ahead = 0; known = rw same refl; within = omega arith }
knows_step slot kind job jobs q r fits rest false other = record {
  ahead = sends_of job + rest.ahead;
  known = rw (other, rest.known) refl;
  within = omega (arith, rest.within);
}

pub knows_ahead : {slot : ℕ} {kind : Kind} {jobs : List Job} {q : ℕ} → Waits slot kind jobs q → KnowsAhead slot kind jobs q
knows_ahead {slot} {kind} here = record { ahead = 0; known = rw (is_place-itself slot kind) refl; within = omega arith }
knows_ahead {slot} {kind} {q = q} (later {job = job} {jobs = jobs} r w fits) = knows_step slot kind job jobs q r fits (knows_ahead w) (is_place slot kind job) refl

pub Waits-more : {slot : ℕ} {kind : Kind} {q p : ℕ} {jobs : List Job} → Waits slot kind jobs q → q ≤ p → Waits slot kind jobs p
Waits-more here le = here
Waits-more (later r w fits) le = later r w (omega arith)

-- dropping what is not refreshed takes nothing from ahead that is sent
pub Waits-live : {slot : ℕ} {kind : Kind} {q : ℕ} {jobs : List Job} (slots : List Bool) → is_refreshed slots slot ≡ true → Waits slot kind jobs q → Waits slot kind (live_jobs slots jobs) q
Waits-live {slot} {kind} {q} slots on (here {jobs = jobs}) = rw on here
Waits-live {slot} {kind} {q} slots on (later {job = Place s k} {jobs = jobs} r w le) =
    cond_both (is_refreshed slots s) _ _ (λ js. Waits slot kind js q) (λ h. later r w le) (λ h. Waits-more (Waits-live slots on w) (omega arith))
Waits-live {slot} {kind} {q} slots on (later {job = Request number closed on' again} {jobs = jobs} r w le) = later r w le

-- jobs that follow change nothing ahead
append_by : (n : ℕ) (o p : Option ℕ) (q : ℕ) → ((r : ℕ) → o ≡ Some r → p ≡ Some r) → option_map (λ m. n + m) o ≡ Some q → option_map (λ m. n + m) p ≡ Some q
append_by n None p q rest h = cc
append_by n (Some r) p q rest h = rw (rest r refl) h

append_step : (slot : ℕ) (kind : Kind) (job : Job) (o p : Option ℕ) (q : ℕ) (b : Bool) → ((r : ℕ) → o ≡ Some r → p ≡ Some r) → (if b then Some 0 else option_map (λ n. sends_of job + n) o) ≡ Some q → (if b then Some 0 else option_map (λ n. sends_of job + n) p) ≡ Some q
append_step slot kind job o p q true rest h = h
append_step slot kind job o p q false rest h = append_by (sends_of job) o p q rest h

pub sends_ahead-append : (slot : ℕ) (kind : Kind) (jobs more : List Job) (q : ℕ) → sends_ahead slot kind jobs ≡ Some q → sends_ahead slot kind (jobs ++ more) ≡ Some q
sends_ahead-append slot kind [] more q h = cc
sends_ahead-append slot kind (job ∷ jobs) more q h =
    append_step slot kind job (sends_ahead slot kind jobs) (sends_ahead slot kind (jobs ++ more)) q (is_place slot kind job) (λ r e. sends_ahead-append slot kind jobs more r e) h

-- ---- a turn

pub wait_jobs : (b : Bool) (last : Option Destination) → 1 ≤ jobs_wait b last
wait_jobs false None = omega arith
wait_jobs false (Some there) = omega arith
wait_jobs true None = omega arith
wait_jobs true (Some there) = omega arith

pub wait_most : (b : Bool) (last : Option Destination) → jobs_wait b last ≤ 4
wait_most false None = omega arith
wait_most false (Some there) = omega arith
wait_most true None = omega arith
wait_most true (Some there) = omega arith

pub wait_idle : (b : Bool) (last : Option Destination) (there : Destination) → is_last last there ≡ true → jobs_wait b None + 1 ≤ jobs_wait b last
wait_idle b None there h = cc
wait_idle false (Some was) there h = omega arith
wait_idle true (Some was) there h = omega arith

pub wait_ring : (last : Option Destination) → 3 ≤ jobs_wait false last
wait_ring None = omega arith
wait_ring (Some there) = omega arith

-- the place still waits, and comes closer
record Nearer (slot : ℕ) (kind : Kind) (turns : ℕ) (t : Scheduled) : Type 0 where
  ahead : ℕ
  is_queued : Waits slot kind t.jobs ahead
  falls : 4 * ahead + jobs_wait t.prefers_jobs t.last + 1 ≤ turns

unfoldable Advances : (slot : ℕ) (kind : Kind) (turns : ℕ) → Picked → Type 0
Advances slot kind turns m = (m.answer ≡ PlacePick slot kind) ⊎ Nearer slot kind turns m.state

-- the first job was sent: it is the place, or the place is nearer
data AfterSend (slot : ℕ) (kind : Kind) (q : ℕ) (job : Job) (rest : List Job) : Type 0 where
  is_it : job ≡ Place slot kind → AfterSend slot kind q job rest
  moves_up : (r : ℕ) → r + 1 ≤ q → Waits slot kind (after_send (job ∷ rest)) r → AfterSend slot kind q job rest

after_send-is : {slot : ℕ} {kind : Kind} {q : ℕ} {job : Job} {rest : List Job} → Waits slot kind (job ∷ rest) q → AfterSend slot kind q job rest
after_send-is here = is_it refl
after_send-is (later {job = Place s k} r w le) = moves_up r (omega arith) w
after_send-is (later {job = Request number closed on true} r w le) = moves_up (r + 1) (omega arith) (later r w (omega arith))
after_send-is (later {job = Request number closed on false} r w le) = moves_up r (omega arith) w

module _ (slot : ℕ) (kind : Kind) (q : ℕ) (addresses : List ℕ) (s : Scheduled) where
  idle_nearer : Waits slot kind s.jobs q → (there : Destination) → is_last s.last there ≡ true → Advances slot kind (4 * q + jobs_wait s.prefers_jobs s.last) (idle s)
  unfolding Advances
  idle_nearer w there h = inr (record { ahead = q; is_queued = w; falls = omega (arith, wait_idle s.prefers_jobs s.last there h) })

  job_nearer : (job : Job) (rest : List Job) → s.jobs ≡ job ∷ rest → Waits slot kind s.jobs q → Advances slot kind (4 * q + jobs_wait s.prefers_jobs s.last) (sent addresses s (Some (FromJobs job)))
  unfolding Advances
  job_nearer job rest e w = cond_both (is_last s.last (destination_of addresses job)) _ _ (Advances slot kind (4 * q + jobs_wait s.prefers_jobs s.last))
      (idle_nearer w (destination_of addresses job))
      (λ h. elim (after_send-is (rw e at w)) [
        | is_it same ↦ inl (ap pick_of same)
        | moves_up r le w' ↦ inr (record { ahead = r; is_queued = rw e w'; falls = omega (arith, wait_jobs s.prefers_jobs s.last) })
      ])

  ring_nearer : (place : ℕ) → Waits slot kind s.jobs q → s.prefers_jobs ≡ false → Advances slot kind (4 * q + jobs_wait s.prefers_jobs s.last) (sent addresses s (Some (FromRing place)))
  unfolding Advances
  ring_nearer place w prefers = cond_both (is_last s.last (Loco (address_of addresses (slot_of place)))) _ _ (Advances slot kind (4 * q + jobs_wait s.prefers_jobs s.last))
      (idle_nearer w (Loco (address_of addresses (slot_of place))))
      (λ h. inr (record { ahead = q; is_queued = w; falls = rw prefers (omega (arith, wait_ring s.last)) }))

  candidate_nearer : (jobs : List Job) (o : Option ℕ) (b : Bool) → s.jobs ≡ jobs → s.prefers_jobs ≡ b → Waits slot kind s.jobs q → Advances slot kind (4 * q + jobs_wait s.prefers_jobs s.last) (sent addresses s (candidate b (first_of jobs) o))
  candidate_nearer [] o b e prefers w = elim (rw e at w) [ ]
  candidate_nearer (job ∷ rest) o true e prefers w = job_nearer job rest e w
  candidate_nearer (job ∷ rest) None false e prefers w = job_nearer job rest e w
  candidate_nearer (job ∷ rest) (Some place) false e prefers w = ring_nearer place w prefers

advances : (slot : ℕ) (kind : Kind) (q : ℕ) (addresses : List ℕ) (s : Scheduled) → is_refreshed s.slots slot ≡ true → Waits slot kind s.jobs q → Advances slot kind (4 * q + jobs_wait s.prefers_jobs s.last) (picked addresses s)
unfolding picked Advances
advances slot kind q addresses s on w =
    candidate_nearer slot kind q addresses (live s) (live s).jobs (next_place s.slots s.cursor) s.prefers_jobs refl refl (Waits-live s.slots on w)

-- ---- the law

-- the fact about a number that waits
waiting_at : (slot : ℕ) (kind : Kind) (s : Scheduled) (n : ℕ) (o : Option ℕ) → option_map (λ m. 4 * m + jobs_wait s.prefers_jobs s.last) o ≡ Some n → (q : ℕ) × (o ≡ Some q) × (4 * q + jobs_wait s.prefers_jobs s.last ≡ n)
waiting_at slot kind s n None h = cc
waiting_at slot kind s n (Some q) h = (q, refl, cc)

nearer_at : (slot : ℕ) (kind : Kind) (turns n : ℕ) (t : Scheduled) → turns ≡ n → Nearer slot kind turns t → (m : ℕ) × (turns_ahead slot kind t ≡ Some m) × (m + 1 ≤ n)
nearer_at slot kind turns n t e nearer =
    let knows = knows_ahead nearer.is_queued in
    (4 * knows.ahead + jobs_wait t.prefers_jobs t.last, rw (knows.known) refl, omega (arith, knows.within, nearer.falls))

pub turns_ahead-falls : (slot : ℕ) (kind : Kind) (addresses : List ℕ) (s : Scheduled) (n : ℕ) → turns_ahead slot kind s ≡ Some n → is_refreshed s.slots slot ≡ true → ((picked addresses s).answer ≡ PlacePick slot kind) ⊎ ((m : ℕ) × (turns_ahead slot kind (picked addresses s).state ≡ Some m) × (m + 1 ≤ n))
unfolding Advances
turns_ahead-falls slot kind addresses s n h on =
    let at = waiting_at slot kind s n (sends_ahead slot kind s.jobs) h in
    elim (advances slot kind at.0 addresses s on (Waits-from slot kind s.jobs at.0 at.1)) [
      | inl e ↦ inl e
      | inr nearer ↦ inr (nearer_at slot kind _ n (picked addresses s).state at.2 nearer)
    ]

pub turns_ahead-least : (slot : ℕ) (kind : Kind) (s : Scheduled) (n : ℕ) → turns_ahead slot kind s ≡ Some n → 1 ≤ n
turns_ahead-least slot kind s n h =
    let at = waiting_at slot kind s n (sends_ahead slot kind s.jobs) h in
    omega (arith, at.2, wait_jobs s.prefers_jobs s.last)

pub turns_ahead-most : (slot : ℕ) (kind : Kind) (s : Scheduled) (q : ℕ) → sends_ahead slot kind s.jobs ≡ Some q → (n : ℕ) × (turns_ahead slot kind s ≡ Some n) × (n ≤ 4 * (q + 1))
turns_ahead-most slot kind s q h =
    (4 * q + jobs_wait s.prefers_jobs s.last, rw h refl, omega (arith, wait_most s.prefers_jobs s.last))

-- ---- messages leave it

pub turns_ahead-append : (slot : ℕ) (kind : Kind) (s : Scheduled) (more : List Job) (n : ℕ) → turns_ahead slot kind s ≡ Some n → turns_ahead slot kind (record s { jobs = s.jobs ++ more }) ≡ Some n
turns_ahead-append slot kind s more n h =
    let at = waiting_at slot kind s n (sends_ahead slot kind s.jobs) h in
    let same : sends_ahead slot kind (s.jobs ++ more) ≡ Some at.0 = sends_ahead-append slot kind s.jobs more at.0 at.1 in
    rw same (ap Some at.2)

pub turns_ahead-changed : (slot : ℕ) (kind : Kind) (other : ℕ) (other_kind : Kind) (s : Scheduled) (n : ℕ) → turns_ahead slot kind s ≡ Some n → turns_ahead slot kind (after_changed other other_kind s) ≡ Some n
turns_ahead-changed slot kind other other_kind s n h =
    cond_both (is_refreshed s.slots other && not (is_queued other other_kind s.jobs)) (s.jobs ++ Place other other_kind ∷ []) s.jobs (λ js. turns_ahead slot kind (record s { jobs = js }) ≡ Some n)
    (λ _. turns_ahead-append slot kind s (Place other other_kind ∷ []) n h)
    (λ _. h)

pub turns_ahead-switch : (slot : ℕ) (kind : Kind) (number : ℕ) (closed on : Bool) (s : Scheduled) (n : ℕ) → turns_ahead slot kind s ≡ Some n → turns_ahead slot kind (after_switch number closed on s) ≡ Some n
turns_ahead-switch slot kind number closed on s n h =
    cond_both (nat_lt (requests_in s.jobs) most_requests) (s.jobs ++ Request number closed on true ∷ []) s.jobs (λ js. turns_ahead slot kind (record s { jobs = js }) ≡ Some n)
    (λ _. turns_ahead-append slot kind s (Request number closed on true ∷ []) n h)
    (λ _. h)

-- ---- what was changed waits

known_by : (slot : ℕ) (kind : Kind) (job : Job) (jobs : List Job) → (is_queued slot kind jobs ≡ true → (q : ℕ) × (sends_ahead slot kind jobs ≡ Some q)) → is_queued slot kind (job ∷ jobs) ≡ true → (b : Bool) → is_place slot kind job ≡ b → (q : ℕ) × (sends_ahead slot kind (job ∷ jobs) ≡ Some q)
known_by slot kind job jobs known h true same = (0, rw same refl)
known_by slot kind job jobs known h false other =
    let rest = known (rw other at h) in
    (sends_of job + rest.0, rw (other, rest.1) refl)

is_queued-known : (slot : ℕ) (kind : Kind) (jobs : List Job) → is_queued slot kind jobs ≡ true → (q : ℕ) × (sends_ahead slot kind jobs ≡ Some q)
is_queued-known slot kind [] h = cc
is_queued-known slot kind (job ∷ jobs) h = known_by slot kind job jobs (λ later'. is_queued-known slot kind jobs later') h (is_place slot kind job) refl

knows_last : (slot : ℕ) (kind : Kind) (jobs : List Job) → (q : ℕ) × Waits slot kind (jobs ++ Place slot kind ∷ []) q
knows_last slot kind [] = (0, here)
knows_last slot kind (job ∷ jobs) =
    let rest = knows_last slot kind jobs in
    (sends_of job + rest.0, later rest.0 rest.1 (omega arith))

changed-by : (slot : ℕ) (kind : Kind) (jobs : List Job) (b : Bool) → is_queued slot kind jobs ≡ b → (q : ℕ) × (sends_ahead slot kind (if not b then jobs ++ Place slot kind ∷ [] else jobs) ≡ Some q)
changed-by slot kind jobs true h = is_queued-known slot kind jobs h
changed-by slot kind jobs false h =
    let last = knows_last slot kind jobs in
    let knows = knows_ahead last.1 in
    (knows.ahead, knows.known)

pub changed-is_queued : (slot : ℕ) (kind : Kind) (s : Scheduled) → is_refreshed s.slots slot ≡ true → (q : ℕ) × (sends_ahead slot kind (after_changed slot kind s).jobs ≡ Some q)
changed-is_queued slot kind s on = rw on (changed-by slot kind s.jobs (is_queued slot kind s.jobs) refl)
