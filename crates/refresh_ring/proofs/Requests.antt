-- Switch requests are sent in order, each as often as it is to be sent.
use Rattle.std.proofs.Common.{◌≡◌, ℕ, ◌+◌, ◌*◌, ◌<◌, ◌≤◌, Bool, true, false, not, if◌then◌else◌, nat_lt, lt-ltb, le-ltb, ◌&&◌, List, [], ◌∷◌, ◌++◌, Option, Some, None, refl, sym, ap, arith, inl, inr, ◌⊎◌, ◌∙◌, append_assoc, append-nil}
use Rattle.std.proofs.lemmas.Bool.{cond_both}
use Rattle.refresh_ring.specs.Places.{is_refreshed, slot_of, next_place}
use Rattle.refresh_ring.specs.Jobs.{IsQueue, sends_of, sends_in, live_jobs, first_of, after_send, is_queued, most_requests, requests_in}
use Rattle.refresh_ring.specs.Scheduled.{Scheduled, after_changed, after_switch}
use Rattle.refresh_ring.specs.Picked.{Picked, picked, live, candidate, sent, idle, job_sent, place_sent, is_last, destination_of, address_of, pick_of}
use Rattle.refresh_ring.specs.Left.{jobs_wait, turns_for, turns_to_empty}
use Rattle.refresh_ring.specs.Sent.{sends_left, to_send, switch_in, LessLeft}
use Rattle.refresh_ring.specs.declared.kind.Kind.{Kind}
use Rattle.refresh_ring.specs.declared.job.Job.{Job}
use Rattle.refresh_ring.specs.declared.job.Job.TheVariants.{Place, Request}
use Rattle.refresh_ring.specs.declared.job.Destination.{Destination}
use Rattle.refresh_ring.specs.declared.job.Destination.TheVariants.{Loco}
use Rattle.refresh_ring.specs.declared.turn.Candidate.TheVariants.{FromJobs, FromRing}
use Rattle.refresh_ring.specs.declared.pick.Pick.{Pick}
use Rattle.refresh_ring.specs.declared.pick.Pick.TheVariants.{Switch}
use Rattle.refresh_ring.proofs.Queued.{few_sends}
use Rattle.refresh_ring.proofs.Ahead.{wait_jobs, wait_most, wait_idle, wait_ring}

pub to_send-append : (jobs more : List Job) → to_send (jobs ++ more) ≡ to_send jobs ++ to_send more
to_send-append [] more = refl
to_send-append (job ∷ jobs) more = rw (to_send-append jobs more) (sym (append_assoc (sends_left job) (to_send jobs) (to_send more)))

pub to_send-live : (slots : List Bool) (jobs : List Job) → to_send (live_jobs slots jobs) ≡ to_send jobs
to_send-live slots [] = refl
to_send-live slots (Request number closed on again ∷ jobs) = refl
to_send-live slots (Place slot kind ∷ jobs) =
    cond_both (is_refreshed slots slot) _ _ (λ js. to_send js ≡ to_send jobs) (λ h. refl) (λ h. to_send-live slots jobs)

-- what a turn sends, and what then is to send, is what was to send
Kept : List Pick → Picked → Type 0
Kept all m = switch_in m.answer ++ to_send m.state.jobs ≡ all

to_send-after : (job : Job) (rest : List Job) → switch_in (pick_of job) ++ to_send (after_send (job ∷ rest)) ≡ to_send (job ∷ rest)
to_send-after (Place slot kind) rest = refl
to_send-after (Request number closed on true) rest = refl
to_send-after (Request number closed on false) rest = refl

module _ (addresses : List ℕ) (s : Scheduled) where
  job_kept : (job : Job) (rest : List Job) → s.jobs ≡ job ∷ rest → Kept (to_send s.jobs) (sent addresses s (Some (FromJobs job)))
  unfolding Kept
  job_kept job rest e = cond_both (is_last s.last (destination_of addresses job)) (idle s) (job_sent addresses s job) (Kept (to_send s.jobs)) (λ h. refl) (λ h. rw e (to_send-after job rest))

  ring_kept : (place : ℕ) → Kept (to_send s.jobs) (sent addresses s (Some (FromRing place)))
  unfolding Kept
  ring_kept place = cond_both (is_last s.last (Loco (address_of addresses (slot_of place)))) (idle s) (place_sent addresses s place) (Kept (to_send s.jobs)) (λ h. refl) (λ h. refl)

  candidate_kept : (jobs : List Job) (o : Option ℕ) (b : Bool) → s.jobs ≡ jobs → Kept (to_send s.jobs) (sent addresses s (candidate b (first_of jobs) o))
  unfolding Kept
  candidate_kept [] None true e = refl
  candidate_kept [] None false e = refl
  candidate_kept [] (Some place) true e = ring_kept place
  candidate_kept [] (Some place) false e = ring_kept place
  candidate_kept (job ∷ rest) o true e = job_kept job rest e
  candidate_kept (job ∷ rest) None false e = job_kept job rest e
  candidate_kept (job ∷ rest) (Some place) false e = ring_kept place

pub picked-kept : (addresses : List ℕ) (s : Scheduled) → switch_in (picked addresses s).answer ++ to_send (picked addresses s).state.jobs ≡ to_send s.jobs
unfolding picked Kept
picked-kept addresses s = candidate_kept addresses (live s) (live s).jobs (next_place s.slots s.cursor) s.prefers_jobs refl ∙ to_send-live s.slots s.jobs

pub changed-kept : (slot : ℕ) (kind : Kind) (s : Scheduled) → to_send (after_changed slot kind s).jobs ≡ to_send s.jobs
changed-kept slot kind s = cond_both (is_refreshed s.slots slot && not (is_queued slot kind s.jobs)) (s.jobs ++ Place slot kind ∷ []) s.jobs (λ js. to_send js ≡ to_send s.jobs) (λ h. to_send-append s.jobs (Place slot kind ∷ []) ∙ append-nil (to_send s.jobs)) (λ h. refl)

pub switch-asked : (number : ℕ) (closed on : Bool) (s : Scheduled) → requests_in s.jobs < most_requests → to_send (after_switch number closed on s).jobs ≡ to_send s.jobs ++ Switch number closed on ∷ Switch number closed on ∷ []
switch-asked number closed on s few =
    let room : nat_lt (requests_in s.jobs) most_requests ≡ true = lt-ltb (requests_in s.jobs) most_requests few in
    rw room (to_send-append s.jobs (Request number closed on true ∷ []))

pub switch-refused : (number : ℕ) (closed on : Bool) (s : Scheduled) → most_requests ≤ requests_in s.jobs → after_switch number closed on s ≡ s
switch-refused number closed on s full =
    let none : nat_lt (requests_in s.jobs) most_requests ≡ false = le-ltb (requests_in s.jobs) most_requests full in
    rw none refl

-- ---- both calls put jobs at the end

pub changed-appends : (slot : ℕ) (kind : Kind) (s : Scheduled) → (more : List Job) × ((after_changed slot kind s).jobs ≡ s.jobs ++ more)
changed-appends slot kind s = cond_both (is_refreshed s.slots slot && not (is_queued slot kind s.jobs)) (s.jobs ++ Place slot kind ∷ []) s.jobs (λ js. (more : List Job) × (js ≡ s.jobs ++ more)) (λ h. (Place slot kind ∷ [], refl)) (λ h. ([], sym (append-nil s.jobs)))

pub switch-appends : (number : ℕ) (closed on : Bool) (s : Scheduled) → (more : List Job) × ((after_switch number closed on s).jobs ≡ s.jobs ++ more)
switch-appends number closed on s = cond_both (nat_lt (requests_in s.jobs) most_requests) (s.jobs ++ Request number closed on true ∷ []) s.jobs (λ js. (more : List Job) × (js ≡ s.jobs ++ more)) (λ h. (Request number closed on true ∷ [], refl)) (λ h. ([], sym (append-nil s.jobs)))

-- ---- all that was to send is sent

sends_of-pos : (job : Job) → 1 ≤ sends_of job
sends_of-pos (Place slot kind) = omega arith
sends_of-pos (Request number closed on true) = omega arith
sends_of-pos (Request number closed on false) = omega arith

sends_in-live : (slots : List Bool) (jobs : List Job) → sends_in (live_jobs slots jobs) ≤ sends_in jobs
sends_in-live slots [] = omega arith
sends_in-live slots (Request number closed on again ∷ jobs) = omega arith
sends_in-live slots (Place slot kind ∷ jobs) =
    cond_both (is_refreshed slots slot) _ _ (λ js. sends_in js ≤ 1 + sends_in jobs) (λ h. omega arith) (λ h. omega (arith, sends_in-live slots jobs))

live-append : (slots : List Bool) (front back : List Job) → (live_jobs slots front ≡ []) ⊎ (live_jobs slots (front ++ back) ≡ live_jobs slots front ++ back)
live-append slots [] back = inl refl
live-append slots (Request number closed on again ∷ front) back = inr refl
live-append slots (Place slot kind ∷ front) back = by (is_refreshed slots slot) (live-append slots front back) where
  by : (b : Bool) → (live_jobs slots front ≡ []) ⊎ (live_jobs slots (front ++ back) ≡ live_jobs slots front ++ back) → ((if b then Place slot kind ∷ front else live_jobs slots front) ≡ []) ⊎ ((if b then Place slot kind ∷ (front ++ back) else live_jobs slots (front ++ back)) ≡ (if b then Place slot kind ∷ front else live_jobs slots front) ++ back)
  by true h = inr refl
  by false h = h

after_send-append : (job : Job) (rest back : List Job) → after_send (job ∷ rest ++ back) ≡ after_send (job ∷ rest) ++ back
after_send-append (Place slot kind) rest back = refl
after_send-append (Request number closed on true) rest back = refl
after_send-append (Request number closed on false) rest back = refl

sends_in-after : (job : Job) (rest : List Job) → sends_in (after_send (job ∷ rest)) + 1 ≡ sends_in (job ∷ rest)
sends_in-after (Place slot kind) rest = omega arith
sends_in-after (Request number closed on true) rest = omega arith
sends_in-after (Request number closed on false) rest = omega arith

module _ (addresses : List ℕ) (s : Scheduled) (job : Job) (rest back : List Job) (e : s.jobs ≡ job ∷ rest ++ back) where
  idle_less : (there : Destination) → is_last s.last there ≡ true → LessLeft (job ∷ rest) back (4 * sends_in (job ∷ rest) + jobs_wait s.prefers_jobs s.last) (idle s)
  idle_less there h = record { left = job ∷ rest; jobs_are = e; sends = refl; falls = omega (arith, wait_idle s.prefers_jobs s.last there h) }

  job_less : LessLeft (job ∷ rest) back (4 * sends_in (job ∷ rest) + jobs_wait s.prefers_jobs s.last) (sent addresses s (Some (FromJobs job)))
  job_less = cond_both (is_last s.last (destination_of addresses job)) _ _ (LessLeft (job ∷ rest) back (4 * sends_in (job ∷ rest) + jobs_wait s.prefers_jobs s.last))
      (idle_less (destination_of addresses job))
      (λ h. record {
        left = after_send (job ∷ rest);
        jobs_are = rw e (after_send-append job rest back);
        sends = to_send-after job rest;
        falls = omega (arith, sends_in-after job rest, wait_jobs s.prefers_jobs s.last);
      })

  ring_less : (place : ℕ) → s.prefers_jobs ≡ false → LessLeft (job ∷ rest) back (4 * sends_in (job ∷ rest) + jobs_wait s.prefers_jobs s.last) (sent addresses s (Some (FromRing place)))
  ring_less place prefers = cond_both (is_last s.last (Loco (address_of addresses (slot_of place)))) _ _ (LessLeft (job ∷ rest) back (4 * sends_in (job ∷ rest) + jobs_wait s.prefers_jobs s.last))
      (idle_less (Loco (address_of addresses (slot_of place))))
      (λ h. record { left = job ∷ rest; jobs_are = e; sends = refl; falls = rw prefers (omega (arith, wait_ring s.last)) })

  candidate_less : (o : Option ℕ) (b : Bool) → s.prefers_jobs ≡ b → LessLeft (job ∷ rest) back (4 * sends_in (job ∷ rest) + jobs_wait s.prefers_jobs s.last) (sent addresses s (candidate b (Some job) o))
  candidate_less o true prefers = job_less
  candidate_less None false prefers = job_less
  candidate_less (Some place) false prefers = ring_less place prefers

LessLeft-wider : (front live' back : List Job) (few many : ℕ) (m : Picked) → to_send live' ≡ to_send front → few ≤ many → LessLeft live' back few m → LessLeft front back many m
LessLeft-wider front live' back few many m same fewer less = record {
  left = less.left;
  jobs_are = less.jobs_are;
  sends = less.sends ∙ same;
  falls = omega (arith, less.falls);
}

less_by : (addresses : List ℕ) (s : Scheduled) (front back first : List Job) → live_jobs s.slots front ≡ first → live_jobs s.slots s.jobs ≡ first ++ back → (to_send front ≡ []) ⊎ LessLeft front back (4 * sends_in front + jobs_wait s.prefers_jobs s.last) (picked addresses s)
unfolding picked
less_by addresses s front back [] e f = inl (sym (to_send-live s.slots front) ∙ ap to_send e)
less_by addresses s front back (job ∷ rest) e f = inr (LessLeft-wider front (job ∷ rest) back (4 * sends_in (job ∷ rest) + jobs_wait s.prefers_jobs s.last) (4 * sends_in front + jobs_wait s.prefers_jobs s.last) (picked addresses s)
    (sym (ap to_send e) ∙ to_send-live s.slots front)
    (let h : sends_in (live_jobs s.slots front) ≤ sends_in front = sends_in-live s.slots front in
    let h' : sends_in (job ∷ rest) ≤ sends_in front = rw e at h in
    omega arith)
    less) where
      less : LessLeft (job ∷ rest) back (4 * sends_in (job ∷ rest) + jobs_wait s.prefers_jobs s.last) (picked addresses s)
      less =
          let first : first_of (live_jobs s.slots s.jobs) ≡ Some job = ap first_of f in
          rw first (candidate_less addresses (live s) job rest back f (next_place s.slots s.cursor) s.prefers_jobs refl)

pub turn_less : (addresses : List ℕ) (s : Scheduled) (front back : List Job) → s.jobs ≡ front ++ back → (to_send front ≡ []) ⊎ LessLeft front back (4 * sends_in front + jobs_wait s.prefers_jobs s.last) (picked addresses s)
turn_less addresses s front back e = elim (live-append s.slots front back) [
  | inl none ↦ inl (sym (to_send-live s.slots front) ∙ ap to_send none)
  | inr parts ↦ less_by addresses s front back (live_jobs s.slots front) refl (ap (live_jobs s.slots) e ∙ parts)
]

-- where no more than 4 turns are left, all was sent
pub done : (s : Scheduled) (front : List Job) → turns_for front s ≤ 4 → to_send front ≡ []
done s [] few = refl
done s (job ∷ front) few = absurd (omega (arith, sends_of-pos job, wait_jobs s.prefers_jobs s.last))

pub turns_for-most : (s : Scheduled) → IsQueue s.jobs → turns_for s.jobs s ≤ turns_to_empty + 4
turns_for-most s queue = omega (arith, few_sends s.jobs queue, wait_most s.prefers_jobs s.last)
