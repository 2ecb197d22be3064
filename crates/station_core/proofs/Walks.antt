-- Changes first, and switches twice, in order, from the laws of one turn.
use Rattle.std.proofs.Common.{◌≡◌, ℕ, ◌+◌, ◌*◌, ◌<◌, ◌≤◌, ◌&&◌, nat_le, nat_lt, if◌then◌else◌, Bool, true, false, List, [], ◌∷◌, ◌++◌, Option, Some, None, refl, sym, ap, subst, ◌∙◌, arith, inl, inr, ◌⊎◌, append_assoc, append-nil}
use Rattle.std.proofs.lemmas.Bool.{cases_lt, le-ltb, lt-ltb}
use Rattle.dcc_packet.specs.Sent.{last_switch}
use Rattle.ln_ops.specs.declared.op.Op.{Op}
use Rattle.ln_ops.specs.declared.op.Op.TheVariants.{SwReq, SwAck}
use Rattle.ln_ops.specs.Message.{op_of}
use Rattle.slot_table.specs.Desk.{Desk}
use Rattle.slot_table.specs.Entry.{IsSlot}
use Rattle.refresh_ring.specs.Places.{is_refreshed as is_slot_on}
use Rattle.refresh_ring.specs.Jobs.{requests_in, sends_ahead}
use Rattle.refresh_ring.specs.Scheduled.{Scheduled, after_changed, after_switch, with_request}
use Rattle.refresh_ring.specs.Picked.{picked, turned}
use Rattle.refresh_ring.specs.Left.{turns_ahead, turns_for, turns_to_empty}
use Rattle.refresh_ring.specs.Sent.{to_send, switch_in, LessLeft}
use Rattle.refresh_ring.specs.declared.kind.Kind.{Kind}
use Rattle.refresh_ring.specs.declared.job.Job.{Job}
use Rattle.refresh_ring.specs.declared.pick.Pick.{Pick}
use Rattle.refresh_ring.specs.declared.pick.Pick.TheVariants.{Place, Switch}
use Rattle.refresh_ring.specs.declared.pick.Power.{Power}
use Rattle.refresh_ring.specs.declared.pick.Power.TheVariants as power
use Rattle.station_core.specs.After.{desk_after}
use Rattle.station_core.specs.Answer.{is_taken}
use Rattle.station_core.specs.Schedule.{after_places, after_request, changed_places, schedule_asked}
use Rattle.station_core.specs.Station.{moved, message_ended, after_message, turn_of}
use Rattle.station_core.specs.Moments.{turns_in}
use Rattle.station_core.specs.Promises.{twice_if, asked_by_op, asked_by_message, asked_by, switches_asked}
use Rattle.station_core.specs.Slots.{refreshed_slots, addresses}
use Rattle.station_core.specs.Runs.{state_of, state_after, Sends}
use Rattle.station_core.specs.Seen.{Seen, scheduled}
use Rattle.station_core.specs.declared.call.Call.{Call}
use Rattle.station_core.specs.declared.call.Call.TheVariants.{Byte, Turn}
use Rattle.station_core.proofs.Agreeing.{AtEach}
use Rattle.station_core.proofs.Picks.{slot_on}
use Rattle.station_core.proofs.Rounds.{Live}

-- what holds of each changed place and of each request holds of a message
module _ (R : Scheduled → Scheduled → Type 0) (same : (s : Scheduled) → R s s) (chain : (s t u : Scheduled) → R s t → R t u → R s u)
    (place : (slot : ℕ) (kind : Kind) (s : Scheduled) → R s (after_changed slot kind s)) where
  of_places : (places : List (ℕ × Kind)) (s : Scheduled) → R s (after_places places s)
  of_places [] s = same s
  of_places (p ∷ places) s = chain s (after_changed p.0 p.1 s) (after_places places (after_changed p.0 p.1 s)) (place p.0 p.1 s) (of_places places (after_changed p.0 p.1 s))

  of_op : ((number : ℕ) (closed on : Bool) (s : Scheduled) → R s (after_request number closed on s)) → (desk : Desk) (op : Op) (s : Scheduled) → R s (schedule_asked desk op s)
  of_op asked desk (SwReq number closed on) s = asked number closed on s
  of_op asked desk (SwAck number closed on) s = asked number closed on s
  of_op asked desk op s = of_places (changed_places desk op) s

-- a request that is taken or not
by_request : (P : List Job → Type 0) (b : Bool) (some none : List Job) → P some → P none → P (if b then some else none)
by_request P true some none h k = h
by_request P false some none h k = k

-- ---- changes first

module _ (falls : (slot : ℕ) (kind : Kind) (addresses : List ℕ) (s : Scheduled) (n : ℕ) → turns_ahead slot kind s ≡ Some n → is_slot_on s.slots slot ≡ true → ((picked addresses s).answer ≡ Place slot kind) ⊎ ((m : ℕ) × (turns_ahead slot kind (picked addresses s).state ≡ Some m) × (m + 1 ≤ n)))
    (least : (slot : ℕ) (kind : Kind) (s : Scheduled) (n : ℕ) → turns_ahead slot kind s ≡ Some n → 1 ≤ n)
    (changed : (slot : ℕ) (kind : Kind) (other : ℕ) (other_kind : Kind) (s : Scheduled) (n : ℕ) → turns_ahead slot kind s ≡ Some n → turns_ahead slot kind (after_changed other other_kind s) ≡ Some n)
    (switched : (slot : ℕ) (kind : Kind) (number : ℕ) (closed on : Bool) (s : Scheduled) (n : ℕ) → turns_ahead slot kind s ≡ Some n → turns_ahead slot kind (after_switch number closed on s) ≡ Some n)
    (slot : ℕ) (kind : Kind) (is : IsSlot slot) where
  Ahead : Scheduled → Scheduled → Type 0
  Ahead s t = (n : ℕ) → turns_ahead slot kind s ≡ Some n → turns_ahead slot kind t ≡ Some n

  ahead_request : (number : ℕ) (closed on : Bool) (s : Scheduled) → Ahead s (after_request number closed on s)
  unfolding Ahead
  ahead_request number closed on s n h =
      by_request (λ (jobs : List Job). turns_ahead slot kind (record s { jobs = jobs }) ≡ Some n) (nat_le number last_switch) (with_request number closed on s.jobs) s.jobs (switched slot kind number closed on s n h) h

  ahead_op : (desk : Desk) (op : Op) (s : Scheduled) → Ahead s (schedule_asked desk op s)
  unfolding Ahead
  ahead_op = of_op Ahead (λ s n h. h) (λ s t u f g n h. g n (f n h)) (λ other other_kind s n h. changed slot kind other other_kind s n h) ahead_request

  ahead_message : (seen : Seen) (message : Option (List ℕ)) → Ahead (scheduled seen) (scheduled (after_message seen message))
  unfolding Ahead
  ahead_message seen None n h = h
  ahead_message seen (Some message) n h =
      let schedule = scheduled seen in
      ahead_op seen.powered.desk (op_of message) (record schedule { slots = refreshed_slots (desk_after seen.powered.desk (op_of message)) }) n h

  reaches : (seen : Seen) (calls : List Call) (n : ℕ) → turns_ahead slot kind (scheduled seen) ≡ Some n → AtEach (Live slot) seen calls → n ≤ turns_in calls → Sends slot kind seen calls
  unfolding moved Ahead
  reaches seen [] n h live enough = absurd (omega (arith, least slot kind (scheduled seen) n h))
  reaches seen (Byte line byte ∷ calls) n h live enough =
      reaches (state_of seen (Byte line byte)) calls n (ahead_message seen (message_ended seen line byte) n h) live.1 (omega arith)
  reaches seen (Turn ∷ calls) n h live enough =
      let running = live.0.running in
      elim (falls slot kind (addresses seen.powered.desk) (scheduled seen) n h (slot_on seen.powered.desk slot is ∙ live.0.refreshed)) [
        | inl e ↦ inl (rw (running, e) refl)
        | inr nearer ↦ inr (reaches (state_of seen Turn) calls nearer.0 (rw running nearer.1) live.1 (omega (arith, nearer.2)))
      ]

  pub reaches_within : ((s : Scheduled) (q : ℕ) → sends_ahead slot kind s.jobs ≡ Some q → (n : ℕ) × (turns_ahead slot kind s ≡ Some n) × (n ≤ 4 * (q + 1))) → (start : Seen) (calls : List Call) (q : ℕ) → sends_ahead slot kind start.jobs ≡ Some q → AtEach (Live slot) start calls → 4 * (q + 1) ≤ turns_in calls → Sends slot kind start calls
  reaches_within most start calls q h live enough =
      let n = most (scheduled start) q h in
      reaches start calls n.0 n.1 live (omega (arith, n.2))

-- ---- switches, by what is picked

-- the switch that a call sends, if it sends one
abbrev pub sent_by : Seen → Call → List Pick
sent_by seen (Byte line byte) = []
sent_by seen Turn = switch_in (turn_of seen).answer

abbrev pub picks_sent : Seen → List Call → List Pick
picks_sent seen [] = []
picks_sent seen (call ∷ calls) = sent_by seen call ++ picks_sent (state_of seen call) calls

abbrev pub IsFront : List Pick → List Pick → Type 0
IsFront front all = (rest : List Pick) × (front ++ rest ≡ all)

abbrev pub Runs : Seen → Type 0
Runs seen = seen.powered.power ≡ power.Running

Kept : Scheduled → Scheduled → Type 0
Kept s t = to_send t.jobs ≡ to_send s.jobs

module _ (turn : (addresses : List ℕ) (s : Scheduled) → switch_in (picked addresses s).answer ++ to_send (picked addresses s).state.jobs ≡ to_send s.jobs)
    (changed : (slot : ℕ) (kind : Kind) (s : Scheduled) → to_send (after_changed slot kind s).jobs ≡ to_send s.jobs)
    (asked : (number : ℕ) (closed on : Bool) (s : Scheduled) → requests_in s.jobs < 32 → to_send (after_switch number closed on s).jobs ≡ to_send s.jobs ++ Switch number closed on ∷ Switch number closed on ∷ [])
    (refused : (number : ℕ) (closed on : Bool) (s : Scheduled) → 32 ≤ requests_in s.jobs → after_switch number closed on s ≡ s) where
  kept_places : (places : List (ℕ × Kind)) (s : Scheduled) → to_send (after_places places s).jobs ≡ to_send s.jobs ++ []
  kept_places [] s = sym (append-nil (to_send s.jobs))
  kept_places (p ∷ places) s = kept_places places (after_changed p.0 p.1 s) ∙ ap (λ (xs : List Pick). xs ++ []) (changed p.0 p.1 s)

  kept_same : (s : Scheduled) → to_send s.jobs ≡ to_send s.jobs ++ []
  kept_same s = sym (append-nil (to_send s.jobs))

  -- where there is such a switch
  kept_switch : (number : ℕ) (closed on : Bool) (s : Scheduled) → to_send (with_request number closed on s.jobs) ≡ to_send s.jobs ++ twice_if (nat_lt (requests_in s.jobs) 32) (Switch number closed on)
  kept_switch number closed on s = elim (cases_lt (requests_in s.jobs) 32) [
    | inl room ↦ asked number closed on s room ∙ ap (λ (b : Bool). to_send s.jobs ++ twice_if b (Switch number closed on)) (sym (lt-ltb (requests_in s.jobs) 32 room))
    | inr full ↦
        ap (λ (t : Scheduled). to_send t.jobs) (refused number closed on s full) ∙ kept_same s
        ∙ ap (λ (b : Bool). to_send s.jobs ++ twice_if b (Switch number closed on)) (sym (le-ltb (requests_in s.jobs) 32 full))
  ]

  kept_request : (number : ℕ) (closed on : Bool) (s : Scheduled) → to_send (after_request number closed on s).jobs ≡ to_send s.jobs ++ twice_if (is_taken number (requests_in s.jobs)) (Switch number closed on)
  kept_request number closed on s = by_number (nat_le number last_switch)
    where
      by_number : (b : Bool) → to_send (if b then with_request number closed on s.jobs else s.jobs) ≡ to_send s.jobs ++ twice_if (b && nat_lt (requests_in s.jobs) 32) (Switch number closed on)
      by_number true = kept_switch number closed on s
      by_number false = kept_same s

  kept_op : (seen : Seen) (op : Op) (s : Scheduled) → requests_in s.jobs ≡ requests_in seen.jobs → to_send (schedule_asked seen.powered.desk op s).jobs ≡ to_send s.jobs ++ asked_by_op seen op
  kept_op seen (SwReq number closed on) s e = rw (← e) (kept_request number closed on s)
  kept_op seen (SwAck number closed on) s e = rw (← e) (kept_request number closed on s)
  kept_op seen op s e = kept_places (changed_places seen.powered.desk op) s

  kept_message : (seen : Seen) (message : Option (List ℕ)) → to_send (after_message seen message).jobs ≡ to_send seen.jobs ++ asked_by_message seen message
  kept_message seen None = kept_same (scheduled seen)
  kept_message seen (Some message) =
      let schedule = scheduled seen in
      kept_op seen (op_of message) (record schedule { slots = refreshed_slots (desk_after seen.powered.desk (op_of message)) }) refl

  kept_turned : (p : Power) (addresses : List ℕ) (s : Scheduled) → switch_in (turned p addresses s).answer ++ to_send (turned p addresses s).state.jobs ≡ to_send s.jobs
  kept_turned power.Off addresses s = refl
  kept_turned power.Running addresses s = turn addresses s
  kept_turned power.Paused addresses s = refl

  -- what a call sends, and what then is to send, is what was to send and what it asks
  pub kept_call : (seen : Seen) (call : Call) → sent_by seen call ++ to_send (state_of seen call).jobs ≡ to_send seen.jobs ++ asked_by seen call
  unfolding moved
  kept_call seen (Byte line byte) = kept_message seen (message_ended seen line byte)
  kept_call seen Turn = kept_turned seen.powered.power (addresses seen.powered.desk) (scheduled seen) ∙ sym (append-nil (to_send seen.jobs))

  pub in_order : (start : Seen) (calls : List Call) → picks_sent start calls ++ to_send (state_after start calls).jobs ≡ to_send start.jobs ++ switches_asked start calls
  in_order start [] = sym (append-nil (to_send start.jobs))
  in_order start (call ∷ calls) =
      append_assoc (sent_by start call) (picks_sent (state_of start call) calls) (to_send (state_after (state_of start call) calls).jobs)
      ∙ ap (λ (xs : List Pick). sent_by start call ++ xs) (in_order (state_of start call) calls)
      ∙ sym (append_assoc (sent_by start call) (to_send (state_of start call).jobs) (switches_asked (state_of start call) calls))
      ∙ ap (λ (xs : List Pick). xs ++ switches_asked (state_of start call) calls) (kept_call start call)
      ∙ append_assoc (to_send start.jobs) (asked_by start call) (switches_asked (state_of start call) calls)

front_more : (xs ys zs : List Pick) → IsFront ys zs → IsFront (xs ++ ys) (xs ++ zs)
front_more xs ys zs h = (h.0, append_assoc xs ys h.0 ∙ ap (λ (ws : List Pick). xs ++ ws) h.1)

module _ (falls : (addresses : List ℕ) (s : Scheduled) (front back : List Job) → s.jobs ≡ front ++ back → (to_send front ≡ []) ⊎ LessLeft front back (turns_for front s) (picked addresses s))
    (done : (s : Scheduled) (front : List Job) → turns_for front s ≤ 4 → to_send front ≡ [])
    (changed : (slot : ℕ) (kind : Kind) (s : Scheduled) → (more : List Job) × ((after_changed slot kind s).jobs ≡ s.jobs ++ more))
    (asked : (number : ℕ) (closed on : Bool) (s : Scheduled) → (more : List Job) × ((after_switch number closed on s).jobs ≡ s.jobs ++ more)) where
  Behind : Scheduled → Scheduled → Type 0
  Behind s t = ((more : List Job) × (t.jobs ≡ s.jobs ++ more)) × (t.last ≡ s.last) × (t.prefers_jobs ≡ s.prefers_jobs)

  behind_request : (number : ℕ) (closed on : Bool) (s : Scheduled) → Behind s (after_request number closed on s)
  unfolding Behind
  behind_request number closed on s =
      (by_request (λ (jobs : List Job). (more : List Job) × (jobs ≡ s.jobs ++ more)) (nat_le number last_switch) (with_request number closed on s.jobs) s.jobs (asked number closed on s) ([], sym (append-nil s.jobs)), refl, refl)

  chained : (s t u : Scheduled) → Behind s t → Behind t u → Behind s u
  unfolding Behind
  chained s t u f g = ((f.0.0 ++ g.0.0, g.0.1 ∙ ap (λ (js : List Job). js ++ g.0.0) f.0.1 ∙ append_assoc s.jobs f.0.0 g.0.0), g.1 ∙ f.1, g.2 ∙ f.2)

  behind_op : (desk : Desk) (op : Op) (s : Scheduled) → Behind s (schedule_asked desk op s)
  unfolding Behind
  behind_op = of_op Behind (λ s. (([], sym (append-nil s.jobs)), refl, refl)) chained (λ slot kind s. (changed slot kind s, refl, refl)) behind_request

  behind_message : (seen : Seen) (message : Option (List ℕ)) → Behind (scheduled seen) (scheduled (after_message seen message))
  unfolding Behind
  behind_message seen None = (([], sym (append-nil seen.jobs)), refl, refl)
  behind_message seen (Some message) =
      let schedule = scheduled seen in
      behind_op seen.powered.desk (op_of message) (record schedule { slots = refreshed_slots (desk_after seen.powered.desk (op_of message)) })

  drains : (front back : List Job) (seen : Seen) (calls : List Call) → seen.jobs ≡ front ++ back → AtEach Runs seen calls → turns_for front (scheduled seen) ≤ turns_in calls + 4 → IsFront (to_send front) (picks_sent seen calls)
  unfolding moved Behind
  drains front back seen [] e runs enough = rw (done (scheduled seen) front enough) ([], refl)
  drains front back seen (Byte line byte ∷ calls) e runs enough =
      let after = behind_message seen (message_ended seen line byte) in
      let jobs = after.0.1 ∙ ap (λ (js : List Job). js ++ after.0.0) e ∙ append_assoc front back after.0.0 in
      drains front (back ++ after.0.0) (state_of seen (Byte line byte)) calls jobs runs.1 (rw (after.1, after.2) (omega arith))
  drains front back seen (Turn ∷ calls) e runs enough = elim (falls (addresses seen.powered.desk) (scheduled seen) front back e) [
    | inl none ↦ rw none (picks_sent seen (Turn ∷ calls), refl)
    | inr less ↦
        let running : seen.powered.power ≡ power.Running = runs.0 in
        let rest : IsFront (to_send less.left) (picks_sent (state_of seen Turn) calls) = drains less.left back (state_of seen Turn) calls (rw running less.jobs_are) runs.1 (rw running (omega (arith, less.falls))) in
        let answer : switch_in (turn_of seen).answer ≡ switch_in (picked (addresses seen.powered.desk) (scheduled seen)).answer = rw running refl in
        let sends : switch_in (turn_of seen).answer ++ to_send less.left ≡ to_send front = ap (λ (xs : List Pick). xs ++ to_send less.left) answer ∙ less.sends in
        subst (λ (xs : List Pick). IsFront xs (picks_sent seen (Turn ∷ calls))) sends (front_more (switch_in (turn_of seen).answer) (to_send less.left) (picks_sent (state_of seen Turn) calls) rest)
  ]

  pub all_sent : (start : Seen) (calls : List Call) → turns_for start.jobs (scheduled start) ≤ turns_to_empty + 4 → AtEach Runs start calls → turns_to_empty ≤ turns_in calls → IsFront (to_send start.jobs) (picks_sent start calls)
  all_sent start calls few runs enough = drains start.jobs [] start calls (sym (append-nil start.jobs)) runs (omega arith)
