-- Coverage, from the four-turn law of the ring.
use Rattle.std.proofs.Common.{◌≡◌, ℕ, ◌+◌, ◌-◌, ◌*◌, ◌≤◌, ◌⊎◌, Bool, true, false, nat_le, List, [], ◌∷◌, Option, Some, None, get_or, refl, ap, sym, ◌∙◌, arith, inl, inr, zero, suc}
use Rattle.std.proofs.lemmas.Bool.{and_parts, or_left, or_right, cases_lt, both_ways}
use Rattle.std.proofs.Math.ListN.{get_or-eq_default}
use Rattle.ln_ops.specs.declared.op.Op.{Op}
use Rattle.ln_ops.specs.declared.op.Op.TheVariants.{SwReq, SwAck}
use Rattle.ln_ops.specs.Message.{op_of}
use Rattle.slot_table.specs.Desk.{Desk}
use Rattle.slot_table.specs.Entry.{IsSlot}
use Rattle.dcc_packet.specs.Kinds.{kinds}
use Rattle.refresh_ring.specs.Places.{is_refreshed as is_slot_on}
use Rattle.refresh_ring.specs.Scheduled.{Scheduled, after_changed}
use Rattle.refresh_ring.specs.Picked.{picked}
use Rattle.refresh_ring.specs.Left.{count_to, turns_left}
use Rattle.refresh_ring.specs.declared.kind.Kind.{Kind}
use Rattle.refresh_ring.specs.declared.pick.Pick.TheVariants.{Place}
use Rattle.station_core.specs.After.{desk_after}
use Rattle.station_core.specs.Schedule.{after_places, after_request, changed_places, schedule_asked}
use Rattle.station_core.specs.Station.{moved, message_ended, after_message, after_byte}
use Rattle.station_core.specs.Refreshed.{is_refreshed}
use Rattle.station_core.specs.Slots.{refreshed_slots, addresses}
use Rattle.station_core.specs.ThrottleView.{ThrottleView, known_after}
use Rattle.station_core.specs.Moments.{ever_refreshed, turns_in, IsLive}
use Rattle.station_core.specs.Powered.{PoweredDesk}
use Rattle.station_core.specs.Runs.{state_of, Sends, Covers}
use Rattle.station_core.specs.Seen.{Seen, known_of, scheduled}
use Rattle.station_core.specs.declared.call.Call.{Call}
use Rattle.station_core.specs.declared.call.Call.TheVariants.{Byte, Turn}
use Rattle.station_core.proofs.Agreeing.{Enough, Agree, agree_at_first, agree_after, AtEach, moments}
use Rattle.station_core.proofs.Counted.{counted}
use Rattle.station_core.proofs.Picks.{slot_on}
use Rattle.station_core.proofs.Steps.{length-refreshed_slots}

-- what the ring's law gives
abbrev pub Falls : Type 0
Falls = (ever : ℕ → Bool) (slot : ℕ) (kind : Kind) (addresses : List ℕ) (s : Scheduled) → IsSlot slot → is_slot_on s.slots slot ≡ true → ((n : ℕ) → is_slot_on s.slots n ≡ true → ever n ≡ true) → ((picked addresses s).answer ≡ Place slot kind) ⊎ (turns_left ever slot kind (picked addresses s).state + 1 ≤ turns_left ever slot kind s)

abbrev pub Least : Type 0
Least = (ever : ℕ → Bool) (slot : ℕ) (kind : Kind) (s : Scheduled) → IsSlot slot → ever slot ≡ true → 1 ≤ turns_left ever slot kind s

abbrev pub Most : Type 0
Most = (ever : ℕ → Bool) (slot : ℕ) (kind : Kind) (s : Scheduled) → IsSlot slot → ever slot ≡ true → turns_left ever slot kind s ≤ 4 * kinds * count_to ever 119

-- a slot that the schedule refreshes is one of the desk
pub on_desk : (desk : Desk) (n : ℕ) → is_slot_on (refreshed_slots desk) n ≡ true → is_refreshed desk n ≡ true
on_desk desk zero h = cc
on_desk desk (suc n) h = elim (cases_lt n 119) [
  | inl low ↦ sym (slot_on desk (suc n) (omega arith, omega arith)) ∙ h
  | inr past ↦
      let none : get_or (refreshed_slots desk) (suc n - 1) false ≡ false = get_or-eq_default (refreshed_slots desk) false (omega (arith, length-refreshed_slots desk)) in
      absurd (both_ways (get_or (refreshed_slots desk) (suc n - 1) false) none (and_parts (nat_le 1 (suc n)) (get_or (refreshed_slots desk) (suc n - 1) false) h).1)
]

-- messages leave what the number is made of
pub record SameRing (s t : Scheduled) : Type 0 where
  pub cursor : t.cursor ≡ s.cursor
  pub last : t.last ≡ s.last
  pub prefers : t.prefers_jobs ≡ s.prefers_jobs

same : (s : Scheduled) → SameRing s s
same s = record { cursor = refl; last = refl; prefers = refl }

places_same : (places : List (ℕ × Kind)) (s : Scheduled) → SameRing s (after_places places s)
places_same [] s = same s
places_same (p ∷ places) s =
    let rest = places_same places (after_changed p.0 p.1 s) in
    record { cursor = rest.cursor; last = rest.last; prefers = rest.prefers }

request_same : (number : ℕ) (closed on : Bool) (s : Scheduled) → SameRing s (after_request number closed on s)
request_same number closed on s = record { cursor = refl; last = refl; prefers = refl }

asked_same : (desk : Desk) (op : Op) (s : Scheduled) → SameRing s (schedule_asked desk op s)
asked_same desk (SwReq number closed on) s = request_same number closed on s
asked_same desk (SwAck number closed on) s = request_same number closed on s
asked_same desk op s = places_same (changed_places desk op) s

pub message_same : (seen : Seen) (message : Option (List ℕ)) → SameRing (scheduled seen) (scheduled (after_message seen message))
message_same seen None = same (scheduled seen)
message_same seen (Some message) =
    let asked = asked_same seen.powered.desk (op_of message) (record (scheduled seen) { slots = refreshed_slots (desk_after seen.powered.desk (op_of message)) }) in
    record { cursor = asked.cursor; last = asked.last; prefers = asked.prefers }

byte_same : (ever : ℕ → Bool) (slot : ℕ) (kind : Kind) (seen : Seen) (line byte : ℕ) → turns_left ever slot kind (scheduled (after_byte seen line byte)) ≡ turns_left ever slot kind (scheduled seen)
byte_same ever slot kind seen line byte =
    let kept = message_same seen (message_ended seen line byte) in
    rw (kept.cursor, kept.last, kept.prefers) refl

abbrev Knows : (ℕ → Bool) → Seen → Type 0
Knows ever seen = (n : ℕ) → is_refreshed seen.powered.desk n ≡ true → ever n ≡ true

all_known : (enough : Enough) (ever : ℕ → Bool) (seen : Seen) (known : ThrottleView) (calls : List Call) → Agree seen known → ((n : ℕ) → ever_refreshed known calls n ≡ true → ever n ≡ true) → AtEach (Knows ever) seen calls
all_known enough ever seen known [] agree within = λ n h. within n (ap (λ (p : PoweredDesk). is_refreshed p.desk n) (sym agree.powered) ∙ h)
all_known enough ever seen known (call ∷ calls) agree within = (
  λ n h. within n (or_left (is_refreshed known.powered.desk n) (ever_refreshed (known_after known call) calls n) (ap (λ (p : PoweredDesk). is_refreshed p.desk n) (sym agree.powered) ∙ h)),
  all_known enough ever (state_of seen call) (known_after known call) calls (agree_after enough seen known call agree)
      (λ n h. within n (or_right (is_refreshed known.powered.desk n) (ever_refreshed (known_after known call) calls n) h)),
)

now : (P : Seen → Type 0) (seen : Seen) (calls : List Call) → AtEach P seen calls → P seen
now P seen [] h = h
now P seen (call ∷ calls) h = h.0

-- power runs and the slot is refreshed
abbrev pub Live : ℕ → Seen → Type 0
Live slot seen = IsLive slot seen.powered

module _ (falls : Falls) (least : Least) (ever : ℕ → Bool) (slot : ℕ) (kind : Kind) (is : IsSlot slot) where
  covers : (seen : Seen) (calls : List Call) → AtEach (Live slot) seen calls → AtEach (Knows ever) seen calls → turns_left ever slot kind (scheduled seen) ≤ turns_in calls → Sends slot kind seen calls
  unfolding moved
  covers seen [] live known enough = absurd (omega (arith, least ever slot kind (scheduled seen) is (known slot live.refreshed)))
  covers seen (Byte line byte ∷ calls) live known enough =
      covers (state_of seen (Byte line byte)) calls live.1 known.1 (omega (arith, byte_same ever slot kind seen line byte))
  covers seen (Turn ∷ calls) live known enough =
      let running = live.0.running in
      elim (falls ever slot kind (addresses seen.powered.desk) (scheduled seen) is (slot_on seen.powered.desk slot is ∙ live.0.refreshed) (λ n h. known.0 n (on_desk seen.powered.desk n h))) [
        | inl e ↦ inl (rw (running, e) refl)
        | inr less ↦ inr (covers (state_of seen Turn) calls live.1 known.1 (rw running (omega arith)))
      ]

pub coverage_from : Enough → Falls → Least → Most → (start : Seen) (calls : List Call) → Covers start calls
coverage_from enough falls least most start calls slot kind is full =
    let begin : ThrottleView = known_of start in
    let ever : ℕ → Bool = ever_refreshed begin calls in
    let live = moments enough (IsLive slot) start begin calls (agree_at_first start) full.live in
    let known = all_known enough ever start begin calls (agree_at_first start) (λ n h. h) in
    let counts : ever slot ≡ true = now (Knows ever) start calls known slot (now (Live slot) start calls live).refreshed in
    covers falls least ever slot kind is start calls live known (omega (arith, most ever slot kind (scheduled start) is counts, full.enough, counted ever))
