-- No two neighbouring packets go to one decoder.
use Rattle.std.proofs.Common.{◌≡◌, ℕ, ◌+◌, ◌-◌, ◌*◌, ◌/◌, ◌%◌, ◌<◌, ◌≤◌, ◌⊎◌, nat_lt, nat_le, nat_eq, if◌then◌else◌, Bool, true, false, List, [], ◌∷◌, ◌++◌, Option, Some, None, zero, suc, length, get_or, refl, ap, sym, subst, ◌∙◌, arith, inl, inr}
use Rattle.std.proofs.lemmas.Bool.{and_parts, cases_lt, lt-ltb, le-ltb, leb-true, both_ways}
use Rattle.std.proofs.Math.ListN.{get_or-eq_default}
use Rattle.std.specs.List.{AllByRecursion, slice_index_or}
use Rattle.dcc_packet.specs.Sent.{accessory_bytes, idle_bytes, last_switch}
use Rattle.dcc_packet.specs.Form.{bit, to_decoder}
use Rattle.ln_ops.specs.Message.{op_of}
use Rattle.ln_ops.specs.declared.op.Op.{Op}
use Rattle.ln_ops.specs.declared.op.Op.TheVariants.{SwReq, SwAck}
use Rattle.ln_ops.specs.declared.reply.Reply.{Reply as ReplyOf}
use Rattle.slot_table.specs.Desk.{Desk}
use Rattle.slot_table.specs.Entry.{entry_of}
use Rattle.slot_table.specs.Reading.{row_of}
use Rattle.refresh_ring.specs.Jobs.{IsJob, requests_in, most_requests}
use Rattle.refresh_ring.specs.Picked.{address_of, module_of, picked, turned}
use Rattle.refresh_ring.specs.Places.{is_refreshed as is_slot_on}
use Rattle.refresh_ring.specs.Scheduled.{Scheduled}
use Rattle.refresh_ring.specs.Sent.{goes_to, IsApart, IsDue, to_send}
use Rattle.refresh_ring.specs.declared.job.Destination.{Destination}
use Rattle.refresh_ring.specs.declared.job.Destination.TheVariants.{Loco, Module}
use Rattle.refresh_ring.specs.declared.job.Job.{Job}
use Rattle.refresh_ring.specs.declared.job.Job.TheVariants.{Place as PlaceJob, Request}
use Rattle.refresh_ring.specs.declared.pick.Pick.{Pick}
use Rattle.refresh_ring.specs.declared.pick.Pick.TheVariants.{Off, StopAll, Idle, Place, Switch}
use Rattle.refresh_ring.specs.declared.pick.Power.{Power}
use Rattle.refresh_ring.specs.declared.pick.Power.TheVariants as power
use Rattle.station_core.specs.Answer.{is_taken}
use Rattle.station_core.specs.Station.{moved, answer_to_byte, message_ended, packet_of, replied, sent, turn_of}
use Rattle.station_core.specs.Neighbours.{address_in, destination_of, AreApart, NeighboursApart}
use Rattle.station_core.specs.Packets.{address_sent, place_packet}
use Rattle.station_core.specs.Promises.{asked_by, asked_by_message, asked_by_op, twice_if}
use Rattle.station_core.specs.Runs.{answers, packets_in, state_of}
use Rattle.station_core.specs.Seen.{Seen, scheduled}
use Rattle.station_core.specs.Slots.{addresses, refreshed_slots}
use Rattle.station_core.specs.declared.call.Call.{Call}
use Rattle.station_core.specs.declared.call.Call.TheVariants.{Byte, Turn}
use Rattle.station_core.specs.declared.call.Step.{Step}
use Rattle.station_core.proofs.Rounds.{message_same}
use Rattle.station_core.proofs.Steps.{get-addresses, length-refreshed_slots}
use Rattle.station_core.proofs.Switches.{of_entry}
use Rattle.station_core.proofs.Walks.{sent_by}

-- the packet goes there, or to no one decoder
abbrev Coarser : Option Destination → Option Destination → Type 0
Coarser reported there = (reported ≡ there) ⊎ (reported ≡ None)

coarse_if : (b : Bool) (reported : Option Destination) (there : Option Destination) → Coarser reported there → Coarser (if b then None else reported) there
coarse_if true reported there c = inr refl
coarse_if false reported there c = c

short_in : (first second : ℕ) → first < 128 → address_in first second ≡ Loco first
short_in first second low = rw (lt-ltb first 128 low) refl

long_in : (a : ℕ) → address_in (192 + a / 256) (a % 256) ≡ Loco a
long_in a =
    let past : 128 ≤ 192 + a / 256 = omega arith in
    let past_too : 192 ≤ 192 + a / 256 = omega arith in
    let number : (192 + a / 256 - 192) * 256 + a % 256 ≡ a = omega arith in
    rw (le-ltb (192 + a / 256) 128 past, le-ltb (192 + a / 256) 192 past_too) (ap Loco number)

to_address : (a first : ℕ) (rest : List ℕ) → Coarser (destination_of (to_decoder (address_sent a) (first ∷ rest))) (Some (Loco a))
to_address a first rest = elim (cases_lt a 128) [
  | inl short ↦
      rw (lt-ltb a 128 short)
      (coarse_if (nat_eq a 0) _ (Some (Loco a)) (coarse_if (nat_eq a 255) (Some (address_in a first)) (Some (Loco a)) (inl (ap Some (short_in a first short)))))
  | inr long ↦
      rw (le-ltb a 128 long)
      (coarse_if (nat_eq (192 + a / 256) 0) _ (Some (Loco a)) (coarse_if (nat_eq (192 + a / 256) 255) (Some (address_in (192 + a / 256) (a % 256))) (Some (Loco a)) (inl (ap Some (long_in a)))))
]

module_in : (first second m : ℕ) → first ≡ 128 + m % 64 → second / 16 % 8 ≡ 7 - m / 64 → m / 64 ≤ 7 → address_in first second ≡ Module m
module_in first second m is high most =
    let past : 128 ≤ first = omega (arith, is) in
    let low : first < 192 = omega (arith, is) in
    let number : first % 64 + 64 * (7 - second / 16 % 8) ≡ m = omega (arith, is, high, most) in
    rw (le-ltb first 128 past, lt-ltb first 192 low) (ap Module number)

bit_low : (b : Bool) → bit b ≤ 1
bit_low true = omega arith
bit_low false = omega arith

to_module : (number : ℕ) (closed on : Bool) → number ≤ last_switch → Coarser (destination_of (accessory_bytes number closed on)) (Some (Module (module_of number)))
to_module number closed on legal =
    let m : ℕ = module_of number in
    let first : ℕ = 128 + m % 64 in
    let second : ℕ = 128 + 16 * (7 - m / 64) + 8 * bit on + 2 * (number % 4) + bit closed in
    let most : m / 64 ≤ 7 = omega (arith, legal) in
    let high : second / 16 % 8 ≡ 7 - m / 64 = omega (arith, bit_low on, bit_low closed, most) in
    coarse_if (nat_eq first 0) _ (Some (Module m)) (coarse_if (nat_eq first 255) (Some (address_in first second)) (Some (Module m)) (inl (ap Some (module_in first second m refl high most))))

-- ---- switches have a valid number

abbrev IsLegal : Pick → Type 0
IsLegal Off = Unit {0}
IsLegal StopAll = Unit {0}
IsLegal Idle = Unit {0}
IsLegal (Place slot kind) = Unit {0}
IsLegal (Switch number closed on) = number ≤ last_switch

abbrev AreLegal : List Pick → Type 0
AreLegal picks = AllByRecursion IsLegal picks

both_legal : (xs ys : List Pick) → AreLegal xs → AreLegal ys → AreLegal (xs ++ ys)
both_legal [] ys h k = k
both_legal (x ∷ xs) ys h k = (h.0, both_legal xs ys h.1 k)

back_legal : (xs ys : List Pick) → AreLegal (xs ++ ys) → AreLegal ys
back_legal [] ys h = h
back_legal (x ∷ xs) ys h = back_legal xs ys h.1

one_legal : (k : ℕ) (picks : List Pick) (pick : Pick) → AreLegal picks → k < length picks → slice_index_or picks k pick ≡ pick → IsLegal pick
one_legal k [] pick h below is = absurd (omega (arith, below))
one_legal zero (x ∷ xs) pick h below is = subst IsLegal is h.0
one_legal (suc k) (x ∷ xs) pick h below is = one_legal k xs pick h.1 (omega (arith, below)) is

twice_legal : (number waiting : ℕ) (closed on : Bool) → AreLegal (twice_if (is_taken number waiting) (Switch number closed on))
twice_legal number waiting closed on = by_test (is_taken number waiting) (λ taken. leb-true number last_switch (and_parts (nat_le number last_switch) (nat_lt waiting most_requests) taken).0)
  where
    by_test : (b : Bool) → (b ≡ true → number ≤ last_switch) → AreLegal (twice_if b (Switch number closed on))
    by_test true h = (h refl, (h refl, tt))
    by_test false h = tt

op_legal : (seen : Seen) (op : Op) → AreLegal (asked_by_op seen op)
op_legal seen (SwReq number closed on) = twice_legal number (requests_in seen.jobs) closed on
op_legal seen (SwAck number closed on) = twice_legal number (requests_in seen.jobs) closed on
op_legal seen _ = tt

message_legal : (seen : Seen) (message : Option (List ℕ)) → AreLegal (asked_by_message seen message)
message_legal seen None = tt
message_legal seen (Some message) = op_legal seen (op_of message)

call_legal : (seen : Seen) (call : Call) → AreLegal (asked_by seen call)
call_legal seen (Byte line byte) = message_legal seen (message_ended seen line byte)
call_legal seen Turn = tt

jobs_legal : (jobs : List Job) → AllByRecursion IsJob jobs → AreLegal (to_send jobs)
jobs_legal [] h = tt
jobs_legal (PlaceJob slot kind ∷ jobs) h = jobs_legal jobs h.1
jobs_legal (Request number closed on true ∷ jobs) h = (h.0, (h.0, jobs_legal jobs h.1))
jobs_legal (Request number closed on false ∷ jobs) h = (h.0, jobs_legal jobs h.1)

-- ---- where a turn sends its packet

on_slot : (desk : Desk) (slot : ℕ) → is_slot_on (refreshed_slots desk) slot ≡ true → (1 ≤ slot) × (slot ≤ 119)
on_slot desk slot h =
    let parts = and_parts (nat_le 1 slot) (get_or (refreshed_slots desk) (slot - 1) false) h in
    let low : 1 ≤ slot = leb-true 1 slot parts.0 in
    elim (cases_lt (slot - 1) 119) [
      | inl below ↦ (low, omega (arith, below))
      | inr past ↦ absurd (both_ways (get_or (refreshed_slots desk) (slot - 1) false) (get_or-eq_default (refreshed_slots desk) false (omega (arith, past, length-refreshed_slots desk))) parts.1)
    ]

in_slot : (desk : Desk) (slot : ℕ) → is_slot_on (refreshed_slots desk) slot ≡ true → address_of (addresses desk) slot ≡ (row_of desk slot).address
in_slot desk slot on =
    let is = on_slot desk slot on in
    let place : slot - 1 + 1 ≡ slot = omega (arith, is.0) in
    get-addresses desk (slot - 1) (omega (arith, is.0, is.1)) ∙ ap (λ (n : ℕ). (row_of desk n).address) place

-- a packet goes where its pick goes, or to no one decoder
abbrev PacketGoes : Option (List ℕ) → Option Destination → Type 0
PacketGoes packet there = (bytes : List ℕ) × (packet ≡ Some bytes) × Coarser (destination_of bytes) there

goes : (seen : Seen) (pick : Pick) → AreLegal (to_send seen.jobs) → IsDue (scheduled seen) pick → PacketGoes (packet_of seen.powered.desk pick) (goes_to (addresses seen.powered.desk) pick)
goes seen Off legal is_due = absurd is_due
goes seen StopAll legal is_due = absurd is_due
goes seen Idle legal is_due = (idle_bytes, refl, inl refl)
goes seen (Place slot kind) legal is_due =
    let row = row_of seen.powered.desk slot in (
      place_packet seen.powered.desk slot kind,
      refl,
      subst (λ (a : ℕ). Coarser (destination_of (place_packet seen.powered.desk slot kind)) (Some (Loco a))) (sym (in_slot seen.powered.desk slot is_due))
          (of_entry (λ packet. Coarser (destination_of packet) (Some (Loco row.address))) row.address (to_address row.address) kind (entry_of row)),
    )
goes seen (Switch number closed on) legal is_due =
    (accessory_bytes number closed on, refl, to_module number closed on (one_legal is_due.0 (to_send seen.jobs) (Switch number closed on) legal is_due.1 is_due.2))

still_apart : (reported last next there : Option Destination) → Coarser reported last → Coarser next there → IsApart last there → IsApart reported next
still_apart reported last None there t n apart = tt
still_apart reported last (Some next) there t n apart = elim n [
  | inr none ↦ cc
  | inl same ↦
      let one : IsApart last (Some next) = subst (λ (o : Option Destination). IsApart last o) (sym same) apart in
      elim t [
        | inl was ↦ subst (λ (o : Option Destination). IsApart o (Some next)) (sym was) one
        | inr none ↦ subst (λ (o : Option Destination). IsApart o (Some next)) (sym none) refl
      ]
]

module _ (apart : (addresses : List ℕ) (s : Scheduled) → IsApart s.last (goes_to addresses (picked addresses s).answer))
    (last : (addresses : List ℕ) (s : Scheduled) → (picked addresses s).state.last ≡ goes_to addresses (picked addresses s).answer)
    (is_due : (addresses : List ℕ) (s : Scheduled) → IsDue s (picked addresses s).answer)
    (kept : (seen : Seen) (call : Call) → sent_by seen call ++ to_send (state_of seen call).jobs ≡ to_send seen.jobs ++ asked_by seen call) where
  still_legal : (seen : Seen) (call : Call) → AreLegal (to_send seen.jobs) → AreLegal (to_send (state_of seen call).jobs)
  still_legal seen call legal =
      back_legal (sent_by seen call) (to_send (state_of seen call).jobs)
      (subst AreLegal (sym (kept seen call)) (both_legal (to_send seen.jobs) (asked_by seen call) legal (call_legal seen call)))

  reply_is_none : (reply : Option ReplyOf) (steps : List Step) → packets_in (replied reply ∷ steps) ≡ packets_in steps
  reply_is_none None steps = refl
  reply_is_none (Some reply) steps = refl

  -- of each turn, with what follows from where its packet went
  turn_apart : (p : Power) (seen : Seen) → seen.powered.power ≡ p → AreLegal (to_send seen.jobs) → (reported : Option Destination) → Coarser reported seen.last → (steps : List Step)
      → ((next : Option Destination) → Coarser next (turn_of seen).state.last → AreApart next (packets_in steps))
      → AreApart reported (packets_in (sent (packet_of seen.powered.desk (turn_of seen).answer) ∷ steps))
  turn_apart power.Off seen e legal reported coarse steps rest =
      let kept_last : (turn_of seen).state.last ≡ seen.last = rw e refl in
      rw e (rest reported (subst (λ (l : Option Destination). Coarser reported l) (sym kept_last) coarse))
  turn_apart power.Paused seen e legal reported coarse steps rest =
      let none : (turn_of seen).state.last ≡ None = rw e refl in
      rw e (tt, rest None (inl (sym none)))
  turn_apart power.Running seen e legal reported coarse steps rest =
      let all = addresses seen.powered.desk in
      let pick : Pick = (picked all (scheduled seen)).answer in
      let is : (turn_of seen).answer ≡ pick = rw e refl in
      let packet = goes seen pick legal (is_due all (scheduled seen)) in
      let removed : (turn_of seen).state.last ≡ goes_to all pick = ap (λ (p : Power). (turned p all (scheduled seen)).state.last) e ∙ last all (scheduled seen) in
      let told_next = destination_of packet.0 in
      subst (λ (o : Option (List ℕ)). AreApart reported (packets_in (sent o ∷ steps))) (sym (ap (packet_of seen.powered.desk) is ∙ packet.1)) (
        still_apart reported seen.last (destination_of packet.0) (goes_to all pick) coarse packet.2 (apart all (scheduled seen)),
        rest (destination_of packet.0) (subst (λ (l : Option Destination). Coarser (destination_of packet.0) l) (sym removed) packet.2),
      )

  apart_from : (seen : Seen) (calls : List Call) (reported : Option Destination) → Coarser reported seen.last → AreLegal (to_send seen.jobs) → AreApart reported (packets_in (answers seen calls))
  unfolding moved
  apart_from seen [] reported coarse legal = tt
  apart_from seen (Byte line byte ∷ calls) reported coarse legal =
      let same = (message_same seen (message_ended seen line byte)).last in
      let after : Seen = state_of seen (Byte line byte) in
      subst (λ (packets : List (List ℕ)). AreApart reported packets) (sym (reply_is_none (answer_to_byte seen line byte) (answers after calls)))
      (apart_from after calls reported (subst (λ (l : Option Destination). Coarser reported l) (sym same) coarse) (still_legal seen (Byte line byte) legal))
  apart_from seen (Turn ∷ calls) reported coarse legal =
      turn_apart seen.powered.power seen refl legal reported coarse (answers (state_of seen Turn) calls)
      (λ next coarser. apart_from (state_of seen Turn) calls next coarser (still_legal seen Turn legal))

  pub neighbours : (start : Seen) (calls : List Call) → AllByRecursion IsJob start.jobs → NeighboursApart start calls
  neighbours start calls legal = apart_from start calls start.last (inl refl) (jobs_legal start.jobs legal)
