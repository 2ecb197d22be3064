-- The packets of switches in answers are those of the switches that were picked.
use Rattle.std.proofs.Common.{◌≡◌, ℕ, ◌+◌, ◌/◌, ◌%◌, ◌<◌, ◌≤◌, if◌then◌else◌, Bool, true, false, List, [], ◌∷◌, ◌++◌, Option, Some, None, refl, sym, ap, ◌∙◌, arith, inl, inr, ◌⊎◌, append_assoc}
use Rattle.std.proofs.lemmas.Bool.{cases_lt, lt-ltb, le-ltb, ne_eqb, eq-eqb}
use Rattle.std.specs.List.{filter}
use Rattle.dcc_packet.specs.declared.steps.Steps.{Steps}
use Rattle.dcc_packet.specs.declared.steps.Steps.TheVariants.{S14, S28, S128}
use Rattle.dcc_packet.specs.declared.steps.Motion.{Motion}
use Rattle.dcc_packet.specs.Sent.{speed_bytes, accessory_bytes, module_of}
use Rattle.dcc_packet.specs.Form.{to_decoder}
use Rattle.ln_ops.specs.declared.reply.Reply.{Reply as ReplyOf}
use Rattle.slot_table.specs.Desk.{Desk}
use Rattle.slot_table.specs.Entry.{Entry, entry_of}
use Rattle.slot_table.specs.Reading.{row_of}
use Rattle.refresh_ring.specs.Sent.{switch_in, to_send}
use Rattle.refresh_ring.specs.declared.kind.Kind.{Kind}
use Rattle.refresh_ring.specs.declared.kind.Kind.TheVariants.{Speed, GroupOne, GroupTwo, GroupThree}
use Rattle.refresh_ring.specs.declared.pick.Pick.{Pick}
use Rattle.refresh_ring.specs.declared.pick.Pick.TheVariants.{Off, StopAll, Idle, Place, Switch}
use Rattle.station_core.specs.declared.call.Call.{Call}
use Rattle.station_core.specs.declared.call.Call.TheVariants.{Byte, Turn}
use Rattle.station_core.specs.declared.call.Step.{Step}
use Rattle.station_core.specs.declared.call.Step.TheVariants as step
use Rattle.station_core.specs.Entries.{steps_asked, motion_asked, is_forward}
use Rattle.station_core.specs.Station.{moved, answer_to_byte, packet_of, replied, sent, turn_of}
use Rattle.station_core.specs.Packets.{address_sent, entry_packet, is_lit, place_packet}
use Rattle.station_core.specs.Promises.{is_accessory, packet_for, packets_for, switches_asked, switches_sent, IsFrontOf, SwitchesInOrder}
use Rattle.station_core.specs.Runs.{answer_of, answers, packets_in, state_of, state_after}
use Rattle.station_core.specs.Seen.{Seen}
use Rattle.station_core.proofs.Walks.{IsFront, picks_sent, sent_by}

-- what every packet of a locomotive address has by its address
module _ (P : List ℕ → Type 0) (a : ℕ) (reported : (first : ℕ) (rest : List ℕ) → P (to_decoder (address_sent a) (first ∷ rest))) where
  pub of_speed : (steps : Steps) (motion : Motion) (forward lit : Bool) → P (speed_bytes (address_sent a) steps motion forward lit)
  of_speed S14 motion forward lit = reported _ []
  of_speed S28 motion forward lit = reported _ []
  of_speed S128 motion forward lit = reported _ _

  pub of_entry : (kind : Kind) (e : Entry) → P (entry_packet kind a e)
  of_entry Speed e = of_speed (steps_asked e) (motion_asked e) (is_forward e) (is_lit e)
  of_entry GroupOne e = reported _ []
  of_entry GroupTwo e = reported _ []
  of_entry GroupThree e = reported _ []

no_switch : (a first : ℕ) (rest : List ℕ) → is_accessory (to_decoder (address_sent a) (first ∷ rest)) ≡ false
no_switch a first rest = by_size (cases_lt a 128)
  where
    by_size : (a < 128) ⊎ (128 ≤ a) → is_accessory (to_decoder (address_sent a) (first ∷ rest)) ≡ false
    by_size (inl short) = rw (lt-ltb a 128 short) (ne_eqb (a / 64) 2 (λ e. omega (arith, e, short)))
    by_size (inr long) = rw (le-ltb a 128 long) (ne_eqb ((192 + a / 256) / 64) 2 (λ e. omega (arith, e)))

a_switch : (number : ℕ) (closed on : Bool) → is_accessory (accessory_bytes number closed on) ≡ true
a_switch number closed on =
    let below : (128 + module_of number % 64) / 64 ≡ 2 = omega arith in
    eq-eqb ((128 + module_of number % 64) / 64) 2 below

kept : (packet : List ℕ) → is_accessory packet ≡ true → filter is_accessory (packet ∷ []) ≡ packet ∷ []
kept packet h = rw h refl

dropped : (packet : List ℕ) → is_accessory packet ≡ false → filter is_accessory (packet ∷ []) ≡ []
dropped packet h = rw h refl

of_pick : (desk : Desk) (pick : Pick) → filter is_accessory (packets_in (sent (packet_of desk pick) ∷ [])) ≡ packets_for (switch_in pick)
of_pick desk Off = refl
of_pick desk StopAll = refl
of_pick desk Idle = refl
of_pick desk (Place slot kind) =
    dropped (place_packet desk slot kind) (of_entry (λ packet. is_accessory packet ≡ false) (row_of desk slot).address (no_switch (row_of desk slot).address) kind (entry_of (row_of desk slot)))
of_pick desk (Switch number closed on) = kept (accessory_bytes number closed on) (a_switch number closed on)

pub packets-append : (xs ys : List Pick) → packets_for (xs ++ ys) ≡ packets_for xs ++ packets_for ys
packets-append [] ys = refl
packets-append (x ∷ xs) ys = ap (λ (ps : List (List ℕ)). packet_for x ++ ps) (packets-append xs ys) ∙ sym (append_assoc (packet_for x) (packets_for xs) (packets_for ys))

filter_one : (b : Bool) (x : List ℕ) (all front back : List (List ℕ)) → all ≡ front ++ back → (if b then x ∷ all else all) ≡ (if b then x ∷ front else front) ++ back
filter_one true x all front back e = ap (λ (ps : List (List ℕ)). x ∷ ps) e
filter_one false x all front back e = e

filter-append : (xs ys : List (List ℕ)) → filter is_accessory (xs ++ ys) ≡ filter is_accessory xs ++ filter is_accessory ys
filter-append [] ys = refl
filter-append (x ∷ xs) ys =
    filter_one (is_accessory x) x (filter is_accessory (xs ++ ys)) (filter is_accessory xs) (filter is_accessory ys) (filter-append xs ys)

one_more : (step : Step) (steps : List Step) → packets_in (step ∷ steps) ≡ packets_in (step ∷ []) ++ packets_in steps
one_more step.Quiet steps = refl
one_more (step.Reply reply) steps = refl
one_more (step.Packet packet) steps = refl
one_more step.Off steps = refl

of_byte : (reply : Option ReplyOf) → packets_in (replied reply ∷ []) ≡ []
of_byte None = refl
of_byte (Some reply) = refl

of_call : (seen : Seen) (call : Call) → filter is_accessory (packets_in (answer_of seen call ∷ [])) ≡ packets_for (sent_by seen call)
unfolding moved
of_call seen (Byte line byte) = ap (filter is_accessory) (of_byte (answer_to_byte seen line byte))
of_call seen Turn = of_pick seen.powered.desk (turn_of seen).answer

pub sent_is : (start : Seen) (calls : List Call) → switches_sent start calls ≡ packets_for (picks_sent start calls)
sent_is start [] = refl
sent_is start (call ∷ calls) =
    let rest : List Step = answers (state_of start call) calls in
    ap (filter is_accessory) (one_more (answer_of start call) rest)
    ∙ filter-append (packets_in (answer_of start call ∷ [])) (packets_in rest)
    ∙ ap (λ (ps : List (List ℕ)). ps ++ filter is_accessory (packets_in rest)) (of_call start call)
    ∙ ap (λ (ps : List (List ℕ)). packets_for (sent_by start call) ++ ps) (sent_is (state_of start call) calls)
    ∙ sym (packets-append (sent_by start call) (picks_sent (state_of start call) calls))

pub packets_in_order : (start : Seen) (calls : List Call) → picks_sent start calls ++ to_send (state_after start calls).jobs ≡ to_send start.jobs ++ switches_asked start calls → SwitchesInOrder start calls
packets_in_order start calls in_order =
    ap (λ (ps : List (List ℕ)). ps ++ packets_for (to_send (state_after start calls).jobs)) (sent_is start calls)
    ∙ sym (packets-append (picks_sent start calls) (to_send (state_after start calls).jobs))
    ∙ ap packets_for in_order
    ∙ packets-append (to_send start.jobs) (switches_asked start calls)

pub packets_in_front : (start : Seen) (calls : List Call) → IsFront (to_send start.jobs) (picks_sent start calls) → IsFrontOf (packets_for (to_send start.jobs)) (switches_sent start calls)
packets_in_front start calls front =
    (packets_for front.0, sym (packets-append (to_send start.jobs) front.0) ∙ ap packets_for front.1 ∙ sym (sent_is start calls))
