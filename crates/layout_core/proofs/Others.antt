-- Packets that are not for a decoder leave it as it is.
use Rattle.std.specs.Prelude.{nat_le}
use Rattle.std.proofs.Common.{◌≡◌, ℕ, ◌+◌, ◌/◌, ◌<◌, ◌≤◌, Bool, true, false, List, [], ◌∷◌, Option, Some, None, refl, ap, sym, subst, ◌∙◌, arith}
use Rattle.std.proofs.lemmas.Bool.{and_parts, eqb-true, leb-true, false_from_ne_true}
use Rattle.dcc_packet.specs.declared.address.Address.{Address}
use Rattle.dcc_packet.specs.declared.address.Address.TheVariants.{Short, Long}
use Rattle.dcc_packet.specs.declared.instr.Instr.{Instr}
use Rattle.dcc_packet.specs.declared.instr.Instr.TheVariants.{Idle, Reset, StopAll, Speed, Speed128, GroupOne, GroupTwo, GroupThree, Accessory}
use Rattle.dcc_packet.specs.Reading.{instruction_of}
use Rattle.dcc_packet.specs.Sent.{idle_bytes, accessory_bytes}
use Rattle.dcc_packet.specs.Spells.{Spells, Tells}
use Rattle.slot_table.specs.Entry.{Entry, IsAddress, IsEntry}
use Rattle.station_core.specs.Packets.{address_sent, is_lit}
use Rattle.station_core.specs.Entries.{steps_asked, motion_asked, is_forward, functions_asked}
use Rattle.decoder_cv.specs.Answering.{is_at, answers_to}
use Rattle.decoder_cv.specs.Settings.{Settings}
use Rattle.decoder_node.specs.declared.running.Running.{Running}
use Rattle.decoder_node.specs.Heard.{after_receipt}
use Rattle.decoder_node.specs.Obey.{is_own, obey, obeyed}
use Rattle.layout_core.specs.Settling.{IsPacketOf, speed, group_one, group_two, group_three, LeavesAsItIs}
use Rattle.layout_core.proofs.Requests.{Spelling, obey-reported, motion-fits, own-sent, legal-sent, other-speed, other-group_one, other-group_two, other-group_three}

one_number : (own : Address) (a b : ℕ) → is_at own a ≡ true → is_at own b ≡ true → a ≡ b
one_number (Short n) a b h k = sym (eqb-true n a (and_parts _ _ h).0) ∙ eqb-true n b (and_parts _ _ k).0
one_number (Long n) a b h k = sym (eqb-true n a (and_parts _ _ h).0) ∙ eqb-true n b (and_parts _ _ k).0

-- a decoder answers to one address at most
pub silent : (cv : Settings) (a b : ℕ) → answers_to cv a ≡ true → (a ≡ b → ⊥) → answers_to cv b ≡ false
silent cv a b h differs = false_from_ne_true (answers_to cv b) (λ k. differs (one_number cv.address a b h k))

pub not_for_it : Spelling → (cv : Settings) (b : ℕ) (e : Entry) (packet : List ℕ) → IsAddress b → IsEntry e → answers_to cv b ≡ false → IsPacketOf b e packet → LeavesAsItIs cv packet
not_for_it laws cv b e packet is entry silent of r = by_packet of where
  other : is_own cv.address (address_sent b) ≡ false
  other = own-sent cv.address b ∙ silent

  by_packet : IsPacketOf b e packet → obey cv r packet ≡ r
  by_packet (speed h) = subst (λ (bytes : List ℕ). obey cv r bytes ≡ r) (sym h) (other-speed laws cv (address_sent b) (legal-sent b is) r other (steps_asked e) (motion_asked e) (is_forward e) (is_lit e) (motion-fits (steps_asked e) e.spd entry.spd))
  by_packet (group_one h) = subst (λ (bytes : List ℕ). obey cv r bytes ≡ r) (sym h) (other-group_one laws cv (address_sent b) (legal-sent b is) r other (functions_asked e))
  by_packet (group_two h) = subst (λ (bytes : List ℕ). obey cv r bytes ≡ r) (sym h) (other-group_two laws cv (address_sent b) (legal-sent b is) r other (functions_asked e))
  by_packet (group_three h) = subst (λ (bytes : List ℕ). obey cv r bytes ≡ r) (sym h) (other-group_three laws cv (address_sent b) (legal-sent b is) r other (functions_asked e))

pub idle_leaves : Spelling → Spells idle_bytes Idle → (cv : Settings) → LeavesAsItIs cv idle_bytes
idle_leaves laws idle cv r = obey-reported laws cv r idle_bytes Idle idle

-- the first byte of a packet
abbrev front : List ℕ → ℕ
front [] = 0
front (byte ∷ bytes) = byte

-- the first byte of a packet to a locomotive decoder is none of an accessory decoder's
loco_front : (bytes instruction : List ℕ) (address : Address) → Tells bytes address instruction → 128 ≤ front bytes → front bytes < 192 → ⊥
loco_front bytes instruction (Short n) (legal, is) low high =
    let first : front bytes ≡ n = ap front is in
    let most : n ≤ 127 = leb-true n 127 (and_parts (nat_le 1 n) (nat_le n 127) legal).1 in
    omega (arith, first, most, low)
loco_front bytes instruction (Long n) (legal, is) low high =
    let first : front bytes ≡ 192 + n / 256 = ap front is in
    omega (arith, first, high)

by_instr : (cv : Settings) (r : Running) (packet : List ℕ) → 128 ≤ front packet → front packet < 192 → (i : Instr) → Spells packet i → obeyed cv r i ≡ r
by_instr cv r packet low high Idle spells = refl
by_instr cv r packet low high Reset spells = let first : front packet ≡ 0 = ap front spells in absurd (omega (arith, first, low))
by_instr cv r packet low high (StopAll emergency) (d, c, is) = let first : front packet ≡ 0 = ap front is in absurd (omega (arith, first, low))
by_instr cv r packet low high (Speed address d bits) spells = absurd (loco_front packet _ address spells.1 low high)
by_instr cv r packet low high (Speed128 address d bits) spells = absurd (loco_front packet _ address spells.1 low high)
by_instr cv r packet low high (GroupOne address bits) spells = absurd (loco_front packet _ address spells.1 low high)
by_instr cv r packet low high (GroupTwo address bits) spells = absurd (loco_front packet _ address spells.1 low high)
by_instr cv r packet low high (GroupThree address bits) spells = absurd (loco_front packet _ address spells.1 low high)
by_instr cv r packet low high (Accessory number pair closed on) spells = refl

by_reading : Spelling → (cv : Settings) (r : Running) (packet : List ℕ) → 128 ≤ front packet → front packet < 192 → (read : Option Instr) → instruction_of packet ≡ read → after_receipt (obeyed cv) r read ≡ r
by_reading laws cv r packet low high None e = refl
by_reading laws cv r packet low high (Some i) e = by_instr cv r packet low high i ((laws.read packet i).0 e)

-- for any number: such bytes address no locomotive decoder
pub switch_leaves : Spelling → (number : ℕ) (closed on : Bool) → (cv : Settings) → LeavesAsItIs cv (accessory_bytes number closed on)
unfolding obey
switch_leaves laws number closed on cv r =
    let packet : List ℕ = accessory_bytes number closed on in
    by_reading laws cv r packet (omega arith) (omega arith) (instruction_of packet) refl
