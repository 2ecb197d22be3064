-- What is asked of decoders by the bytes of some slots, worked out by hand.
use Rattle.std.proofs.Common.{◌≡◌, ℕ, Bool, true, false, List, [], ◌∷◌, ◌++◌, map, refl, ap₂, arith}
use Rattle.std.proofs.lemmas.Fmt.{decimal_digit}
use Rattle.std.specs.Prelude.{codes}
use Rattle.dcc_packet.specs.declared.steps.Steps.TheVariants.{S14, S28, S128}
use Rattle.dcc_packet.specs.declared.steps.Motion.{Motion}
use Rattle.dcc_packet.specs.declared.steps.Motion.TheVariants.{Stop, Emergency, Step}
use Rattle.slot_table.specs.Entry.{Entry, state_of_number}
use Rattle.ln_ops.specs.declared.reply.Reply.TheVariants.{LongAck}
use Rattle.station_core.specs.declared.call.Step.TheVariants.{Quiet, Reply, Packet, Off}
use Rattle.decoder_node.specs.declared.running.Running.{Running}
use Rattle.layout_core.specs.declared.event.Event.TheVariants.{Byte, Turn}
use Rattle.layout_core.specs.Served.{ended_line, served_events, traced_from, written_for}
use Rattle.layout_core.specs.Wanted.{wanted}

abbrev entry : (kind spd dirf snd : ℕ) → Entry
entry kind spd dirf snd = record { state = state_of_number 3; kind = kind; spd = spd; dirf = dirf; snd = snd; more = 0; ss2 = 0; id1 = 0; id2 = 0 }

abbrev runs : Motion → Bool → ℕ → Running
runs motion forward functions = record { motion = motion; forward = forward; functions = functions }

-- an entry, whether the decoder is reversed, and how it is to run
abbrev worked_out : List (Entry × Bool × Running)
worked_out =
    -- SPD 40 is step 63 of 128, 14 of 28 and 7 of 14
    (entry 3 0x40 0 0, false, runs (Step S128 63) true 0)
    ∷ (entry 0 0x40 0 0, false, runs (Step S28 14) true 0)
    ∷ (entry 2 0x40 0x10 0, false, runs (Step S14 7) true 1)
    -- bit 5 of DIRF is the other direction, which a reversed decoder turns round
    ∷ (entry 7 0x7F 0x20 0, false, runs (Step S128 126) false 0)
    ∷ (entry 4 0x7F 0x20 0, true, runs (Step S28 28) true 0)
    ∷ (entry 3 0 0 0, true, runs Stop false 0)
    ∷ (entry 2 1 0x1A 0, false, runs Emergency true 0b10101)
    -- F0, F5 and F7, and then F9
    ∷ (entry 3 0x20 0x10 5, false, runs (Step S128 31) true 0b10100001)
    ∷ (record (entry 3 0x20 0x10 5) { more = 1 }, false, runs (Step S128 31) true 0b1010100001)
    ∷ []

as_worked_out : map (λ (row : Entry × Bool × Running). wanted row.0 row.1) worked_out ≡ map (λ (row : Entry × Bool × Running). row.2) worked_out
as_worked_out = refl

-- two bytes with a turn after each: power comes on with the second
two_bytes : served_events 0 1 (0x83 ∷ 0x7C ∷ []) ≡ Byte 0 0x83 ∷ Turn 0 ∷ Byte 0 0x7C ∷ Turn 0 ∷ []
two_bytes = refl

two_turns : traced_from 0 1 (Quiet ∷ Off ∷ Quiet ∷ Packet (0xFF ∷ 0 ∷ 0xFF ∷ []) ∷ []) ≡ codes "track 1 off" ++ 10 ∷ codes "track 2 FF 00 FF" ++ 10 ∷ []
two_turns =
    ap₂ (λ (a b : List ℕ). ended_line (codes "track " ++ a ++ codes " off") ++ (ended_line (codes "track " ++ b ++ codes " FF 00 FF") ++ []))
    (decimal_digit 1 (omega arith)) (decimal_digit 2 (omega arith))

-- a reply is before the turn of its byte
a_reply : traced_from 1 9 (Reply (LongAck 0x3F 0) ∷ Off ∷ []) ≡ codes "reply 1 B4 3F 00 74" ++ 10 ∷ codes "track 9 off" ++ 10 ∷ []
a_reply =
    ap₂ (λ (a b : List ℕ). ended_line (codes "reply " ++ a ++ codes " B4 3F 00 74") ++ (ended_line (codes "track " ++ b ++ codes " off") ++ []))
    (decimal_digit 1 (omega arith)) (decimal_digit 9 (omega arith))

its_bytes : written_for (Quiet ∷ Off ∷ Reply (LongAck 0x3F 0) ∷ Off ∷ []) ≡ 0xB4 ∷ 0x3F ∷ 0 ∷ 0x74 ∷ []
its_bytes = refl
