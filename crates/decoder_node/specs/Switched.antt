-- The effect of packets on an accessory decoder; (own) marks this project's profile.
use Rattle.std.specs.Prelude.{ℕ, ◌+◌, ◌*◌, ◌%◌, ◌^◌, ◌<◌, ◌==◌, Bool, if◌then◌else◌, List, fold}
use Rattle.dcc_packet.specs.declared.instr.Instr.{Instr}
use Rattle.dcc_packet.specs.declared.instr.Instr.TheVariants.{Idle, Reset, StopAll, Speed, Speed128, GroupOne, GroupTwo, GroupThree, Accessory}
use Rattle.decoder_node.specs.Bits.{with_bits}
use Rattle.decoder_node.specs.Heard.{obeying}

-- there are eight outputs
abbrev pub AreOutputs : ℕ → Type 0
AreOutputs outputs = outputs < 2 ^ 8

-- S-9.2.1, 2.4.1: the output DDD, which is the pair and whether its second output, closed, is meant
abbrev pub output_of : ℕ → Bool → ℕ
output_of pair closed = 2 * (pair % 4) + (if closed then 1 else 0)

-- The effect of one instruction on the outputs of the decoder of this module: bit j of `outputs` is
-- output j. It obeys only the accessory packets of its module, and no Reset (own).
abbrev pub switched : ℕ → ℕ → Instr → ℕ
switched number outputs (Accessory sent pair closed on) =
    if sent == number then with_bits outputs (output_of pair closed) 1 (if on then 1 else 0) else outputs
switched number outputs Idle = outputs
switched number outputs Reset = outputs
switched number outputs (StopAll emergency) = outputs
switched number outputs (Speed address d low) = outputs
switched number outputs (Speed128 address d s) = outputs
switched number outputs (GroupOne address bits) = outputs
switched number outputs (GroupTwo address bits) = outputs
switched number outputs (GroupThree address bits) = outputs

-- the effect of one packet
unfoldable pub switch : ℕ → ℕ → List ℕ → ℕ
switch number outputs packet = obeying (switched number) outputs packet

-- the effect of packets, one after another
abbrev pub switches : ℕ → ℕ → List (List ℕ) → ℕ
switches number outputs packets = fold (switch number) outputs packets
