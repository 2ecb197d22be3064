-- What bytes say: one line for each form of packet.
use Rattle.std.specs.Prelude.{ℕ, ◌≡◌, ◌+◌, ◌-◌, ◌*◌, ◌/◌, ◌%◌, ◌<◌, Bool, List, [], ◌∷◌, IsTrue}
use Rattle.dcc_packet.specs.declared.address.Address.{Address}
use Rattle.dcc_packet.specs.declared.instr.Instr.{Instr}
use Rattle.dcc_packet.specs.declared.instr.Instr.TheVariants.{Idle, Reset, StopAll, Speed, Speed128, GroupOne, GroupTwo, GroupThree, Accessory}
use Rattle.dcc_packet.specs.Address.{is_legal}
use Rattle.dcc_packet.specs.Form.{bit, with_check, to_decoder}
use Rattle.dcc_packet.specs.Module.{is_module}

-- they tell this instruction to this address
abbrev pub Tells : List ℕ → Address → List ℕ → Type 0
Tells bytes address instruction = IsTrue (is_legal address) × (bytes ≡ to_decoder address instruction)

-- the listed forms; no other bytes spell anything
abbrev pub Spells : List ℕ → Instr → Type 0
-- S-9.2, idle packet: 11111111 00000000
Spells bytes Idle = bytes ≡ with_check (0xFF ∷ 0x00 ∷ [])
-- S-9.2, reset packet: 00000000 00000000
Spells bytes Reset = bytes ≡ with_check (0x00 ∷ 0x00 ∷ [])
-- S-9.2, broadcast stop packet: 00000000 01DC000S, whatever D and C are (own)
Spells bytes (StopAll emergency) = (d c : Bool) × (bytes ≡ with_check (0x00 ∷ (64 + 32 * bit d + 16 * bit c + bit emergency) ∷ []))
-- S-9.2.1, 2.3.3, speed and direction: 01DCSSSS
Spells bytes (Speed address d low) = (low < 32) × Tells bytes address ((64 + 32 * bit d + low) ∷ [])
-- S-9.2.1, 2.3.2, 128 speed steps: 00111111 DSSSSSSS
Spells bytes (Speed128 address d s) = (s < 128) × Tells bytes address (0x3F ∷ (128 * bit d + s) ∷ [])
-- S-9.2.1, 2.3.4, function group one: 100DDDDD
Spells bytes (GroupOne address bits) = (bits < 32) × Tells bytes address ((128 + bits) ∷ [])
-- S-9.2.1, 2.3.5, function group two with S 1: 1011DDDD
Spells bytes (GroupTwo address bits) = (bits < 16) × Tells bytes address ((176 + bits) ∷ [])
-- S-9.2.1, 2.3.5, function group two with S 0, here group three: 1010DDDD
Spells bytes (GroupThree address bits) = (bits < 16) × Tells bytes address ((160 + bits) ∷ [])
-- S-9.2.1, 2.4.1, basic accessory: 10AAAAAA 1AAACDDD, the high three bits of the address complemented
Spells bytes (Accessory number pair closed on) =
    IsTrue (is_module number) × (pair < 4) × (bytes ≡ with_check ((128 + number % 64) ∷ (128 + 16 * (7 - number / 64) + 8 * bit on + 2 * pair + bit closed) ∷ []))
