-- The packets of direct mode bit by bit, as the standard draws them.
use Rattle.std.specs.Prelude.{ℕ, ◌/◌, ◌%◌, Bool, List, [], ◌∷◌, ◌++◌}
use Rattle.service_mode.specs.declared.instruction.Instruction.{Instruction}
use Rattle.service_mode.specs.declared.instruction.Instruction.TheVariants.{VerifyByte, WriteByte, VerifyBit, WriteBit}
use Rattle.service_mode.specs.Spelling.{digit}

-- the eight bits of a byte, the highest first
abbrev pub bits_of : ℕ → List ℕ
bits_of n = n / 128 % 2 ∷ n / 64 % 2 ∷ n / 32 % 2 ∷ n / 16 % 2 ∷ n / 8 % 2 ∷ n / 4 % 2 ∷ n / 2 % 2 ∷ n % 2 ∷ []

-- AAAAAAAAAA
abbrev pub address_bits : ℕ → List ℕ
address_bits address = address / 512 % 2 ∷ address / 256 % 2 ∷ bits_of (address % 256)

-- 0111CCAA AAAAAAAA
abbrev pub head_bits : (c1 c0 address : ℕ) → List ℕ
head_bits c1 c0 address = 0 ∷ 1 ∷ 1 ∷ 1 ∷ c1 ∷ c0 ∷ address_bits address

-- 111KDBBB
abbrev pub data_bits : (k : ℕ) → (on : Bool) → (bit : ℕ) → List ℕ
data_bits k on bit = 1 ∷ 1 ∷ 1 ∷ k ∷ digit on ∷ bit / 4 % 2 ∷ bit / 2 % 2 ∷ bit % 2 ∷ []

-- the bits before the check
abbrev pub drawn : Instruction → List ℕ
drawn (VerifyByte address value) = head_bits 0 1 address ++ bits_of value
drawn (WriteByte address value) = head_bits 1 1 address ++ bits_of value
drawn (VerifyBit address bit on) = head_bits 1 0 address ++ data_bits 0 on bit
drawn (WriteBit address bit on) = head_bits 1 0 address ++ data_bits 1 on bit
