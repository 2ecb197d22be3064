-- A packet in OPC_IMM_PACKET, as LocoNet has a throttle put it there, and what is read of it.
use Rattle.std.specs.Prelude.{ℕ, ◌+◌, ◌*◌, ◌/◌, ◌%◌, ◌&&◌, Bool, nat_le, nat_lt, List, [], ◌∷◌, ◌++◌, length, map, take}
use Rattle.std.specs.List.{list_all}
use Rattle.ln_frame.specs.Message.{check_of}
use Rattle.ln_ops.specs.declared.op.Op.{Op}
use Rattle.ln_ops.specs.declared.op.Op.TheVariants.{Imm}

-- one to five bytes of a packet, its check not among them, to be repeated up to seven times
abbrev pub can_carry : ℕ → List ℕ → Bool
can_carry repeats bytes = nat_lt repeats 8 && (nat_le 1 (length bytes) && (nat_le (length bytes) 5 && list_all (λ byte. nat_lt byte 256) bytes))

-- REPS: bits 6 to 4 are the number of IM bytes, bits 2 to 0 the repeats
abbrev pub reps_of : (count repeats : ℕ) → ℕ
reps_of count repeats = 16 * count + repeats

-- bit 0 is bit 7 of the first byte, bit 1 that of the second, and so on
abbrev pub high_bits : List ℕ → ℕ
high_bits [] = 0
high_bits (byte ∷ bytes) = byte / 128 + 2 * high_bits bytes

-- DHI: 001, and then bit 7 of IM5 to IM1
abbrev pub dhi_of : List ℕ → ℕ
dhi_of bytes = 32 + high_bits bytes

-- IM1 to IM5: the low seven bits of each byte, and 0 where there is no further byte
abbrev pub im_bytes : List ℕ → List ℕ
im_bytes bytes = take 5 (map (λ byte. byte % 128) bytes ++ 0 ∷ 0 ∷ 0 ∷ 0 ∷ 0 ∷ [])

-- ED 0B 7F REPS DHI IM1 IM2 IM3 IM4 IM5
abbrev pub carrying_body : (repeats : ℕ) → List ℕ → List ℕ
carrying_body repeats bytes = 0xED ∷ 0x0B ∷ 0x7F ∷ reps_of (length bytes) repeats ∷ dhi_of bytes ∷ im_bytes bytes

-- and the check byte
abbrev pub carrying : (repeats : ℕ) → List ℕ → List ℕ
carrying repeats bytes = carrying_body repeats bytes ++ check_of (carrying_body repeats bytes) ∷ []

-- the bytes that are read: of the five as many as count
abbrev pub carried_by : Op → List ℕ
carried_by (Imm count im1 im2 im3 im4 im5) = take count (im1 ∷ im2 ∷ im3 ∷ im4 ∷ im5 ∷ [])
carried_by _ = []
