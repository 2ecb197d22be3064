-- The spelling bit by bit.
use Rattle.std.proofs.Common.{◌≡◌, ℕ, ◌+◌, ◌*◌, ◌/◌, ◌%◌, ◌<◌, ◌≤◌, nat_lt, Bool, true, false, List, [], ◌∷◌, ◌++◌, refl, ap, ap₂, ◌∙◌, arith}
use Rattle.std.proofs.lemmas.Bool.{and_parts, ltb-true}
use Rattle.std.specs.List.{flat_map}
use Rattle.service_mode.specs.declared.instruction.Instruction.{Instruction}
use Rattle.service_mode.specs.declared.instruction.Instruction.TheVariants.{VerifyByte, WriteByte, VerifyBit, WriteBit}
use Rattle.service_mode.specs.Bits.{bits_of, data_bits, drawn, head_bits}
use Rattle.service_mode.specs.Spelling.{body_of, digit, is_legal}

cons : (a b : ℕ) (xs ys : List ℕ) → a ≡ b → xs ≡ ys → a ∷ xs ≡ b ∷ ys
cons a b xs ys e f = ap₂ (λ (x : ℕ) (zs : List ℕ). x ∷ zs) e f

-- the first byte: 0111CCAA
head : (c address : ℕ) → c < 4 → address < 1024 → (rest : List ℕ) → bits_of (112 + 4 * c + address / 256) ++ rest ≡ 0 ∷ 1 ∷ 1 ∷ 1 ∷ (c / 2 % 2) ∷ (c % 2) ∷ (address / 512 % 2) ∷ (address / 256 % 2) ∷ rest
head c address few below rest =
    cons _ _ _ _ (omega arith) (cons _ _ _ _ (omega arith) (cons _ _ _ _ (omega arith) (cons _ _ _ _ (omega arith)
    (cons _ _ _ _ (omega arith) (cons _ _ _ _ (omega arith) (cons _ _ _ _ (omega arith) (cons _ _ _ _ (omega arith) refl)))))))

digit-le : (b : Bool) → digit b ≤ 1
digit-le true = omega arith
digit-le false = omega arith

-- the data of a bit manipulation: 111KDBBB
data_byte : (k bit : ℕ) (on : Bool) → k < 2 → bit < 8 → bits_of (224 + 16 * k + 8 * digit on + bit) ++ [] ≡ data_bits k on bit
data_byte k bit on few below =
    let d : digit on ≤ 1 = digit-le on in
    cons _ _ _ _ (omega arith) (cons _ _ _ _ (omega arith) (cons _ _ _ _ (omega arith) (cons _ _ _ _ (omega arith)
    (cons _ _ _ _ (omega arith) (cons _ _ _ _ (omega arith) (cons _ _ _ _ (omega arith) (cons _ _ _ _ (omega arith) refl)))))))

pub as_drawn : (i : Instruction) → is_legal i ≡ true → flat_map bits_of (body_of i) ≡ drawn i
as_drawn (VerifyByte address value) h = head 1 address (omega arith) (ltb-true address 1024 h) (bits_of (address % 256) ++ (bits_of value ++ []))
as_drawn (WriteByte address value) h = head 3 address (omega arith) (ltb-true address 1024 h) (bits_of (address % 256) ++ (bits_of value ++ []))
as_drawn (VerifyBit address bit on) h =
    let parts = and_parts (nat_lt address 1024) (nat_lt bit 8) h in
    head 2 address (omega arith) (ltb-true address 1024 parts.0) (bits_of (address % 256) ++ (bits_of (224 + 8 * digit on + bit) ++ []))
    ∙ ap (λ (xs : List ℕ). head_bits 1 0 address ++ xs) (data_byte 0 bit on (omega arith) (ltb-true bit 8 parts.1))
as_drawn (WriteBit address bit on) h =
    let parts = and_parts (nat_lt address 1024) (nat_lt bit 8) h in
    head 2 address (omega arith) (ltb-true address 1024 parts.0) (bits_of (address % 256) ++ (bits_of (240 + 8 * digit on + bit) ++ []))
    ∙ ap (λ (xs : List ℕ). head_bits 1 0 address ++ xs) (data_byte 1 bit on (omega arith) (ltb-true bit 8 parts.1))
