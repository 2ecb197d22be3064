-- How long bits last, and so packets.
use Rattle.std.proofs.Common.{◌≡◌, ℕ, zero, suc, ◌+◌, ◌*◌, ◌/◌, ◌%◌, ◌<◌, ◌≤◌, ◌==◌, Bool, true, false, List, [], ◌∷◌, ◌++◌, length, map, replicate, sum, IsTrue, refl, ap, sym, ◌∙◌, arith, eqb-true}
use Rattle.std.proofs.lemmas.Bool.Decides.{nat_tests}
use Rattle.std.proofs.lemmas.List.Sums.{sum_by-cons}
use Rattle.std.proofs.lemmas.Nat.{xor_mod, xor_shr}
use Rattle.std.specs.Int.Bits.{bit_xor}
use Rattle.dcc_packet.specs.Packet.{is_checked, IsPacket}
use Rattle.dcc_packet.specs.Sent.{idle_bytes}
use Rattle.dcc_packet.specs.Wave.{bits_of, doubled, low_bits}
use Rattle.half_bits.specs.Halves.{duration_of, halves_of, micros}

-- how long bits last
lasting : List Bool → ℕ
lasting bits = sum (map micros (doubled bits))

none_lasts : lasting [] ≡ 0
unfolding lasting
none_lasts = refl

lasting-cons : (bit : Bool) (bits : List Bool) → lasting (bit ∷ bits) ≡ 2 * micros bit + lasting bits
unfolding lasting
lasting-cons bit bits =
    let one : ℕ = micros bit in
    let rest : List ℕ = map micros (doubled bits) in
    omega (arith, sum_by-cons (λ x. x) one (one ∷ rest), sum_by-cons (λ x. x) one rest)

lasting-append : (these those : List Bool) → lasting (these ++ those) ≡ lasting these + lasting those
lasting-append [] those = omega (arith, none_lasts)
lasting-append (bit ∷ bits) those = omega (arith, lasting-append bits those, lasting-cons bit bits, lasting-cons bit (bits ++ those))

-- each bit is a one or a zero
within_bit : (bit : Bool) → (58 ≤ micros bit) × (micros bit ≤ 100)
within_bit true = (omega arith, omega arith)
within_bit false = (omega arith, omega arith)

lasting-last : (bits : List Bool) (bit : Bool) → lasting (bits ++ bit ∷ []) ≡ lasting bits + 2 * micros bit
lasting-last bits bit = omega (arith, lasting-append bits (bit ∷ []), lasting-cons bit [], none_lasts)

within_bits : (count n : ℕ) → (116 * count ≤ lasting (low_bits count n)) × (lasting (low_bits count n) ≤ 200 * count)
within_bits zero n = (omega (arith, none_lasts), omega (arith, none_lasts))
within_bits (suc count) n =
    let front = within_bits count (n / 2) in
    let end = within_bit (n % 2 == 1) in
    let whole = lasting-last (low_bits count (n / 2)) (n % 2 == 1) in
    (omega (arith, front.0, end.0, whole), omega (arith, front.1, end.1, whole))

-- a byte behind its zero
within_bytes : (bytes : List ℕ) → (1128 * length bytes ≤ lasting (bits_of bytes)) × (lasting (bits_of bytes) ≤ 1800 * length bytes)
within_bytes [] = (omega (arith, none_lasts), omega (arith, none_lasts))
within_bytes (byte ∷ bytes) =
    let more = within_bytes bytes in
    let here = within_bits 8 byte in
    let first = lasting-cons false (low_bits 8 byte ++ bits_of bytes) in
    let whole = lasting-append (low_bits 8 byte) (bits_of bytes) in
    (omega (arith, more.0, here.0, first, whole), omega (arith, more.1, here.1, first, whole))

-- 15 ones are around them
around : (packet : List ℕ) → duration_of packet ≡ 1740 + lasting (bits_of packet)
unfolding halves_of lasting
around packet =
    let ones = replicate 14 true in
    let fourteen : lasting ones ≡ 1624 = refl in
    let one : lasting (true ∷ []) ≡ 116 = refl in
    omega (arith, lasting-append ones (bits_of packet ++ true ∷ []), lasting-append (bits_of packet) (true ∷ []), fourteen, one)

pub shortest_unchecked : (packet : List ℕ) → 3 ≤ length packet → 5124 ≤ duration_of packet
shortest_unchecked packet some = omega (arith, around packet, (within_bytes packet).0)

pub longest : (packet : List ℕ) → length packet ≤ 5 → duration_of packet ≤ 10740
longest packet few = omega (arith, around packet, (within_bytes packet).1)

-- a packet has 3 to 6 bytes
pub within_packet : (packet : List ℕ) → IsPacket packet → (5124 ≤ duration_of packet) × (duration_of packet ≤ 12540)
within_packet packet is =
    let some : 3 ≤ length packet = grind (arith, nat_tests) in
    let few : length packet ≤ 6 = grind (arith, nat_tests) in
    let bounds = within_bytes packet in
    (omega (arith, some, around packet, bounds.0), omega (arith, few, around packet, bounds.1))

pub idle : duration_of idle_bytes ≡ 5796
unfolding halves_of
idle = refl

-- Where the exclusive or of three bytes is 0, each place has a zero.

-- of three bits of which none or two are set, one is a zero
one_zero : (x y z : ℕ) → x < 2 → y < 2 → z < 2 → bit_xor (bit_xor x y) z ≡ 0 → 216 ≤ micros (x == 1) + (micros (y == 1) + micros (z == 1))
one_zero zero y z a b c h = omega (arith, (within_bit (y == 1)).0, (within_bit (z == 1)).0)
one_zero (suc zero) zero z a b c h = omega (arith, (within_bit (z == 1)).0)
one_zero (suc zero) (suc zero) zero a b c h = omega arith
one_zero (suc zero) (suc zero) (suc zero) a b c h = absurd (omega (arith, h))
one_zero (suc zero) (suc zero) (suc (suc z)) a b c h = absurd (omega (arith, c))
one_zero (suc zero) (suc (suc y)) z a b c h = absurd (omega (arith, b))
one_zero (suc (suc x)) y z a b c h = absurd (omega (arith, a))

halved : (x y z : ℕ) → bit_xor (bit_xor x y) z ≡ 0 → bit_xor (bit_xor (x / 2) (y / 2)) (z / 2) ≡ 0
halved x y z h =
    ap (λ (b : ℕ). bit_xor b (z / 2)) (sym (xor_shr x y 1)) ∙ sym (xor_shr (bit_xor x y) z 1) ∙ ap (λ (n : ℕ). n / 2) h

lowest : (x y z : ℕ) → bit_xor (bit_xor x y) z ≡ 0 → bit_xor (bit_xor (x % 2) (y % 2)) (z % 2) ≡ 0
lowest x y z h =
    ap (λ (b : ℕ). bit_xor b (z % 2)) (sym (xor_mod x y 1)) ∙ sym (xor_mod (bit_xor x y) z 1) ∙ ap (λ (n : ℕ). n % 2) h

checked_bits : (count x y z : ℕ) → bit_xor (bit_xor x y) z ≡ 0 → 432 * count ≤ lasting (low_bits count x) + (lasting (low_bits count y) + lasting (low_bits count z))
checked_bits zero x y z h = omega arith
checked_bits (suc count) x y z h =
    let front = checked_bits count (x / 2) (y / 2) (z / 2) (halved x y z h) in
    let end = one_zero (x % 2) (y % 2) (z % 2) (omega arith) (omega arith) (omega arith) (lowest x y z h) in
    let first = lasting-last (low_bits count (x / 2)) (x % 2 == 1) in
    let second = lasting-last (low_bits count (y / 2)) (y % 2 == 1) in
    let third = lasting-last (low_bits count (z / 2)) (z % 2 == 1) in
    omega (arith, front, end, first, second, third)

of_three : (x y z : ℕ) → lasting (bits_of (x ∷ y ∷ z ∷ [])) ≡ 600 + (lasting (low_bits 8 x) + (lasting (low_bits 8 y) + lasting (low_bits 8 z)))
of_three x y z =
    let last : lasting (low_bits 8 z ++ []) ≡ lasting (low_bits 8 z) + lasting [] = lasting-append (low_bits 8 z) [] in
    omega (
      arith,
      none_lasts,
      last,
      lasting-cons false (low_bits 8 x ++ bits_of (y ∷ z ∷ [])),
      lasting-append (low_bits 8 x) (bits_of (y ∷ z ∷ [])),
      lasting-cons false (low_bits 8 y ++ bits_of (z ∷ [])),
      lasting-append (low_bits 8 y) (bits_of (z ∷ [])),
      lasting-cons false (low_bits 8 z ++ []),
    )

pub shortest : (packet : List ℕ) → 3 ≤ length packet → IsTrue (is_checked packet) → 5796 ≤ duration_of packet
shortest [] some h = absurd (omega arith)
shortest (x ∷ []) some h = absurd (omega arith)
shortest (x ∷ y ∷ []) some h = absurd (omega arith)
shortest (x ∷ y ∷ z ∷ []) some h =
    let none : bit_xor (bit_xor (bit_xor 0 x) y) z ≡ 0 = eqb-true _ _ h in
    omega (arith, around (x ∷ y ∷ z ∷ []), of_three x y z, checked_bits 8 x y z none)
shortest (x ∷ y ∷ z ∷ w ∷ rest) some h =
    let four : 4 ≤ length (x ∷ y ∷ z ∷ w ∷ rest) = omega arith in
    omega (arith, around (x ∷ y ∷ z ∷ w ∷ rest), (within_bytes (x ∷ y ∷ z ∷ w ∷ rest)).0, four)

-- of the halves that are left: the next one, and none
pub half_more : (left : List ℕ) (half : ℕ) (rest : List ℕ) → left ≡ half ∷ rest → sum left ≡ half + sum rest
half_more left half rest next = ap sum next ∙ sum_by-cons (λ x. x) half rest

pub half_none : (left : List ℕ) → left ≡ [] → sum left ≡ 0
half_none left none = ap sum none
