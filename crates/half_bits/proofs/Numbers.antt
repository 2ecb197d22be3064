-- The bits of a packet as one number, and its remaining halves.
use Rattle.std.proofs.Common.{◌≡◌, ℕ, ◌+◌, ◌-◌, ◌*◌, ◌/◌, ◌%◌, ◌^◌, ◌<◌, ◌≤◌, nat_lt, nat_le, ◌≢◌, ◌==◌, Bool, true, false, not, Option, List, [], ◌∷◌, ◌++◌, length, map, get_or, take, min, replicate, inl, inr, suc, zero, Some, refl, ap, ap₂, subst, sym, ◌∙◌, arith, add-one, append-nil, append_assoc}
use Rattle.std.proofs.lemmas.Bool.{and_parts, cases_lt, leb-true}
use Rattle.std.proofs.lemmas.List.{length-append, length-map, length-take-le, map-append, take_more}
use Rattle.std.proofs.lemmas.Nat.{pow-add}
use Rattle.std.proofs.Math.Pow.{pow_mono}
use Rattle.std.proofs.lemmas.Nat.Bits.{bit_at-suc, bit_at_above}
use Rattle.std.specs.Int.{bit_at}
use Rattle.std.specs.List.{list_all}
use Rattle.dcc_packet.specs.Packet.{IsPacket, has_packet_length}
use Rattle.dcc_packet.specs.Wave.{bit_of, low_bits, bits_of, doubled, IsWave}
use Rattle.half_bits.specs.Halves.{micros, halves_of}
use Rattle.half_bits.specs.Remaining.{both_halves}

-- the highest bit stands first
low_bits-head : (count n : ℕ) → low_bits (suc count) n ≡ (bit_at n count == 1) ∷ low_bits count n
low_bits-head zero n = ap (λ (b : ℕ). (b == 1) ∷ []) (omega arith)
low_bits-head (suc count) n =
    ap (λ (bs : List Bool). bs ++ (n % 2 == 1) ∷ []) (low_bits-head count (n / 2))
    ∙ ap (λ (b : ℕ). (b == 1) ∷ low_bits (suc count) n) (sym (bit_at-suc n count))

-- the halves of so many bits
halves-bits : (count n : ℕ) → both_halves n count ≡ map micros (doubled (map not (low_bits count n)))
halves-bits zero n = refl
halves-bits (suc count) n =
    let b = not (bit_at n count == 1) in
    ap (λ (hs : List ℕ). micros b ∷ micros b ∷ hs) (halves-bits count n)
    ∙ ap (λ (bs : List Bool). map micros (doubled (map not bs))) (sym (low_bits-head count n))

-- the first half, and the remaining ones
pub halves-first : (n bits : ℕ) → bits ≢ 0 → both_halves n bits ≡ micros (not (bit_at n (bits - 1) == 1)) ∷ micros (not (bit_at n (bits - 1) == 1)) ∷ both_halves n (bits - 1)
halves-first n zero h = absurd (h refl)
halves-first n (suc bits) h =
    let less : bits ≡ suc bits - 1 = omega arith in
    ap (λ (k : ℕ). micros (not (bit_at n k == 1)) ∷ micros (not (bit_at n k == 1)) ∷ both_halves n k) less

pub length_of_halves : (n bits : ℕ) → length (both_halves n bits) ≡ 2 * bits
length_of_halves n zero = refl
length_of_halves n (suc bits) = omega (arith, length_of_halves n bits)

-- above all bits of a number each place is alike
pub lowered : (number place : ℕ) → number < 2 ^ 63 → bit_at number place ≡ bit_at number (min place 63)
lowered number place h = elim (cases_lt place 63) [
  | inl few ↦ let same : place ≡ min place 63 = omega arith in ap (bit_at number) same
  | inr many ↦
      let top : min place 63 ≡ 63 = omega arith in
      bit_at_above number 63 place h many ∙ sym (ap (bit_at number) top ∙ bit_at_above number 63 63 h (omega arith))
]

-- bits after the bits of a number
low_bits-append : (more count n b : ℕ) → b < 2 ^ more → low_bits (more + count) (n * 2 ^ more + b) ≡ low_bits count n ++ low_bits more b
low_bits-append zero count n b h =
    let same : n * 2 ^ 0 + b ≡ n = omega arith in
    let none : 0 + count ≡ count = omega arith in
    ap₂ low_bits none same ∙ sym (append-nil (low_bits count n))
low_bits-append (suc more) count n b h =
    let power : 2 ^ suc more ≡ 2 * 2 ^ more = ap (λ (m : ℕ). 2 ^ m) (sym (add-one more)) ∙ pow-add 2 more 1 ∙ omega arith in
    let twice : n * 2 ^ suc more ≡ 2 * (n * 2 ^ more) = ap (λ (p : ℕ). n * p) power ∙ omega arith in
    let size : suc more + count ≡ suc (more + count) = omega arith in
    let half : (n * 2 ^ suc more + b) / 2 ≡ n * 2 ^ more + b / 2 = omega arith in
    let last : (n * 2 ^ suc more + b) % 2 ≡ b % 2 = omega arith in
    ap (λ (k : ℕ). low_bits k (n * 2 ^ suc more + b)) size
    ∙ ap₂ (λ (m d : ℕ). low_bits (more + count) m ++ (d == 1) ∷ []) half last
    ∙ ap (λ (bs : List Bool). bs ++ (b % 2 == 1) ∷ []) (low_bits-append more count n (b / 2) (omega arith))
    ∙ append_assoc (low_bits count n) (low_bits more (b / 2)) ((b % 2 == 1) ∷ [])

flips : (a b : ℕ) → a + b ≡ 1 → not (b == 1) ≡ (a == 1)
flips zero zero h = absurd (omega arith)
flips zero (suc zero) h = refl
flips zero (suc (suc b)) h = absurd (omega arith)
flips (suc zero) zero h = refl
flips (suc (suc a)) zero h = absurd (omega arith)
flips (suc a) (suc b) h = absurd (omega arith)

-- two numbers that together have all bits have other bits
low_bits-not : (count n m : ℕ) → n + m + 1 ≡ 2 ^ count → map not (low_bits count m) ≡ low_bits count n
low_bits-not zero n m h = refl
low_bits-not (suc count) n m h =
    let power : 2 ^ suc count ≡ 2 * 2 ^ count = ap (λ (k : ℕ). 2 ^ k) (sym (add-one count)) ∙ pow-add 2 count 1 ∙ omega arith in
    map-append not (low_bits count (m / 2)) ((m % 2 == 1) ∷ [])
    ∙ ap₂ (λ (us : List Bool) (u : Bool). us ++ u ∷ []) (low_bits-not count (n / 2) (m / 2) (omega arith)) (flips (n % 2) (m % 2) (omega arith))

-- a byte behind its zero
low_bits-byte : (byte : ℕ) → byte < 256 → map not (low_bits 9 (256 + (255 - byte))) ≡ false ∷ low_bits 8 byte
low_bits-byte byte h =
    let front : 256 + (255 - byte) ≡ 1 * 2 ^ 8 + (255 - byte) = omega arith in
    ap (λ (n : ℕ). map not (low_bits 9 n)) front ∙ ap (map not) (low_bits-append 8 1 1 (255 - byte) (omega arith))
    ∙ ap (λ (bs : List Bool). false ∷ bs) (low_bits-not 8 byte (255 - byte) (omega arith))

bits_of-append : (xs ys : List ℕ) → bits_of (xs ++ ys) ≡ bits_of xs ++ bits_of ys
bits_of-append [] ys = refl
bits_of-append (x ∷ xs) ys = ap (λ (bs : List Bool). (false ∷ low_bits 8 x) ++ bs) (bits_of-append xs ys)

-- the preamble
abbrev ones : List Bool
ones = replicate 14 true

-- the set bits of the number are the zeros of these bytes after the preamble, of this number of
-- bits in all
pub record Holds (bytes : List ℕ) (zeros left : ℕ) : Type 0 where
  pub count : left ≡ 14 + 9 * length bytes
  pub bound : zeros < 2 ^ (9 * length bytes)
  pub image : map not (low_bits (14 + 9 * length bytes) zeros) ≡ ones ++ bits_of bytes

pub holds_none : Holds [] 0 14
holds_none = record { count = refl; bound = omega arith; image = refl }

pub holds_more : (bytes : List ℕ) (zeros left byte : ℕ) → byte < 256 → Holds bytes zeros left → Holds (bytes ++ byte ∷ []) (zeros * 512 + (256 + (255 - byte))) (left + 9)
holds_more bytes zeros left byte h k =
    let count = 14 + 9 * length bytes in
    let next = zeros * 512 + (256 + (255 - byte)) in
    let more : length (bytes ++ byte ∷ []) ≡ length bytes + 1 = length-append bytes (byte ∷ []) in
    let size : 14 + 9 * length (bytes ++ byte ∷ []) ≡ 9 + count = omega arith in
    let room : 9 * length (bytes ++ byte ∷ []) ≡ 9 * length bytes + 9 = omega arith in
    let power : 2 ^ (9 * length bytes + 9) ≡ 2 ^ (9 * length bytes) * 2 ^ 9 = pow-add 2 (9 * length bytes) 9 in
    let bound : next < 2 ^ (9 * length bytes + 9) = omega (arith, k.bound) in
    let image : map not (low_bits (9 + count) next) ≡ ones ++ bits_of (bytes ++ byte ∷ []) =
    ap (map not) (low_bits-append 9 count zeros (256 + (255 - byte)) (omega arith))
    ∙ map-append not (low_bits count zeros) (low_bits 9 (256 + (255 - byte)))
    ∙ ap₂ (λ (us vs : List Bool). us ++ vs) k.image (low_bits-byte byte h)
    ∙ append_assoc ones (bits_of bytes) (false ∷ low_bits 8 byte)
    ∙ ap (λ (bs : List Bool). ones ++ bs) (ap (λ (bs : List Bool). bits_of bytes ++ bs) (sym (append-nil (false ∷ low_bits 8 byte))) ∙ sym (bits_of-append bytes (byte ∷ []))) in
    record {
      count = omega (arith, k.count);
      bound = subst (λ (c : ℕ). next < 2 ^ c) (sym room) bound;
      image = subst (λ (c : ℕ). map not (low_bits c next) ≡ ones ++ bits_of (bytes ++ byte ∷ [])) (sym size) image;
    }

-- before the last of six bytes the number is a small one
pub small : (bytes : List ℕ) (index number left : ℕ) → length bytes ≤ 6 → index < length bytes → Holds (take index bytes) number left → number < 2 ^ 45
small bytes index number left six h k =
    let few : 9 * length (take index bytes) ≤ 45 = omega (arith, length-take-le index bytes (omega arith)) in
    omega (arith, k.bound, pow_mono few)

-- and the number of six bytes, with one bit more, is below the highest bit
pub room : (packet : List ℕ) (number left : ℕ) → length packet ≤ 6 → Holds packet number left → 2 * number < 2 ^ 63
room packet number left six k =
    let few : 9 * length packet ≤ 54 = omega (arith, six) in
    omega (arith, k.bound, pow_mono few)

pub at_most_six : (packet : List ℕ) → IsPacket packet → length packet ≤ 6
at_most_six packet h =
    let p = and_parts (has_packet_length packet) (list_all (λ b. nat_lt b 256) packet) h in
    leb-true (length packet) 6 (and_parts (nat_le 3 (length packet)) (nat_le (length packet) 6) p.0).1

-- the next of these bytes
pub holds_next : (bytes : List ℕ) (index zeros left others : ℕ) → index < length bytes → get_or bytes index 0 < 256 → others ≡ 255 - get_or bytes index 0 → Holds (take index bytes) zeros left → Holds (take (index + 1) bytes) (zeros * 512 + 256 + others) (left + 9)
holds_next bytes index zeros left others h l e k =
    let byte = get_or bytes index 0 in
    let all : zeros * 512 + 256 + others ≡ zeros * 512 + (256 + (255 - byte)) = omega arith in
    rw all (subst (λ (bs : List ℕ). Holds bs (zeros * 512 + (256 + (255 - byte))) (left + 9)) (sym (take_more bytes index 0 h)) (holds_more (take index bytes) zeros left byte l k))

-- with the one that closes it they are the bits of the packet
pub whole : (packet : List ℕ) (zeros left : ℕ) → Holds packet zeros left → both_halves (2 * zeros) (left + 1) ≡ halves_of packet
unfolding halves_of
whole packet zeros left k =
    let count = 14 + 9 * length packet in
    let size : left + 1 ≡ 1 + count = omega (arith, k.count) in
    let same : 2 * zeros ≡ zeros * 2 ^ 1 + 0 = omega arith in
    let image : map not (low_bits (1 + count) (zeros * 2 ^ 1 + 0)) ≡ ones ++ (bits_of packet ++ true ∷ []) =
    ap (map not) (low_bits-append 1 count zeros 0 (omega arith)) ∙ map-append not (low_bits count zeros) (low_bits 1 0)
    ∙ ap (λ (bs : List Bool). bs ++ true ∷ []) k.image ∙ append_assoc ones (bits_of packet) (true ∷ []) in
    ap₂ both_halves same size ∙ halves-bits (1 + count) (zeros * 2 ^ 1 + 0) ∙ ap (λ (bs : List Bool). map micros (doubled bs)) image

length-doubled : (bs : List Bool) → length (doubled bs) ≡ 2 * length bs
length-doubled [] = refl
length-doubled (b ∷ bs) = omega (arith, length-doubled bs)

length-bits_of : (bytes : List ℕ) → length (bits_of bytes) ≡ 9 * length bytes
length-bits_of [] = refl
length-bits_of (b ∷ bs) = omega (arith, length-bits_of bs)

pub length-halves_of : (packet : List ℕ) → length (halves_of packet) ≡ 2 * (15 + 9 * length packet)
unfolding halves_of
length-halves_of packet =
    let bits = replicate 14 true ++ (bits_of packet ++ true ∷ []) in
    length-map (doubled bits) micros ∙ length-doubled bits ∙ omega (arith, length-append (bits_of packet) (true ∷ []), length-bits_of packet)

heard_back : (bs : List Bool) → map bit_of (map micros bs) ≡ map Some bs
heard_back [] = refl
heard_back (true ∷ bs) = ap (λ (ks : List (Option Bool)). Some true ∷ ks) (heard_back bs)
heard_back (false ∷ bs) = ap (λ (ks : List (Option Bool)). Some false ∷ ks) (heard_back bs)

-- the halves of a packet are a wave of it
pub wave : (packet : List ℕ) → IsWave packet (halves_of packet)
unfolding halves_of
wave packet = (28, omega arith, heard_back (doubled (replicate 14 true ++ (bits_of packet ++ true ∷ []))))
