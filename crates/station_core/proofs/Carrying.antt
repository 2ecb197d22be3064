-- What is read of a packet in OPC_IMM_PACKET.
use Rattle.std.proofs.Common.{◌≡◌, ℕ, zero, suc, ◌*◌, ◌%◌, ◌^◌, ◌<◌, ◌≤◌, ◌&&◌, nat_lt, nat_le, true, List, [], ◌∷◌, ◌++◌, length, take, get_or, add-one, refl, sym, ap, ap₂, ◌∙◌, arith}
use Rattle.std.specs.List.{AllByRecursion, list_all}
use Rattle.std.proofs.lemmas.Bool.{and_parts, lt-ltb, ltb-true, leb-true}
use Rattle.std.proofs.lemmas.Nat.{pow-add}
use Rattle.std.proofs.Math.Pow.{pow_mono}
use Rattle.ln_frame.specs.Message.{are_data, check_of, is_body, IsWhole}
use Rattle.ln_ops.specs.Message.{op_of}
use Rattle.station_core.specs.ImmediatePackets.{can_carry, carried_by, carrying, carrying_body, dhi_of, high_bits, reps_of}

abbrev are_bytes : List ℕ → Type 0
are_bytes bytes = list_all (λ byte. nat_lt byte 256) bytes ≡ true

record CanCarry (repeats : ℕ) (bytes : List ℕ) : Type 0 where
  few_repeats : repeats < 8
  some : 1 ≤ length bytes
  few : length bytes ≤ 5
  low : are_bytes bytes

can : (repeats : ℕ) (bytes : List ℕ) → can_carry repeats bytes ≡ true → CanCarry repeats bytes
can repeats bytes h =
    let p = and_parts (nat_lt repeats 8) (nat_le 1 (length bytes) && (nat_le (length bytes) 5 && list_all (λ byte. nat_lt byte 256) bytes)) h in
    let q = and_parts (nat_le 1 (length bytes)) (nat_le (length bytes) 5 && list_all (λ byte. nat_lt byte 256) bytes) p.1 in
    let r = and_parts (nat_le (length bytes) 5) (list_all (λ byte. nat_lt byte 256) bytes) q.1 in
    record { few_repeats = ltb-true repeats 8 p.0; some = leb-true 1 (length bytes) q.0; few = leb-true (length bytes) 5 r.0; low = r.1 }

each : (byte : ℕ) (bytes : List ℕ) → are_bytes (byte ∷ bytes) → (byte < 256) × are_bytes bytes
each byte bytes h =
    let p = and_parts (nat_lt byte 256) (list_all (λ byte. nat_lt byte 256) bytes) h in
    (ltb-true byte 256 p.0, p.1)

lows : (bytes : List ℕ) → are_bytes bytes → AllByRecursion (λ byte. byte < 256) bytes
lows [] h = tt
lows (byte ∷ bytes) h = let p = each byte bytes h in (p.0, lows bytes p.1)

-- ---- as many of the five as count

took : (n k x1 x2 x3 x4 x5 : ℕ) (bytes : List ℕ) → n ≡ k → take k (x1 ∷ x2 ∷ x3 ∷ x4 ∷ x5 ∷ []) ≡ bytes → take n (x1 ∷ x2 ∷ x3 ∷ x4 ∷ x5 ∷ []) ≡ bytes
took n k x1 x2 x3 x4 x5 bytes e h = ap (λ (j : ℕ). take j (x1 ∷ x2 ∷ x3 ∷ x4 ∷ x5 ∷ [])) e ∙ h

onto : (x y : ℕ) (xs ys : List ℕ) → x ≡ y → xs ≡ ys → x ∷ xs ≡ y ∷ ys
onto x y xs ys e es = ap₂ (λ (z : ℕ) (zs : List ℕ). z ∷ zs) e es

read : (repeats check : ℕ) (bytes : List ℕ) → CanCarry repeats bytes → carried_by (op_of (carrying_body repeats bytes ++ check ∷ [])) ≡ bytes
read repeats check [] h = absurd (let some = h.some in omega arith)
read repeats check (a ∷ []) h =
    let few : repeats < 8 = h.few_repeats in
    let low = lows (a ∷ []) h.low in
    let la : a < 256 = low.0 in
    took _ 1 _ _ _ _ _ (a ∷ []) (omega arith) (onto _ _ _ _ (omega arith) refl)
read repeats check (a ∷ b ∷ []) h =
    let few : repeats < 8 = h.few_repeats in
    let low = lows (a ∷ b ∷ []) h.low in
    let la : a < 256 = low.0 in
    let lb : b < 256 = low.1.0 in
    took _ 2 _ _ _ _ _ (a ∷ b ∷ []) (omega arith) (onto _ _ _ _ (omega arith) (onto _ _ _ _ (omega arith) refl))
read repeats check (a ∷ b ∷ c ∷ []) h =
    let few : repeats < 8 = h.few_repeats in
    let low = lows (a ∷ b ∷ c ∷ []) h.low in
    let la : a < 256 = low.0 in
    let lb : b < 256 = low.1.0 in
    let lc : c < 256 = low.1.1.0 in
    took _ 3 _ _ _ _ _ (a ∷ b ∷ c ∷ []) (omega arith) (onto _ _ _ _ (omega arith) (onto _ _ _ _ (omega arith) (onto _ _ _ _ (omega arith) refl)))
read repeats check (a ∷ b ∷ c ∷ d ∷ []) h =
    let few : repeats < 8 = h.few_repeats in
    let low = lows (a ∷ b ∷ c ∷ d ∷ []) h.low in
    let la : a < 256 = low.0 in
    let lb : b < 256 = low.1.0 in
    let lc : c < 256 = low.1.1.0 in
    let ld : d < 256 = low.1.1.1.0 in
    took _ 4 _ _ _ _ _ (a ∷ b ∷ c ∷ d ∷ []) (omega arith) (onto _ _ _ _ (omega arith) (onto _ _ _ _ (omega arith) (onto _ _ _ _ (omega arith) (onto _ _ _ _ (omega arith) refl))))
read repeats check (a ∷ b ∷ c ∷ d ∷ e ∷ []) h =
    let few : repeats < 8 = h.few_repeats in
    let low = lows (a ∷ b ∷ c ∷ d ∷ e ∷ []) h.low in
    let la : a < 256 = low.0 in
    let lb : b < 256 = low.1.0 in
    let lc : c < 256 = low.1.1.0 in
    let ld : d < 256 = low.1.1.1.0 in
    let le : e < 256 = low.1.1.1.1.0 in
    took _ 5 _ _ _ _ _ (a ∷ b ∷ c ∷ d ∷ e ∷ []) (omega arith)
    (onto _ _ _ _ (omega arith) (onto _ _ _ _ (omega arith) (onto _ _ _ _ (omega arith) (onto _ _ _ _ (omega arith) (onto _ _ _ _ (omega arith) refl)))))
read repeats check (a ∷ b ∷ c ∷ d ∷ e ∷ f ∷ rest) h = absurd (let many = h.few in omega arith)

pub read-back : (repeats : ℕ) (bytes : List ℕ) → can_carry repeats bytes ≡ true → carried_by (op_of (carrying repeats bytes)) ≡ bytes
read-back repeats bytes h = read repeats _ bytes (can repeats bytes h)

-- ---- a whole message

-- REPS, DHI and five bytes of data after ED 0B 7F
record AreSent (r d x1 x2 x3 x4 x5 : ℕ) : Type 0 where
  reps : r < 128
  dhi : d < 128
  im1 : x1 < 128
  im2 : x2 < 128
  im3 : x3 < 128
  im4 : x4 < 128
  im5 : x5 < 128

data-sent : (r d x1 x2 x3 x4 x5 : ℕ) → AreSent r d x1 x2 x3 x4 x5 → (check : List ℕ) → are_data check ≡ true → are_data (0x0B ∷ 0x7F ∷ r ∷ d ∷ x1 ∷ x2 ∷ x3 ∷ x4 ∷ x5 ∷ check) ≡ true
data-sent r d x1 x2 x3 x4 x5 s check k =
    rw (lt-ltb r 128 s.reps, lt-ltb d 128 s.dhi, lt-ltb x1 128 s.im1, lt-ltb x2 128 s.im2, lt-ltb x3 128 s.im3, lt-ltb x4 128 s.im4, lt-ltb x5 128 s.im5) k

get-data : (xs : List ℕ) → are_data xs ≡ true → (i : ℕ) → get_or xs i 0 < 256
get-data [] h i = omega arith
get-data (x ∷ xs) h zero =
    let p = and_parts (nat_lt x 128) (are_data xs) h in
    let low : x < 128 = ltb-true x 128 p.0 in
    omega arith
get-data (x ∷ xs) h (suc i) = get-data xs (and_parts (nat_lt x 128) (are_data xs) h).1 i

abbrev body_of : (r d x1 x2 x3 x4 x5 : ℕ) → List ℕ
body_of r d x1 x2 x3 x4 x5 = 0xED ∷ 0x0B ∷ 0x7F ∷ r ∷ d ∷ x1 ∷ x2 ∷ x3 ∷ x4 ∷ x5 ∷ []

-- the law of `ln_frame`
abbrev SealedIsWhole : Type 0
SealedIsWhole = (body : List ℕ) → ((i : ℕ) → get_or body i 0 < 256) → is_body body ≡ true → IsWhole (body ++ check_of body ∷ [])

closed : SealedIsWhole → (r d x1 x2 x3 x4 x5 : ℕ) → AreSent r d x1 x2 x3 x4 x5 → IsWhole (body_of r d x1 x2 x3 x4 x5 ++ check_of (body_of r d x1 x2 x3 x4 x5) ∷ [])
closed law r d x1 x2 x3 x4 x5 s = law (body_of r d x1 x2 x3 x4 x5) below form
  where
    form : is_body (body_of r d x1 x2 x3 x4 x5) ≡ true
    form = data-sent r d x1 x2 x3 x4 x5 s (0 ∷ []) refl

    below : (i : ℕ) → get_or (body_of r d x1 x2 x3 x4 x5) i 0 < 256
    below zero = omega arith
    below (suc i) = get-data (0x0B ∷ 0x7F ∷ r ∷ d ∷ x1 ∷ x2 ∷ x3 ∷ x4 ∷ x5 ∷ []) (data-sent r d x1 x2 x3 x4 x5 s [] refl) i

seven : (x : ℕ) → x % 128 < 128
seven x = omega arith

zeros : 0 < 128
zeros = omega arith

high-below : (bytes : List ℕ) → are_bytes bytes → high_bits bytes < 2 ^ length bytes
high-below [] h = omega arith
high-below (byte ∷ bytes) h =
    let p = each byte bytes h in
    let low : byte < 256 = p.0 in
    let more : high_bits bytes < 2 ^ length bytes = high-below bytes p.1 in
    let power : 2 ^ suc (length bytes) ≡ 2 * 2 ^ length bytes = ap (λ (n : ℕ). 2 ^ n) (sym (add-one (length bytes))) ∙ pow-add 2 (length bytes) 1 ∙ omega arith in
    omega arith

dhi-below : (repeats : ℕ) (bytes : List ℕ) → CanCarry repeats bytes → dhi_of bytes < 128
dhi-below repeats bytes h =
    let room : 2 ^ length bytes ≤ 2 ^ 5 = pow_mono h.few in
    let below : high_bits bytes < 2 ^ length bytes = high-below bytes h.low in
    omega arith

reps-below : (repeats : ℕ) (bytes : List ℕ) → CanCarry repeats bytes → reps_of (length bytes) repeats < 128
reps-below repeats bytes h = omega (arith, h.few, h.few_repeats)

whole : SealedIsWhole → (repeats : ℕ) (bytes : List ℕ) → CanCarry repeats bytes → IsWhole (carrying repeats bytes)
whole law repeats [] h = absurd (let some = h.some in omega arith)
whole law repeats (a ∷ []) h = closed law (reps_of 1 repeats) (dhi_of (a ∷ [])) (a % 128) 0 0 0 0 (record { reps = reps-below repeats _ h; dhi = dhi-below repeats _ h; im1 = seven a; im2 = zeros; im3 = zeros; im4 = zeros; im5 = zeros })
whole law repeats (a ∷ b ∷ []) h = closed law (reps_of 2 repeats) (dhi_of (a ∷ b ∷ [])) (a % 128) (b % 128) 0 0 0 (record { reps = reps-below repeats _ h; dhi = dhi-below repeats _ h; im1 = seven a; im2 = seven b; im3 = zeros; im4 = zeros; im5 = zeros })
whole law repeats (a ∷ b ∷ c ∷ []) h = closed law (reps_of 3 repeats) (dhi_of (a ∷ b ∷ c ∷ [])) (a % 128) (b % 128) (c % 128) 0 0 (record { reps = reps-below repeats _ h; dhi = dhi-below repeats _ h; im1 = seven a; im2 = seven b; im3 = seven c; im4 = zeros; im5 = zeros })
whole law repeats (a ∷ b ∷ c ∷ d ∷ []) h = closed law (reps_of 4 repeats) (dhi_of (a ∷ b ∷ c ∷ d ∷ [])) (a % 128) (b % 128) (c % 128) (d % 128) 0 (record { reps = reps-below repeats _ h; dhi = dhi-below repeats _ h; im1 = seven a; im2 = seven b; im3 = seven c; im4 = seven d; im5 = zeros })
whole law repeats (a ∷ b ∷ c ∷ d ∷ e ∷ []) h = closed law (reps_of 5 repeats) (dhi_of (a ∷ b ∷ c ∷ d ∷ e ∷ [])) (a % 128) (b % 128) (c % 128) (d % 128) (e % 128) (record { reps = reps-below repeats _ h; dhi = dhi-below repeats _ h; im1 = seven a; im2 = seven b; im3 = seven c; im4 = seven d; im5 = seven e })
whole law repeats (a ∷ b ∷ c ∷ d ∷ e ∷ f ∷ rest) h = absurd (let many = h.few in omega arith)

pub whole-carrying : SealedIsWhole → (repeats : ℕ) (bytes : List ℕ) → can_carry repeats bytes ≡ true → IsWhole (carrying repeats bytes)
whole-carrying law repeats bytes h = whole law repeats bytes (can repeats bytes h)
