-- The relation `Spells` and the function `instruction_of` say the same.
use Rattle.std.proofs.Common.{◌≡◌, IsTrue, ◌⊎◌, ◌↔◌, ℕ, ◌+◌, ◌-◌, ◌*◌, ◌/◌, ◌%◌, ◌<◌, ◌≤◌, ◌==◌, ◌&&◌, nat_le, nat_lt, Bool, true, false, if◌then◌else◌, List, [], ◌∷◌, Option, Some, None, bit_xor, refl, sym, ap, ap₂, subst, ◌∙◌, arith, inl, inr, eq-eqb, ne_eqb, eqb-true}
use Rattle.std.proofs.lemmas.Bool.{and_parts, and_from, cases_eq, lt-leb, le-leb, lt-ltb, ltb-true, leb-true}
use Rattle.std.specs.List.{list_all}
use Rattle.dcc_packet.proofs.Bytes.{packet-with_check}
use Rattle.std.specs.Int.Bits.{xor_assoc, xor_self, xor_zero_l, xor_zero_r}
use Rattle.dcc_packet.specs.declared.address.Address.{Address}
use Rattle.dcc_packet.specs.declared.address.Address.TheVariants.{Short, Long}
use Rattle.dcc_packet.specs.declared.instr.Instr.{Instr}
use Rattle.dcc_packet.specs.declared.instr.Instr.TheVariants.{Idle, Reset, StopAll, Speed, Speed128, GroupOne, GroupTwo, GroupThree, Accessory}
use Rattle.dcc_packet.specs.Address.{is_legal}
use Rattle.dcc_packet.specs.Form.{bit, with_check}
use Rattle.dcc_packet.specs.Module.{is_module}
use Rattle.dcc_packet.specs.Packet.{has_packet_length, xor_of, is_checked, is_packet}
use Rattle.dcc_packet.specs.Spells.{Tells, Spells}
use Rattle.dcc_packet.specs.Reading.{is_set, broadcast_of, accessory_of, short_form_of, long_form_of, addressed_of, long_addressed_of, other_of, form_of, instruction_of}

same_instr : (i j : Instr) → Some i ≡ Some j → i ≡ j
same_instr i j e = cc

not_none : (i : Instr) → None ≡ Some i → ⊥
not_none i e = cc

-- bits
bit-le : (b : Bool) → bit b ≤ 1
bit-le true = omega arith
bit-le false = omega arith

bit_set : (n : ℕ) (b : Bool) → n % 2 ≡ bit b → is_set n ≡ b
bit_set n true e = eq-eqb (n % 2) 1 e
bit_set n false e = ne_eqb (n % 2) 1 (λ h. omega arith)

set_bit : (n : ℕ) → bit (is_set n) ≡ n % 2
set_bit n = elim (cases_eq (n % 2) 1) [
  | inl e ↦ rw (eq-eqb (n % 2) 1 e) (sym e)
  | inr ne ↦ rw (ne_eqb (n % 2) 1 ne) (omega arith)
]

-- the check byte
xor_same : (x c : ℕ) → bit_xor x c ≡ 0 → c ≡ x
xor_same x c e = sym (xor_zero_l c) ∙ ap (λ (z : ℕ). bit_xor z c) (sym (xor_self x)) ∙ xor_assoc x x c ∙ ap (λ (z : ℕ). bit_xor x z) e ∙ xor_zero_r x

checked_two : (a b c : ℕ) → is_checked (a ∷ b ∷ c ∷ []) ≡ true → a ∷ b ∷ c ∷ [] ≡ with_check (a ∷ b ∷ [])
checked_two a b c h = ap (λ (z : ℕ). a ∷ b ∷ z ∷ []) (xor_same (xor_of (a ∷ b ∷ [])) c (eqb-true (xor_of (a ∷ b ∷ c ∷ [])) 0 h))

checked_three : (a b c d : ℕ) → is_checked (a ∷ b ∷ c ∷ d ∷ []) ≡ true → a ∷ b ∷ c ∷ d ∷ [] ≡ with_check (a ∷ b ∷ c ∷ [])
checked_three a b c d h = ap (λ (z : ℕ). a ∷ b ∷ c ∷ z ∷ []) (xor_same (xor_of (a ∷ b ∷ c ∷ [])) d (eqb-true (xor_of (a ∷ b ∷ c ∷ d ∷ [])) 0 h))

checked_four : (a b c d e : ℕ) → is_checked (a ∷ b ∷ c ∷ d ∷ e ∷ []) ≡ true → a ∷ b ∷ c ∷ d ∷ e ∷ [] ≡ with_check (a ∷ b ∷ c ∷ d ∷ [])
checked_four a b c d e h = ap (λ (z : ℕ). a ∷ b ∷ c ∷ d ∷ z ∷ []) (xor_same (xor_of (a ∷ b ∷ c ∷ d ∷ [])) e (eqb-true (xor_of (a ∷ b ∷ c ∷ d ∷ e ∷ [])) 0 h))

-- one byte behind an address
module _ (address : Address) (b : ℕ) where
  speed_form : (d : Bool) (low : ℕ) → b / 64 ≡ 1 → b / 32 % 2 ≡ bit d → b % 32 ≡ low → short_form_of address b ≡ Some (Speed address d low)
  unfolding short_form_of
  speed_form d low e f g = rw (eq-eqb (b / 64) 1 e, bit_set (b / 32) d f, g) refl

  one_form : (bits : ℕ) → b / 32 ≡ 4 → b % 32 ≡ bits → short_form_of address b ≡ Some (GroupOne address bits)
  unfolding short_form_of
  one_form bits e f = rw (ne_eqb (b / 64) 1 (λ h. omega arith), eq-eqb (b / 32) 4 e, f) refl

  two_form : (bits : ℕ) → b / 16 ≡ 11 → b % 16 ≡ bits → short_form_of address b ≡ Some (GroupTwo address bits)
  unfolding short_form_of
  two_form bits e f = rw (ne_eqb (b / 64) 1 (λ h. omega arith), ne_eqb (b / 32) 4 (λ h. omega arith), eq-eqb (b / 16) 11 e, f) refl

  three_form : (bits : ℕ) → b / 16 ≡ 10 → b % 16 ≡ bits → short_form_of address b ≡ Some (GroupThree address bits)
  unfolding short_form_of
  three_form bits e f = rw (ne_eqb (b / 64) 1 (λ h. omega arith), ne_eqb (b / 32) 4 (λ h. omega arith), ne_eqb (b / 16) 11 (λ h. omega arith), eq-eqb (b / 16) 10 e, f) refl

  low_is : b / 64 ≡ 1 → b ≡ 64 + 32 * bit (is_set (b / 32)) + b % 32
  low_is e = omega (arith, set_bit (b / 32))

  short_sound : (bytes : List ℕ) (i : Instr) → Tells bytes address (b ∷ []) → short_form_of address b ≡ Some i → Spells bytes i
  unfolding short_form_of
  short_sound bytes i tells = elim (cases_eq (b / 64) 1) [
    | inl is ↦ λ e.
        let same : Speed address (is_set (b / 32)) (b % 32) ≡ i = same_instr _ _ (rw (eq-eqb (b / 64) 1 is) at e) in
        subst (Spells bytes) same (omega arith, subst (λ n. Tells bytes address (n ∷ [])) (low_is is) tells)
    | inr not ↦ elim (cases_eq (b / 32) 4) [
      | inl is ↦ λ e.
          let same : GroupOne address (b % 32) ≡ i = same_instr _ _ (rw (ne_eqb (b / 64) 1 not, eq-eqb (b / 32) 4 is) at e) in
          let low : b ≡ 128 + b % 32 = omega arith in
          subst (Spells bytes) same (omega arith, subst (λ n. Tells bytes address (n ∷ [])) low tells)
      | inr neither ↦ elim (cases_eq (b / 16) 11) [
        | inl is ↦ λ e.
            let same : GroupTwo address (b % 16) ≡ i = same_instr _ _ (rw (ne_eqb (b / 64) 1 not, ne_eqb (b / 32) 4 neither, eq-eqb (b / 16) 11 is) at e) in
            let low : b ≡ 176 + b % 16 = omega arith in
            subst (Spells bytes) same (omega arith, subst (λ n. Tells bytes address (n ∷ [])) low tells)
        | inr nor ↦ elim (cases_eq (b / 16) 10) [
          | inl is ↦ λ e.
              let same : GroupThree address (b % 16) ≡ i =
              same_instr _ _ (rw (ne_eqb (b / 64) 1 not, ne_eqb (b / 32) 4 neither, ne_eqb (b / 16) 11 nor, eq-eqb (b / 16) 10 is) at e) in
              let low : b ≡ 160 + b % 16 = omega arith in
              subst (Spells bytes) same (omega arith, subst (λ n. Tells bytes address (n ∷ [])) low tells)
          | inr none ↦ λ e. absurd (not_none i (rw (ne_eqb (b / 64) 1 not, ne_eqb (b / 32) 4 neither, ne_eqb (b / 16) 11 nor, ne_eqb (b / 16) 10 none) at e))
        ]
      ]
    ]
  ]

-- two bytes behind an address
long_complete : (address : Address) (d : Bool) (s b : ℕ) → b / 128 % 2 ≡ bit d → b % 128 ≡ s → long_form_of address 63 b ≡ Some (Speed128 address d s)
unfolding long_form_of
long_complete address d s b e f = rw (bit_set (b / 128) d e, f) refl

long_sound : (address : Address) (a b : ℕ) (bytes : List ℕ) (i : Instr) → b < 256 → Tells bytes address (a ∷ b ∷ []) → long_form_of address a b ≡ Some i → Spells bytes i
unfolding long_form_of
long_sound address a b bytes i below tells = elim (cases_eq a 63) [
  | inl is ↦ λ e.
      let same : Speed128 address (is_set (b / 128)) (b % 128) ≡ i = same_instr _ _ (rw (eq-eqb a 63 is) at e) in
      let low : b ≡ 128 * bit (is_set (b / 128)) + b % 128 = omega (arith, set_bit (b / 128)) in
      subst (Spells bytes) same (omega arith, subst (λ n. Tells bytes address (63 ∷ n ∷ [])) low (subst (λ n. Tells bytes address (n ∷ b ∷ [])) is tells))
  | inr not ↦ λ e. absurd (not_none i (rw (ne_eqb a 63 not) at e))
]

-- a basic accessory packet
accessory_form : (number pair first second : ℕ) (closed on : Bool) → first % 64 ≡ number % 64 → 7 - second / 16 % 8 ≡ number / 64 → 128 ≤ second → second / 2 % 4 ≡ pair → second % 2 ≡ bit closed → second / 8 % 2 ≡ bit on → is_module number ≡ true → accessory_of first second ≡ Some (Accessory number pair closed on)
unfolding accessory_of
accessory_form number pair first second closed on e f high g h k legal =
    let same : first % 64 + 64 * (7 - second / 16 % 8) ≡ number = omega arith in
    rw (same, g, bit_set second closed h, bit_set (second / 8) on k, le-leb 128 second high, legal) refl

accessory_sound : (first second : ℕ) (bytes : List ℕ) (i : Instr) → first / 64 ≡ 2 → second < 256 → bytes ≡ with_check (first ∷ second ∷ []) → accessory_of first second ≡ Some i → Spells bytes i
unfolding accessory_of
accessory_sound first second bytes i is below sealed = by_test (nat_le 128 second && is_module number) refl where
  number : ℕ
  number = first % 64 + 64 * (7 - second / 16 % 8)

  by_test : (b : Bool) → (nat_le 128 second && is_module number) ≡ b → (if b then Some (Accessory number (second / 2 % 4) (is_set second) (is_set (second / 8))) else None) ≡ Some i → Spells bytes i
  by_test false t e = absurd (not_none i e)
  by_test true t e =
      let parts = and_parts (nat_le 128 second) (is_module number) t in
      let high : 128 ≤ second = leb-true 128 second parts.0 in
      let first_is : first ≡ 128 + number % 64 = omega arith in
      let second_is : second ≡ 128 + 16 * (7 - number / 64) + 8 * bit (is_set (second / 8)) + 2 * (second / 2 % 4) + bit (is_set second) =
      omega (arith, set_bit second, set_bit (second / 8)) in
      subst (Spells bytes) (same_instr _ i e) (parts.1, omega arith, sealed ∙ ap₂ (λ (m n : ℕ). with_check (m ∷ n ∷ [])) first_is second_is)

-- a packet with a right check is read by its form
pub opens : (bytes : List ℕ) → is_packet bytes ≡ true → is_checked bytes ≡ true → instruction_of bytes ≡ form_of bytes
unfolding instruction_of
opens bytes p q = rw (p, q) refl

two_open : (a b : ℕ) → a < 256 → b < 256 → instruction_of (with_check (a ∷ b ∷ [])) ≡ form_of (with_check (a ∷ b ∷ []))
two_open a b below_a below_b =
    opens (with_check (a ∷ b ∷ []))
    (packet-with_check (a ∷ b ∷ []) (and_from _ _ (lt-ltb a 256 below_a) (and_from _ _ (lt-ltb b 256 below_b) refl)) (omega arith) (omega arith))
    (eq-eqb (xor_of (with_check (a ∷ b ∷ []))) 0 (xor_self (xor_of (a ∷ b ∷ []))))

three_open : (a b c : ℕ) → a < 256 → b < 256 → c < 256 → instruction_of (with_check (a ∷ b ∷ c ∷ [])) ≡ form_of (with_check (a ∷ b ∷ c ∷ []))
three_open a b c below_a below_b below_c =
    opens (with_check (a ∷ b ∷ c ∷ []))
    (packet-with_check (a ∷ b ∷ c ∷ []) (and_from _ _ (lt-ltb a 256 below_a) (and_from _ _ (lt-ltb b 256 below_b) (and_from _ _ (lt-ltb c 256 below_c) refl))) (omega arith) (omega arith))
    (eq-eqb (xor_of (with_check (a ∷ b ∷ c ∷ []))) 0 (xor_self (xor_of (a ∷ b ∷ c ∷ []))))

four_open : (a b c d : ℕ) → a < 256 → b < 256 → c < 256 → d < 256 → instruction_of (with_check (a ∷ b ∷ c ∷ d ∷ [])) ≡ form_of (with_check (a ∷ b ∷ c ∷ d ∷ []))
four_open a b c d below_a below_b below_c below_d =
    opens (with_check (a ∷ b ∷ c ∷ d ∷ []))
    (packet-with_check (a ∷ b ∷ c ∷ d ∷ []) (and_from _ _ (lt-ltb a 256 below_a) (and_from _ _ (lt-ltb b 256 below_b) (and_from _ _ (lt-ltb c 256 below_c) (and_from _ _ (lt-ltb d 256 below_d) refl)))) (omega arith) (omega arith))
    (eq-eqb (xor_of (with_check (a ∷ b ∷ c ∷ d ∷ []))) 0 (xor_self (xor_of (a ∷ b ∷ c ∷ d ∷ []))))

-- the form by the first byte
short_address : (n : ℕ) (rest : List ℕ) → is_legal (Short n) ≡ true → form_of (n ∷ rest) ≡ addressed_of (Short n) rest
short_address n rest legal = rw legal refl

long_address : (n : ℕ) (rest : List ℕ) → is_legal (Long n) ≡ true → form_of ((192 + n / 256) ∷ (n % 256) ∷ rest) ≡ addressed_of (Long n) rest
unfolding long_addressed_of
long_address n rest legal =
    let below : n ≤ 10239 = leb-true n 10239 legal in
    let back : (192 + n / 256 - 192) * 256 + n % 256 ≡ n = omega arith in
    rw (lt-leb (192 + n / 256) 127 (omega arith), le-leb 1 (192 + n / 256) (omega arith), le-leb 192 (192 + n / 256) (omega arith), le-leb (192 + n / 256) 231 (omega arith), back) refl

legal_short : (n : ℕ) → is_legal (Short n) ≡ true → n < 256
legal_short n legal = let parts = and_parts (nat_le 1 n) (nat_le n 127) legal in let below : n ≤ 127 = leb-true n 127 parts.1 in omega arith

one_told : (bytes : List ℕ) (address : Address) (b : ℕ) → b < 256 → Tells bytes address (b ∷ []) → instruction_of bytes ≡ short_form_of address b
unfolding addressed_of
one_told bytes (Short n) b below tells =
    rw tells.1 (two_open n b (legal_short n tells.0) below ∙ short_address n (b ∷ xor_of (n ∷ b ∷ []) ∷ []) tells.0)
one_told bytes (Long n) b below tells =
    let high : n ≤ 10239 = leb-true n 10239 tells.0 in
    rw tells.1 (three_open (192 + n / 256) (n % 256) b (omega arith) (omega arith) below ∙ long_address n (b ∷ xor_of ((192 + n / 256) ∷ (n % 256) ∷ b ∷ []) ∷ []) tells.0)

two_told : (bytes : List ℕ) (address : Address) (a b : ℕ) → a < 256 → b < 256 → Tells bytes address (a ∷ b ∷ []) → instruction_of bytes ≡ long_form_of address a b
unfolding addressed_of
two_told bytes (Short n) a b below_a below tells =
    rw tells.1 (three_open n a b (legal_short n tells.0) below_a below ∙ short_address n (a ∷ b ∷ xor_of (n ∷ a ∷ b ∷ []) ∷ []) tells.0)
two_told bytes (Long n) a b below_a below tells =
    let high : n ≤ 10239 = leb-true n 10239 tells.0 in
    rw tells.1 (four_open (192 + n / 256) (n % 256) a b (omega arith) (omega arith) below_a below ∙ long_address n (a ∷ b ∷ xor_of ((192 + n / 256) ∷ (n % 256) ∷ a ∷ b ∷ []) ∷ []) tells.0)

other_address : (first : ℕ) (rest : List ℕ) → first / 64 ≡ 2 → form_of (first ∷ rest) ≡ other_of first rest
other_address first rest is =
    rw (lt-leb first 127 (omega arith), le-leb 1 first (omega arith), lt-leb 192 first (omega arith)) refl

accessory_other : (first second check : ℕ) → first / 64 ≡ 2 → other_of first (second ∷ check ∷ []) ≡ accessory_of first second
unfolding other_of
accessory_other first second check is = rw (ne_eqb first 0 (λ h. omega arith), eq-eqb (first / 64) 2 is) refl

-- whatever bytes spell is their instruction
pub complete : (bytes : List ℕ) (i : Instr) → Spells bytes i → instruction_of bytes ≡ Some i
unfolding other_of broadcast_of
complete bytes Idle s = rw s (two_open 255 0 (omega arith) (omega arith))
complete bytes Reset s = rw s (two_open 0 0 (omega arith) (omega arith))
complete bytes (StopAll emergency) s = rw s.2 (two_open 0 (64 + 32 * bit s.0 + 16 * bit s.1 + bit emergency) (omega arith) (omega (arith, bit-le s.0, bit-le s.1, bit-le emergency)) ∙ stop_form s.0 s.1 emergency) where
  stop_form : (d c e : Bool) → form_of (with_check (0 ∷ (64 + 32 * bit d + 16 * bit c + bit e) ∷ [])) ≡ Some (StopAll e)
  stop_form true true true = refl
  stop_form true true false = refl
  stop_form true false true = refl
  stop_form true false false = refl
  stop_form false true true = refl
  stop_form false true false = refl
  stop_form false false true = refl
  stop_form false false false = refl
complete bytes (Speed address d low) s =
    one_told bytes address (64 + 32 * bit d + low) (omega (arith, bit-le d)) s.1 ∙ speed_form address (64 + 32 * bit d + low) d low (omega (arith, bit-le d)) (omega (arith, bit-le d)) (omega (arith, bit-le d))
complete bytes (Speed128 address d n) s =
    two_told bytes address 63 (128 * bit d + n) (omega arith) (omega (arith, bit-le d)) s.1 ∙ long_complete address d n (128 * bit d + n) (omega (arith, bit-le d)) (omega (arith, bit-le d))
complete bytes (GroupOne address bits) s =
    one_told bytes address (128 + bits) (omega arith) s.1 ∙ one_form address (128 + bits) bits (omega arith) (omega arith)
complete bytes (GroupTwo address bits) s =
    one_told bytes address (176 + bits) (omega arith) s.1 ∙ two_form address (176 + bits) bits (omega arith) (omega arith)
complete bytes (GroupThree address bits) s =
    one_told bytes address (160 + bits) (omega arith) s.1 ∙ three_form address (160 + bits) bits (omega arith) (omega arith)
complete bytes (Accessory number pair closed on) s =
    let parts = and_parts (nat_le 1 number) (nat_le number 510) s.0 in
    let few : number ≤ 510 = leb-true number 510 parts.1 in
    let first = 128 + number % 64 in
    let second = 128 + 16 * (7 - number / 64) + 8 * bit on + 2 * pair + bit closed in
    let row : second / 16 ≡ 8 + (7 - number / 64) = omega (arith, bit-le on, bit-le closed, s.1) in
    rw s.2 (
    two_open first second (omega arith) (omega (arith, bit-le on, bit-le closed, s.1))
    ∙ other_address first (second ∷ xor_of (first ∷ second ∷ []) ∷ []) (omega arith)
    ∙ accessory_other first second (xor_of (first ∷ second ∷ [])) (omega arith)
    ∙ accessory_form number pair first second closed on (omega arith) (omega (arith, row)) (omega arith) (omega (arith, bit-le on, bit-le closed, s.1)) (omega (arith, bit-le on, bit-le closed, s.1)) (omega (arith, bit-le on, bit-le closed, s.1)) s.0)

-- no bytes spell two instructions
pub spelled_once : (bytes : List ℕ) (i j : Instr) → Spells bytes i → Spells bytes j → i ≡ j
spelled_once bytes i j s t = same_instr i j (sym (complete bytes i s) ∙ complete bytes j t)

-- the parts of a packet's test
first_below : (first : ℕ) (rest : List ℕ) → is_packet (first ∷ rest) ≡ true → (first < 256) × (list_all (λ byte. nat_lt byte 256) rest ≡ true)
first_below first rest p =
    let all = and_parts (has_packet_length (first ∷ rest)) (list_all (λ byte. nat_lt byte 256) (first ∷ rest)) p in
    let parts = and_parts (nat_lt first 256) (list_all (λ byte. nat_lt byte 256) rest) all.1 in
    (ltb-true first 256 parts.0, parts.1)

head_below : (first : ℕ) (rest : List ℕ) → list_all (λ byte. nat_lt byte 256) (first ∷ rest) ≡ true → (first < 256) × (list_all (λ byte. nat_lt byte 256) rest ≡ true)
head_below first rest all =
    let parts = and_parts (nat_lt first 256) (list_all (λ byte. nat_lt byte 256) rest) all in
    (ltb-true first 256 parts.0, parts.1)

short_addressed_read : (n : ℕ) (rest : List ℕ) (i : Instr) → is_legal (Short n) ≡ true → list_all (λ byte. nat_lt byte 256) rest ≡ true → is_checked (n ∷ rest) ≡ true → addressed_of (Short n) rest ≡ Some i → Spells (n ∷ rest) i
unfolding addressed_of
short_addressed_read n [] i legal all checked e = absurd (not_none i e)
short_addressed_read n (a ∷ []) i legal all checked e = absurd (not_none i e)
short_addressed_read n (a ∷ b ∷ []) i legal all checked e = short_sound (Short n) a (n ∷ a ∷ b ∷ []) i (legal, checked_two n a b checked) e
short_addressed_read n (a ∷ b ∷ c ∷ []) i legal all checked e =
    long_sound (Short n) a b (n ∷ a ∷ b ∷ c ∷ []) i (head_below b (c ∷ []) (head_below a (b ∷ c ∷ []) all).1).0 (legal, checked_three n a b c checked) e
short_addressed_read n (a ∷ b ∷ c ∷ d ∷ rest) i legal all checked e = absurd (not_none i e)

long_addressed_read : (h l n : ℕ) (rest : List ℕ) (i : Instr) → h ≡ 192 + n / 256 → l ≡ n % 256 → is_legal (Long n) ≡ true → list_all (λ byte. nat_lt byte 256) rest ≡ true → is_checked (h ∷ l ∷ rest) ≡ true → addressed_of (Long n) rest ≡ Some i → Spells (h ∷ l ∷ rest) i
unfolding addressed_of
long_addressed_read h l n [] i high low legal all checked e = absurd (not_none i e)
long_addressed_read h l n (a ∷ []) i high low legal all checked e = absurd (not_none i e)
long_addressed_read h l n (a ∷ b ∷ []) i high low legal all checked e =
    short_sound (Long n) a (h ∷ l ∷ a ∷ b ∷ []) i (legal, checked_three h l a b checked ∙ ap₂ (λ (x y : ℕ). with_check (x ∷ y ∷ a ∷ [])) high low) e
long_addressed_read h l n (a ∷ b ∷ c ∷ []) i high low legal all checked e =
    long_sound (Long n) a b (h ∷ l ∷ a ∷ b ∷ c ∷ []) i (head_below b (c ∷ []) (head_below a (b ∷ c ∷ []) all).1).0 (legal, checked_four h l a b c checked ∙ ap₂ (λ (x y : ℕ). with_check (x ∷ y ∷ a ∷ b ∷ [])) high low) e
long_addressed_read h l n (a ∷ b ∷ c ∷ d ∷ rest) i high low legal all checked e = absurd (not_none i e)

long_addressed_sound : (h : ℕ) (rest : List ℕ) (i : Instr) → 192 ≤ h → h ≤ 231 → list_all (λ byte. nat_lt byte 256) rest ≡ true → is_checked (h ∷ rest) ≡ true → long_addressed_of h rest ≡ Some i → Spells (h ∷ rest) i
unfolding long_addressed_of
long_addressed_sound h [] i low high all checked e = absurd (not_none i e)
long_addressed_sound h (l ∷ rest) i low high all checked e =
    let parts = head_below l rest all in
    let below : l < 256 = parts.0 in
    long_addressed_read h l ((h - 192) * 256 + l) rest i (omega arith) (omega arith) (le-leb ((h - 192) * 256 + l) 10239 (omega arith)) parts.1 checked e

broadcast_sound : (b : ℕ) (bytes : List ℕ) (i : Instr) → bytes ≡ with_check (0 ∷ b ∷ []) → broadcast_of b ≡ Some i → Spells bytes i
unfolding broadcast_of
broadcast_sound b bytes i sealed = elim (cases_eq b 0) [
  | inl is ↦ λ e.
      let same : Reset ≡ i = same_instr _ _ (rw (eq-eqb b 0 is) at e) in
      subst (Spells bytes) same (sealed ∙ ap (λ (n : ℕ). with_check (0 ∷ n ∷ [])) is)
  | inr not ↦ by_test (((b / 64) == 1) && ((b / 2 % 8) == 0)) refl not
] where
  by_test : (t : Bool) → (((b / 64) == 1) && ((b / 2 % 8) == 0)) ≡ t → (b ≡ 0 → ⊥) → broadcast_of b ≡ Some i → Spells bytes i
  by_test false t not = λ e. absurd (not_none i (rw (ne_eqb b 0 not, t) at e))
  by_test true t not = λ e.
      let parts = and_parts ((b / 64) == 1) ((b / 2 % 8) == 0) t in
      let high : b / 64 ≡ 1 = eqb-true (b / 64) 1 parts.0 in
      let middle : b / 2 % 8 ≡ 0 = eqb-true (b / 2 % 8) 0 parts.1 in
      let same : StopAll (is_set b) ≡ i = same_instr _ _ (rw (ne_eqb b 0 not, t) at e) in
      let is : b ≡ 64 + 32 * bit (is_set (b / 32)) + 16 * bit (is_set (b / 16)) + bit (is_set b) = omega (arith, set_bit (b / 32), set_bit (b / 16), set_bit b) in
      subst (Spells bytes) same (is_set (b / 32), is_set (b / 16), sealed ∙ ap (λ (n : ℕ). with_check (0 ∷ n ∷ [])) is)

other_sound : (first : ℕ) (rest : List ℕ) (i : Instr) → list_all (λ byte. nat_lt byte 256) rest ≡ true → is_checked (first ∷ rest) ≡ true → other_of first rest ≡ Some i → Spells (first ∷ rest) i
unfolding other_of
other_sound first [] i all checked = λ e. absurd (not_none i e)
other_sound first (a ∷ []) i all checked = λ e. absurd (not_none i e)
other_sound first (second ∷ check ∷ []) i all checked = by_zero (cases_eq first 0) where
  sealed : first ∷ second ∷ check ∷ [] ≡ with_check (first ∷ second ∷ [])
  sealed = checked_two first second check checked

  by_idle : (t : Bool) → ((first == 255) && (second == 0)) ≡ t → (first ≡ 0 → ⊥) → (first / 64 ≡ 2 → ⊥) → other_of first (second ∷ check ∷ []) ≡ Some i → Spells (first ∷ second ∷ check ∷ []) i
  by_idle false t not neither = λ e. absurd (not_none i (rw (ne_eqb first 0 not, ne_eqb (first / 64) 2 neither, t) at e))
  by_idle true t not neither = λ e.
      let parts = and_parts (first == 255) (second == 0) t in
      let first_is : first ≡ 255 = eqb-true first 255 parts.0 in
      let second_is : second ≡ 0 = eqb-true second 0 parts.1 in
      let same : Idle ≡ i = same_instr _ _ (rw (ne_eqb first 0 not, ne_eqb (first / 64) 2 neither, t) at e) in
      subst (Spells (first ∷ second ∷ check ∷ [])) same (sealed ∙ ap₂ (λ (x y : ℕ). with_check (x ∷ y ∷ [])) first_is second_is)

  by_module : (first ≡ 0 → ⊥) → (first / 64 ≡ 2) ⊎ (first / 64 ≡ 2 → ⊥) → other_of first (second ∷ check ∷ []) ≡ Some i → Spells (first ∷ second ∷ check ∷ []) i
  by_module not (inl is) = λ e.
      accessory_sound first second (first ∷ second ∷ check ∷ []) i is (head_below second (check ∷ []) all).0 sealed
      (rw (ne_eqb first 0 not, eq-eqb (first / 64) 2 is) at e)
  by_module not (inr neither) = by_idle ((first == 255) && (second == 0)) refl not neither

  by_zero : (first ≡ 0) ⊎ (first ≡ 0 → ⊥) → other_of first (second ∷ check ∷ []) ≡ Some i → Spells (first ∷ second ∷ check ∷ []) i
  by_zero (inl is) = λ e.
      broadcast_sound second (first ∷ second ∷ check ∷ []) i (sealed ∙ ap (λ (x : ℕ). with_check (x ∷ second ∷ [])) is) (rw (eq-eqb first 0 is) at e)
  by_zero (inr not) = by_module not (cases_eq (first / 64) 2)
other_sound first (a ∷ b ∷ c ∷ rest) i all checked = λ e. absurd (not_none i e)

form_sound : (bytes : List ℕ) (i : Instr) → is_packet bytes ≡ true → is_checked bytes ≡ true → form_of bytes ≡ Some i → Spells bytes i
form_sound [] i p checked = λ e. absurd (not_none i e)
form_sound (first ∷ rest) i p checked = by_short (nat_le 1 first && nat_le first 127) refl where
  all : list_all (λ byte. nat_lt byte 256) rest ≡ true
  all = (first_below first rest p).1

  by_long : (t : Bool) → (nat_le 192 first && nat_le first 231) ≡ t → (if t then long_addressed_of first rest else other_of first rest) ≡ Some i → Spells (first ∷ rest) i
  by_long true t e =
      let parts = and_parts (nat_le 192 first) (nat_le first 231) t in
      long_addressed_sound first rest i (leb-true 192 first parts.0) (leb-true first 231 parts.1) all checked e
  by_long false t e = other_sound first rest i all checked e

  by_short : (t : Bool) → (nat_le 1 first && nat_le first 127) ≡ t → (if t then addressed_of (Short first) rest else (if nat_le 192 first && nat_le first 231 then long_addressed_of first rest else other_of first rest)) ≡ Some i → Spells (first ∷ rest) i
  by_short true t e = short_addressed_read first rest i t all checked e
  by_short false t e = by_long (nat_le 192 first && nat_le first 231) refl e

-- an instruction of bytes is what they spell
pub sound : (bytes : List ℕ) (i : Instr) → instruction_of bytes ≡ Some i → Spells bytes i
unfolding instruction_of
sound bytes i = by_test (is_packet bytes && is_checked bytes) refl where
  by_test : (t : Bool) → (is_packet bytes && is_checked bytes) ≡ t → (if t then form_of bytes else None) ≡ Some i → Spells bytes i
  by_test false t e = absurd (not_none i e)
  by_test true t e = let parts = and_parts (is_packet bytes) (is_checked bytes) t in form_sound bytes i parts.0 parts.1 e

-- what an answer that is the instruction says
pub exact : (bytes : List ℕ) (answer : Option Instr) → answer ≡ instruction_of bytes → (i : Instr) → (answer ≡ Some i) ↔ Spells bytes i
exact bytes answer is i = (λ e. sound bytes i (sym is ∙ e), λ s. is ∙ complete bytes i s)

-- bytes that spell an instruction are a packet with a right check
pub spelled_checked : (bytes : List ℕ) (i : Instr) → Spells bytes i → IsTrue (is_packet bytes) × IsTrue (is_checked bytes)
unfolding instruction_of
spelled_checked bytes i s = by_test (is_packet bytes && is_checked bytes) refl (complete bytes i s) where
  by_test : (t : Bool) → (is_packet bytes && is_checked bytes) ≡ t → (if t then form_of bytes else None) ≡ Some i → IsTrue (is_packet bytes) × IsTrue (is_checked bytes)
  by_test false t e = absurd (not_none i e)
  by_test true t e = let parts = and_parts (is_packet bytes) (is_checked bytes) t in (parts.0, parts.1)
