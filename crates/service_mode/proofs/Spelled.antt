-- The function `packet_of` and the spelling `bytes_of` say the same.
use Rattle.std.proofs.Common.{◌≡◌, ℕ, ◌+◌, ◌*◌, ◌/◌, ◌%◌, ◌<◌, ◌≤◌, ◌==◌, ◌&&◌, nat_lt, Bool, true, false, if◌then◌else◌, List, [], ◌∷◌, Option, Some, None, option_map, get_or, IfSome, IsTrue, refl, sym, ap, subst, ◌∙◌, arith, inl, inr, eq-eqb, ne_eqb, eqb-true}
use Rattle.std.proofs.lemmas.Bool.{and_parts, and_from, cases_eq, lt-ltb, ltb-true}
use Rattle.service_mode.specs.declared.instruction.Instruction.{Instruction}
use Rattle.service_mode.specs.declared.instruction.Instruction.TheVariants.{VerifyByte, WriteByte, VerifyBit, WriteBit}
use Rattle.service_mode.specs.declared.packet.ServicePacket.{ServicePacket}
use Rattle.service_mode.specs.declared.packet.ServicePacket.TheVariants.{Reset, Direct}
use Rattle.service_mode.specs.Spelling.{digit, check_of, body_of, sealed, bytes_of, is_legal, is_legal_packet, is_same_bool, is_same}
use Rattle.service_mode.specs.Reading.{bit_form_of, instruction_of, packet_of}

digit-le : (b : Bool) → digit b ≤ 1
digit-le true = omega arith
digit-le false = omega arith

bit_set : (n : ℕ) (b : Bool) → n % 2 ≡ digit b → (n % 2 == 1) ≡ b
bit_set n true e = eq-eqb (n % 2) 1 e
bit_set n false e = ne_eqb (n % 2) 1 (λ h. omega arith)

set_bit : (n : ℕ) → digit (n % 2 == 1) ≡ n % 2
set_bit n = elim (cases_eq (n % 2) 1) [
  | inl e ↦ rw (eq-eqb (n % 2) 1 e) (sym e)
  | inr ne ↦ rw (ne_eqb (n % 2) 1 ne) (omega arith)
]

direct_read : (a b c : ℕ) → packet_of (a ∷ b ∷ c ∷ check_of a b c ∷ []) ≡ option_map Direct (instruction_of a b c)
unfolding packet_of
direct_read a b c = rw (eq-eqb (check_of a b c) (check_of a b c) refl) refl

module _ (a b c address : ℕ) (f : a % 4 * 256 + b ≡ address) where
  verify_form : a / 4 ≡ 29 → instruction_of a b c ≡ Some (VerifyByte address c)
  unfolding instruction_of
  verify_form e = rw (eq-eqb (a / 4) 29 e, f) refl

  write_form : a / 4 ≡ 31 → instruction_of a b c ≡ Some (WriteByte address c)
  unfolding instruction_of
  write_form e = rw (ne_eqb (a / 4) 29 (λ h. omega arith), eq-eqb (a / 4) 31 e, f) refl

  bit_form : a / 4 ≡ 30 → instruction_of a b c ≡ bit_form_of address c
  unfolding instruction_of
  bit_form e = rw (ne_eqb (a / 4) 29 (λ h. omega arith), ne_eqb (a / 4) 31 (λ h. omega arith), eq-eqb (a / 4) 30 e, f) refl

verify_bit_form : (address c bit : ℕ) (on : Bool) → c / 16 ≡ 14 → c % 8 ≡ bit → c / 8 % 2 ≡ digit on → bit_form_of address c ≡ Some (VerifyBit address bit on)
unfolding bit_form_of
verify_bit_form address c bit on e f g = rw (eq-eqb (c / 16) 14 e, f, bit_set (c / 8) on g) refl

write_bit_form : (address c bit : ℕ) (on : Bool) → c / 16 ≡ 15 → c % 8 ≡ bit → c / 8 % 2 ≡ digit on → bit_form_of address c ≡ Some (WriteBit address bit on)
unfolding bit_form_of
write_bit_form address c bit on e f g = rw (ne_eqb (c / 16) 14 (λ h. omega arith), eq-eqb (c / 16) 15 e, f, bit_set (c / 8) on g) refl

-- the bytes of a packet are read as that packet
pub complete : (p : ServicePacket) → is_legal_packet p ≡ true → packet_of (bytes_of p) ≡ Some p
unfolding packet_of
complete Reset h = refl
complete (Direct (VerifyByte address value)) h =
    let below : address < 1024 = ltb-true address 1024 h in
    direct_read (116 + address / 256) (address % 256) value
    ∙ ap (option_map Direct) (verify_form (116 + address / 256) (address % 256) value address (omega arith) (omega arith))
complete (Direct (WriteByte address value)) h =
    let below : address < 1024 = ltb-true address 1024 h in
    direct_read (124 + address / 256) (address % 256) value
    ∙ ap (option_map Direct) (write_form (124 + address / 256) (address % 256) value address (omega arith) (omega arith))
complete (Direct (VerifyBit address bit on)) h =
    let parts = and_parts (nat_lt address 1024) (nat_lt bit 8) h in
    let below : address < 1024 = ltb-true address 1024 parts.0 in
    let few : bit < 8 = ltb-true bit 8 parts.1 in
    let c = 224 + 8 * digit on + bit in
    direct_read (120 + address / 256) (address % 256) c
    ∙ ap (option_map Direct) (bit_form (120 + address / 256) (address % 256) c address (omega arith) (omega arith)
    ∙ verify_bit_form address c bit on (omega (arith, digit-le on)) (omega (arith, digit-le on)) (omega (arith, digit-le on)))
complete (Direct (WriteBit address bit on)) h =
    let parts = and_parts (nat_lt address 1024) (nat_lt bit 8) h in
    let below : address < 1024 = ltb-true address 1024 parts.0 in
    let few : bit < 8 = ltb-true bit 8 parts.1 in
    let c = 240 + 8 * digit on + bit in
    direct_read (120 + address / 256) (address % 256) c
    ∙ ap (option_map Direct) (bit_form (120 + address / 256) (address % 256) c address (omega arith) (omega arith)
    ∙ write_bit_form address c bit on (omega (arith, digit-le on)) (omega (arith, digit-le on)) (omega (arith, digit-le on)))

-- an instruction is the same as itself
same_bool_refl : (b : Bool) → is_same_bool b b ≡ true
same_bool_refl true = refl
same_bool_refl false = refl

pub same_refl : (i : Instruction) → is_same i i ≡ true
same_refl (VerifyByte a x) = and_from _ _ (eq-eqb a a refl) (eq-eqb x x refl)
same_refl (WriteByte a x) = and_from _ _ (eq-eqb a a refl) (eq-eqb x x refl)
same_refl (VerifyBit a i x) = and_from _ _ (and_from _ _ (eq-eqb a a refl) (eq-eqb i i refl)) (same_bool_refl x)
same_refl (WriteBit a i x) = and_from _ _ (and_from _ _ (eq-eqb a a refl) (eq-eqb i i refl)) (same_bool_refl x)

-- what is read
abbrev pub IsRead : List ℕ → ServicePacket → Type 0
IsRead bytes p = (is_legal_packet p ≡ true) × (bytes ≡ bytes_of p)

abbrev pub IsInstruction : (a b c : ℕ) → Instruction → Type 0
IsInstruction a b c i = (is_legal i ≡ true) × (body_of i ≡ a ∷ b ∷ c ∷ [])

not_none : {A : Type 0} (x : A) → None ≡ Some x → ⊥
not_none x e = cc

same_some : {A : Type 0} (x y : A) → Some x ≡ Some y → x ≡ y
same_some x y e = cc

module _ (a b c : ℕ) (below : b < 256) (below_c : c < 256) (i : Instruction) where
  address : ℕ
  address = a % 4 * 256 + b

  bits_sound : a / 4 ≡ 30 → bit_form_of address c ≡ Some i → IsInstruction a b c i
  unfolding bit_form_of address
  bits_sound is = elim (cases_eq (c / 16) 14) [
    | inl verify ↦ λ e.
        let same : VerifyBit (a % 4 * 256 + b) (c % 8) (c / 8 % 2 == 1) ≡ i = same_some _ _ (rw (eq-eqb (c / 16) 14 verify) at e) in
        subst (IsInstruction a b c) same (
          and_from _ _ (lt-ltb (a % 4 * 256 + b) 1024 (omega arith)) (lt-ltb (c % 8) 8 (omega arith)),
          let third : 224 + 8 * digit (c / 8 % 2 == 1) + c % 8 ≡ c = omega (arith, set_bit (c / 8)) in
              let first : 120 + (a % 4 * 256 + b) / 256 ≡ a = omega arith in
              let second : (a % 4 * 256 + b) % 256 ≡ b = omega arith in
              rw (third, first, second) refl,
        )
    | inr not ↦ elim (cases_eq (c / 16) 15) [
      | inl write ↦ λ e.
          let same : WriteBit (a % 4 * 256 + b) (c % 8) (c / 8 % 2 == 1) ≡ i = same_some _ _ (rw (ne_eqb (c / 16) 14 not, eq-eqb (c / 16) 15 write) at e) in
          subst (IsInstruction a b c) same (
            and_from _ _ (lt-ltb (a % 4 * 256 + b) 1024 (omega arith)) (lt-ltb (c % 8) 8 (omega arith)),
            let third : 240 + 8 * digit (c / 8 % 2 == 1) + c % 8 ≡ c = omega (arith, set_bit (c / 8)) in
                let first : 120 + (a % 4 * 256 + b) / 256 ≡ a = omega arith in
                let second : (a % 4 * 256 + b) % 256 ≡ b = omega arith in
                rw (third, first, second) refl,
          )
      | inr neither ↦ λ e. absurd (not_none i (rw (ne_eqb (c / 16) 14 not, ne_eqb (c / 16) 15 neither) at e))
    ]
  ]

  instruction_sound : instruction_of a b c ≡ Some i → IsInstruction a b c i
  unfolding instruction_of address
  instruction_sound = elim (cases_eq (a / 4) 29) [
    | inl verify ↦ λ e.
        let same : VerifyByte (a % 4 * 256 + b) c ≡ i = same_some _ _ (rw (eq-eqb (a / 4) 29 verify) at e) in
        subst (IsInstruction a b c) same (
          lt-ltb (a % 4 * 256 + b) 1024 (omega arith),
          let first : 116 + (a % 4 * 256 + b) / 256 ≡ a = omega arith in
              let second : (a % 4 * 256 + b) % 256 ≡ b = omega arith in
              rw (first, second) refl,
        )
    | inr not ↦ elim (cases_eq (a / 4) 31) [
      | inl write ↦ λ e.
          let same : WriteByte (a % 4 * 256 + b) c ≡ i = same_some _ _ (rw (ne_eqb (a / 4) 29 not, eq-eqb (a / 4) 31 write) at e) in
          subst (IsInstruction a b c) same (
            lt-ltb (a % 4 * 256 + b) 1024 (omega arith),
            let first : 124 + (a % 4 * 256 + b) / 256 ≡ a = omega arith in
                let second : (a % 4 * 256 + b) % 256 ≡ b = omega arith in
                rw (first, second) refl,
          )
      | inr neither ↦ elim (cases_eq (a / 4) 30) [
        | inl bits ↦ λ e. bits_sound bits (rw (ne_eqb (a / 4) 29 not, ne_eqb (a / 4) 31 neither, eq-eqb (a / 4) 30 bits) at e)
        | inr none ↦ λ e. absurd (not_none i (rw (ne_eqb (a / 4) 29 not, ne_eqb (a / 4) 31 neither, ne_eqb (a / 4) 30 none) at e))
      ]
    ]
  ]

direct_sound : (a b c : ℕ) (p : ServicePacket) → b < 256 → c < 256 → option_map Direct (instruction_of a b c) ≡ Some p → IsRead (a ∷ b ∷ c ∷ check_of a b c ∷ []) p
direct_sound a b c p below below_c = by_form (instruction_of a b c) refl where
  by_form : (o : Option Instruction) → instruction_of a b c ≡ o → option_map Direct o ≡ Some p → IsRead (a ∷ b ∷ c ∷ check_of a b c ∷ []) p
  by_form None is e = absurd (not_none p e)
  by_form (Some i) is e =
      let found = instruction_sound a b c below below_c i is in
      subst (IsRead (a ∷ b ∷ c ∷ check_of a b c ∷ [])) (same_some _ _ e) (found.0, ap sealed (sym found.1))

-- bytes that are read as a packet are its bytes
pub sound : (bytes : List ℕ) (p : ServicePacket) → ((i : ℕ) → get_or bytes i 0 < 256) → packet_of bytes ≡ Some p → IsRead bytes p
unfolding packet_of
sound [] p fits e = absurd (not_none p e)
sound (a ∷ []) p fits e = absurd (not_none p e)
sound (a ∷ b ∷ []) p fits e = absurd (not_none p e)
sound (a ∷ b ∷ c ∷ []) p fits e = by_test ((a == 0) && (b == 0) && (c == 0)) refl e where
  by_test : (t : Bool) → ((a == 0) && (b == 0) && (c == 0)) ≡ t → (if t then Some Reset else None) ≡ Some p → IsRead (a ∷ b ∷ c ∷ []) p
  by_test false t e = absurd (not_none p e)
  by_test true t e =
      let outer = and_parts ((a == 0) && (b == 0)) (c == 0) t in
      let inner = and_parts (a == 0) (b == 0) outer.0 in
      let same : Reset ≡ p = same_some _ _ e in
      let a_is : a ≡ 0 = eqb-true a 0 inner.0 in
      let b_is : b ≡ 0 = eqb-true b 0 inner.1 in
      let c_is : c ≡ 0 = eqb-true c 0 outer.1 in
      subst (IsRead (a ∷ b ∷ c ∷ [])) same (refl, rw (a_is, b_is, c_is) refl)
sound (a ∷ b ∷ c ∷ d ∷ []) p fits e = by_test (d == check_of a b c) refl e where
  by_test : (t : Bool) → (d == check_of a b c) ≡ t → (if t then option_map Direct (instruction_of a b c) else None) ≡ Some p → IsRead (a ∷ b ∷ c ∷ d ∷ []) p
  by_test false t e = absurd (not_none p e)
  by_test true t e =
      let d_is : d ≡ check_of a b c = eqb-true d (check_of a b c) t in
      let found = direct_sound a b c p (fits 1) (fits 2) e in
      (found.0, ap (λ (z : ℕ). a ∷ b ∷ c ∷ z ∷ []) d_is ∙ found.1)
sound (a ∷ b ∷ c ∷ d ∷ f ∷ rest) p fits e = absurd (not_none p e)

-- an answer that is the packet of bytes is legal
pub legal_some : (bytes : List ℕ) (answer : Option ServicePacket) → ((i : ℕ) → get_or bytes i 0 < 256) → answer ≡ packet_of bytes → IfSome answer (λ p. IsTrue (is_legal_packet p))
legal_some bytes None fits is = tt
legal_some bytes (Some p) fits is = (sound bytes p fits (sym is)).0
