-- The effect of a station's packets on a decoder, by the laws of the crate of packets.
use Rattle.std.proofs.Common.{◌≡◌, IsTrue, ◌↔◌, ℕ, ◌+◌, ◌*◌, ◌/◌, ◌%◌, ◌<◌, ◌≤◌, ◌==◌, ◌&&◌, nat_le, nat_lt, Bool, true, false, if◌then◌else◌, List, Some, refl, sym, ap, ◌∙◌, arith, inl, inr}
use Rattle.std.proofs.lemmas.Bool.{and_from, and_right, cases_lt, cases_eq, cond-true, cond-false, cond_both, lt-ltb, le-ltb, ltb-true, le-leb, lt-leb, eq-eqb, ne_eqb, eqb-false}
use Rattle.dcc_packet.specs.declared.address.Address.{Address}
use Rattle.dcc_packet.specs.declared.address.Address.TheVariants.{Short, Long}
use Rattle.dcc_packet.specs.declared.instr.Instr.{Instr}
use Rattle.dcc_packet.specs.declared.steps.Steps.{Steps}
use Rattle.dcc_packet.specs.declared.steps.Steps.TheVariants.{S14, S28, S128}
use Rattle.dcc_packet.specs.declared.steps.Motion.{Motion}
use Rattle.dcc_packet.specs.declared.steps.Motion.TheVariants.{Stop, Emergency, Step}
use Rattle.dcc_packet.specs.Address.{is_legal}
use Rattle.dcc_packet.specs.Form.{bit}
use Rattle.dcc_packet.specs.Meant.{speed_instr, group_one_instr, group_two_instr, group_three_instr}
use Rattle.dcc_packet.specs.Motions.{is_motion}
use Rattle.dcc_packet.specs.Reading.{instruction_of}
use Rattle.dcc_packet.specs.Sent.{code_of, low_14, low_28, speed_bytes, group_one_bytes, group_two_bytes, group_three_bytes}
use Rattle.dcc_packet.specs.Spells.{Spells}
use Rattle.dcc_packet.specs.Steps.{motion_of, step_of}
use Rattle.dcc_packet.specs.SpeedNumbers.{motion_of_number, number_28}
use Rattle.slot_table.specs.Entry.{IsAddress}
use Rattle.station_core.specs.Packets.{address_sent}
use Rattle.decoder_cv.specs.Answering.{is_at}
use Rattle.decoder_cv.specs.Settings.{Settings}
use Rattle.decoder_node.specs.declared.running.Running.{Running}
use Rattle.decoder_node.specs.Bits.{with_bits}
use Rattle.decoder_node.specs.Heard.{after_receipt}
use Rattle.decoder_node.specs.Obey.{is_own, own_forward, driven, lit, obeyed, obey}

-- the laws of the crate of packets: how packets are read, and what those of an address spell
pub record Spelling : Type 0 where
  pub read : (bytes : List ℕ) (i : Instr) → (instruction_of bytes ≡ Some i) ↔ Spells bytes i
  pub speed : (address : Address) (steps : Steps) (motion : Motion) (forward f0 : Bool) → IsTrue (is_legal address) → IsTrue (is_motion steps motion) → Spells (speed_bytes address steps motion forward f0) (speed_instr address steps motion forward f0)
  pub group_one : (address : Address) (functions : ℕ) → IsTrue (is_legal address) → Spells (group_one_bytes address functions) (group_one_instr address functions)
  pub group_two : (address : Address) (functions : ℕ) → IsTrue (is_legal address) → Spells (group_two_bytes address functions) (group_two_instr address functions)
  pub group_three : (address : Address) (functions : ℕ) → IsTrue (is_legal address) → Spells (group_three_bytes address functions) (group_three_instr address functions)

-- and the motion that a decoder takes from its number
pub record Speeds : Type 0 where
  pub fourteen : (motion : Motion) (f0 : Bool) → IsTrue (is_motion S14 motion) → (motion_of_number S14 (low_14 motion f0 % 16) ≡ motion) × (low_14 motion f0 / 16 ≡ bit f0)
  pub twenty_eight : (motion : Motion) → IsTrue (is_motion S28 motion) → motion_of_number S28 (number_28 (low_28 motion)) ≡ motion
  pub in_two_bytes : (motion : Motion) → IsTrue (is_motion S128 motion) → motion_of_number S128 (code_of motion) ≡ motion

-- how a decoder runs by a motion, the D of a packet and its functions
abbrev pub run_by : Settings → Motion → Bool → ℕ → Running
run_by cv motion forward functions = record { motion = motion; forward = own_forward cv forward; functions = functions }

-- a packet does what the instruction does that it spells
pub obey-reported : Spelling → (cv : Settings) (r : Running) (packet : List ℕ) (i : Instr) → Spells packet i → obey cv r packet ≡ obeyed cv r i
unfolding obey
obey-reported laws cv r packet i s = ap (after_receipt (obeyed cv) r) ((laws.read packet i).1 s)

-- SPD below 128 is a motion of each kind of steps
motion-by : (steps : Steps) (spd : ℕ) → (2 ≤ spd → IsTrue (is_motion steps (Step steps (step_of steps spd)))) → IsTrue (is_motion steps (motion_of steps spd))
motion-by steps spd h =
    cond_both (spd == 0) Stop (if spd == 1 then Emergency else Step steps (step_of steps spd)) (λ (m : Motion). IsTrue (is_motion steps m))
    (λ _. decoder_state steps)
    (λ none. cond_both (spd == 1) Emergency (Step steps (step_of steps spd)) (λ (m : Motion). IsTrue (is_motion steps m))
    (λ _. at_once steps)
    (λ one. let n : spd ≡ 0 → ⊥ = eqb-false spd 0 none in let o : spd ≡ 1 → ⊥ = eqb-false spd 1 one in h (omega arith)))
  where
    decoder_state : (s : Steps) → IsTrue (is_motion s Stop)
    decoder_state S14 = refl
    decoder_state S28 = refl
    decoder_state S128 = refl

    at_once : (s : Steps) → IsTrue (is_motion s Emergency)
    at_once S14 = refl
    at_once S28 = refl
    at_once S128 = refl

pub motion-fits : (steps : Steps) (spd : ℕ) → spd < 128 → IsTrue (is_motion steps (motion_of steps spd))
motion-fits S14 spd h = motion-by S14 spd (λ more. and_from _ _ (le-leb 1 (step_of S14 spd) (omega arith)) (le-leb (step_of S14 spd) 14 (omega arith)))
motion-fits S28 spd h = motion-by S28 spd (λ more. and_from _ _ (le-leb 1 (step_of S28 spd) (omega arith)) (le-leb (step_of S28 spd) 28 (omega arith)))
motion-fits S128 spd h = motion-by S128 spd (λ more. and_from _ _ (le-leb 1 (step_of S128 spd) (omega arith)) (le-leb (step_of S128 spd) 126 (omega arith)))

and-true : (x y : Bool) → y ≡ true → (x && y) ≡ x
and-true true y e = e
and-true false y e = refl

-- an address of a slot is the decoder's exactly if the decoder answers to it
pub own-sent : (own : Address) (a : ℕ) → is_own own (address_sent a) ≡ is_at own a
own-sent (Short n) a = elim (cases_lt a 128) [
  | inl h ↦ ap (is_own (Short n)) (cond-true (nat_lt a 128) (Short a) (Long a) (lt-ltb a 128 h)) ∙ sym (and-true (n == a) (nat_le a 127) (le-leb a 127 (omega arith)))
  | inr h ↦ ap (is_own (Short n)) (cond-false (nat_lt a 128) (Short a) (Long a) (le-ltb a 128 h)) ∙ sym (and_right (n == a) (nat_le a 127) (lt-leb a 127 (omega arith)))
]
own-sent (Long n) a = elim (cases_lt a 128) [
  | inl h ↦ ap (is_own (Long n)) (cond-true (nat_lt a 128) (Short a) (Long a) (lt-ltb a 128 h)) ∙ sym (and_right (n == a) (nat_le 128 a) (lt-leb 128 a h))
  | inr h ↦ ap (is_own (Long n)) (cond-false (nat_lt a 128) (Short a) (Long a) (le-ltb a 128 h)) ∙ sym (and-true (n == a) (nat_le 128 a) (le-leb 128 a h))
]

pub legal-sent : (a : ℕ) → IsAddress a → IsTrue (is_legal (address_sent a))
legal-sent a h =
    cond_both (nat_lt a 128) (Short a) (Long a) (λ (address : Address). IsTrue (is_legal address))
    (λ e. let low : a < 128 = ltb-true a 128 e in and_from _ _ (le-leb 1 a h.0) (le-leb a 127 (omega arith)))
    (λ e. le-leb a 10239 h.1)

pub bit-lowest : (n : ℕ) → bit ((n % 2) == 1) ≡ n % 2
bit-lowest n = elim (cases_eq (n % 2) 1) [
  | inl h ↦ ap bit (eq-eqb (n % 2) 1 h) ∙ sym h
  | inr h ↦ let none : 0 ≡ n % 2 = omega arith in ap bit (ne_eqb (n % 2) 1 h) ∙ none
]

bit-low : (b : Bool) → bit b % 2 ≡ bit b
bit-low true = refl
bit-low false = refl

-- the packets of an address, to a decoder that has that address, or has not
module _ (laws : Spelling) (cv : Settings) (address : Address) (legal : IsTrue (is_legal address)) (r : Running) where
  module _ (mine : is_own cv.address address ≡ true) where
    to-own : (packet : List ℕ) (i : Instr) (t : Running) → Spells packet i → obeyed cv r i ≡ (if is_own cv.address address then t else r) → obey cv r packet ≡ t
    to-own packet i t spelled e = obey-reported laws cv r packet i spelled ∙ e ∙ cond-true (is_own cv.address address) t r mine

    pub own-group_one : (functions : ℕ) → obey cv r (group_one_bytes address functions) ≡ record r { functions = lit cv r.functions (16 * (functions % 2) + functions / 2 % 16) }
    own-group_one functions =
        to-own (group_one_bytes address functions) (group_one_instr address functions)
        (record r { functions = lit cv r.functions (16 * (functions % 2) + functions / 2 % 16) }) (laws.group_one address functions legal) refl

    pub own-group_two : (functions : ℕ) → obey cv r (group_two_bytes address functions) ≡ record r { functions = with_bits r.functions 5 4 (functions / 32 % 16 % 16) }
    own-group_two functions =
        to-own (group_two_bytes address functions) (group_two_instr address functions)
        (record r { functions = with_bits r.functions 5 4 (functions / 32 % 16 % 16) }) (laws.group_two address functions legal) refl

    pub own-group_three : (functions : ℕ) → obey cv r (group_three_bytes address functions) ≡ record r { functions = 512 * (functions / 512 % 16 % 16) + r.functions % 512 }
    own-group_three functions =
        to-own (group_three_bytes address functions) (group_three_instr address functions)
        (record r { functions = 512 * (functions / 512 % 16 % 16) + r.functions % 512 }) (laws.group_three address functions legal) refl

    module _ (speeds : Speeds) (forward f0 : Bool) where
      pub own-speed_14 : (motion : Motion) → IsTrue (is_motion S14 motion) → cv.fourteen ≡ true → obey cv r (speed_bytes address S14 motion forward f0) ≡ run_by cv motion forward (with_bits r.functions 0 1 (bit f0))
      own-speed_14 motion fits fourteen =
          let reported = speeds.fourteen motion f0 fits in
          let light : low_14 motion f0 / 16 % 2 ≡ bit f0 = ap (λ n. n % 2) reported.1 ∙ bit-low f0 in
          to-own (speed_bytes address S14 motion forward f0) (speed_instr address S14 motion forward f0)
          (driven cv r forward (low_14 motion f0)) (laws.speed address S14 motion forward f0 legal fits) refl
          ∙ cond-true cv.fourteen (run_by cv (motion_of_number S14 (low_14 motion f0 % 16)) forward (with_bits r.functions 0 1 (low_14 motion f0 / 16 % 2))) (run_by cv (motion_of_number S28 (number_28 (low_14 motion f0))) forward r.functions) fourteen
          ∙ ap (λ (m : Motion). run_by cv m forward (with_bits r.functions 0 1 (low_14 motion f0 / 16 % 2))) reported.0
          ∙ ap (λ (n : ℕ). run_by cv motion forward (with_bits r.functions 0 1 n)) light

      pub own-speed_28 : (motion : Motion) → IsTrue (is_motion S28 motion) → cv.fourteen ≡ false → obey cv r (speed_bytes address S28 motion forward f0) ≡ run_by cv motion forward r.functions
      own-speed_28 motion fits more =
          let spelled = laws.speed address S28 motion forward f0 legal fits in
          to-own (speed_bytes address S28 motion forward f0) (speed_instr address S28 motion forward f0) (driven cv r forward (low_28 motion)) spelled refl
          ∙ cond-false cv.fourteen (run_by cv (motion_of_number S14 (low_28 motion % 16)) forward (with_bits r.functions 0 1 (low_28 motion / 16 % 2))) (run_by cv (motion_of_number S28 (number_28 (low_28 motion))) forward r.functions) more
          ∙ ap (λ (m : Motion). run_by cv m forward r.functions) (speeds.twenty_eight motion fits)

      pub own-speed_128 : (motion : Motion) → IsTrue (is_motion S128 motion) → obey cv r (speed_bytes address S128 motion forward f0) ≡ run_by cv motion forward r.functions
      own-speed_128 motion fits =
          to-own (speed_bytes address S128 motion forward f0) (speed_instr address S128 motion forward f0)
          (run_by cv (motion_of_number S128 (code_of motion)) forward r.functions) (laws.speed address S128 motion forward f0 legal fits) refl
          ∙ ap (λ (m : Motion). run_by cv m forward r.functions) (speeds.in_two_bytes motion fits)

  module _ (other : is_own cv.address address ≡ false) where
    to-other : (packet : List ℕ) (i : Instr) (t : Running) → Spells packet i → obeyed cv r i ≡ (if is_own cv.address address then t else r) → obey cv r packet ≡ r
    to-other packet i t spelled e = obey-reported laws cv r packet i spelled ∙ e ∙ cond-false (is_own cv.address address) t r other

    pub other-speed : (steps : Steps) (motion : Motion) (forward f0 : Bool) → IsTrue (is_motion steps motion) → obey cv r (speed_bytes address steps motion forward f0) ≡ r
    other-speed S14 motion forward f0 fits =
        to-other (speed_bytes address S14 motion forward f0) (speed_instr address S14 motion forward f0)
        (driven cv r forward (low_14 motion f0)) (laws.speed address S14 motion forward f0 legal fits) refl
    other-speed S28 motion forward f0 fits =
        to-other (speed_bytes address S28 motion forward f0) (speed_instr address S28 motion forward f0)
        (driven cv r forward (low_28 motion)) (laws.speed address S28 motion forward f0 legal fits) refl
    other-speed S128 motion forward f0 fits =
        to-other (speed_bytes address S128 motion forward f0) (speed_instr address S128 motion forward f0)
        (run_by cv (motion_of_number S128 (code_of motion)) forward r.functions) (laws.speed address S128 motion forward f0 legal fits) refl

    pub other-group_one : (functions : ℕ) → obey cv r (group_one_bytes address functions) ≡ r
    other-group_one functions =
        to-other (group_one_bytes address functions) (group_one_instr address functions)
        (record r { functions = lit cv r.functions (16 * (functions % 2) + functions / 2 % 16) }) (laws.group_one address functions legal) refl

    pub other-group_two : (functions : ℕ) → obey cv r (group_two_bytes address functions) ≡ r
    other-group_two functions =
        to-other (group_two_bytes address functions) (group_two_instr address functions)
        (record r { functions = with_bits r.functions 5 4 (functions / 32 % 16 % 16) }) (laws.group_two address functions legal) refl

    pub other-group_three : (functions : ℕ) → obey cv r (group_three_bytes address functions) ≡ r
    other-group_three functions =
        to-other (group_three_bytes address functions) (group_three_instr address functions)
        (record r { functions = 512 * (functions / 512 % 16 % 16) + r.functions % 512 }) (laws.group_three address functions legal) refl
