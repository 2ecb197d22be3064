-- Each packet of an entry sets its fields and keeps the others, so that all together settle a
-- decoder.
use Rattle.std.proofs.Common.{◌≡◌, IsTrue, ◌⊎◌, ℕ, ◌+◌, ◌*◌, ◌/◌, ◌%◌, ◌^◌, ◌<◌, ◌==◌, ◌||◌, Bool, true, false, if◌then◌else◌, List, [], ◌∷◌, Some, None, zero, suc, refl, sym, ap, subst, ◌∙◌, arith, inl, inr}
use Rattle.std.proofs.lemmas.Bool.{cases_Bool, both_ways, cond-true, cond-false}
use Rattle.std.proofs.lemmas.List.Elements.{recursion_from_All}
use Rattle.std.specs.Prelude.{Contains, unwrap_or}
use Rattle.std.specs.List.{AllByRecursion}
use Rattle.dcc_packet.specs.declared.address.Address.{Address}
use Rattle.dcc_packet.specs.declared.steps.Steps.{Steps}
use Rattle.dcc_packet.specs.declared.steps.Steps.TheVariants.{S14, S28, S128}
use Rattle.dcc_packet.specs.declared.steps.Motion.{Motion}
use Rattle.dcc_packet.specs.Address.{is_legal}
use Rattle.dcc_packet.specs.Form.{bit}
use Rattle.dcc_packet.specs.Sent.{speed_bytes, group_one_bytes, group_two_bytes, group_three_bytes}
use Rattle.dcc_packet.specs.Steps.{motion_of}
use Rattle.slot_table.specs.Entry.{Entry}
use Rattle.station_core.specs.Packets.{address_sent, is_lit, speed_packet, group_one_packet, group_two_packet, group_three_packet}
use Rattle.station_core.specs.Entries.{steps_asked, is_forward, functions_asked}
use Rattle.decoder_cv.specs.Settings.{Settings}
use Rattle.decoder_node.specs.declared.running.Running.{Running}
use Rattle.decoder_node.specs.Bits.{with_bits}
use Rattle.decoder_node.specs.Obey.{is_own, lit, obey, runs}
use Rattle.layout_core.specs.Wanted.{wanted}
use Rattle.layout_core.specs.Settling.{IsPacketOf, speed, group_one, group_two, group_three, LeavesAsItIs, IsAskedBy, TellsAll}
use Rattle.layout_core.proofs.Requests.{Spelling, Speeds, run_by, motion-fits, own-sent, legal-sent, bit-lowest, own-speed_14, own-speed_28, own-speed_128, own-group_one, own-group_two, own-group_three}

-- what each packet sets, as a fact that no other packet undoes
record SpeedSet (cv : Settings) (want r : Running) : Type 0 where
  motion : r.motion ≡ want.motion
  forward : r.forward ≡ want.forward
  f0 : cv.fourteen ≡ true → r.functions % 2 ≡ want.functions % 2

record OneSet (cv : Settings) (want r : Running) : Type 0 where
  middle : r.functions / 2 % 16 ≡ want.functions / 2 % 16
  f0 : cv.fourteen ≡ false → r.functions % 2 ≡ want.functions % 2

record TwoSet (want r : Running) : Type 0 where
  high : r.functions / 32 % 16 ≡ want.functions / 32 % 16

record ThreeSet (want r : Running) : Type 0 where
  top : r.functions / 512 ≡ want.functions / 512 % 16

-- what each packet makes of a state
record AfterSpeed (cv : Settings) (want r t : Running) : Type 0 where
  sets : SpeedSet cv want t
  low : cv.fourteen ≡ false → t.functions % 2 ≡ r.functions % 2
  rest : t.functions / 2 ≡ r.functions / 2

record DrivesAs (r t : Running) : Type 0 where
  motion : t.motion ≡ r.motion
  forward : t.forward ≡ r.forward

record AfterOne (cv : Settings) (want r t : Running) : Type 0 where
  sets : OneSet cv want t
  drives : DrivesAs r t
  low : cv.fourteen ≡ true → t.functions % 2 ≡ r.functions % 2
  rest : t.functions / 32 ≡ r.functions / 32

record AfterTwo (want r t : Running) : Type 0 where
  sets : TwoSet want t
  drives : DrivesAs r t
  low : t.functions % 32 ≡ r.functions % 32
  rest : t.functions / 512 ≡ r.functions / 512

record AfterThree (want r t : Running) : Type 0 where
  sets : ThreeSet want t
  drives : DrivesAs r t
  low : t.functions % 512 ≡ r.functions % 512

-- the decoder reads 14 steps where these steps are 14
abbrev Agrees : Bool → Steps → Type 0
Agrees fourteen S14 = fourteen ≡ true
Agrees fourteen S28 = fourteen ≡ false
Agrees fourteen S128 = fourteen ≡ false

agrees : (fourteen twenty_eight all : Bool) → Agrees fourteen (unwrap_or (if fourteen then Some S14 else (if twenty_eight then Some S28 else (if all then Some S128 else None))) S128)
agrees true twenty_eight all = refl
agrees false true all = refl
agrees false false true = refl
agrees false false false = refl

agrees-asked : (cv : Settings) (e : Entry) → cv.fourteen ≡ (e.kind == 2) → Agrees cv.fourteen (steps_asked e)
agrees-asked cv e h = subst (λ (b : Bool). Agrees b (steps_asked e)) (sym h) (agrees (e.kind == 2) ((e.kind == 0) || (e.kind == 4)) ((e.kind == 3) || (e.kind == 7)))

module _ (laws : Spelling) (speeds : Speeds) (cv : Settings) (address : Address) (legal : IsTrue (is_legal address)) (mine : is_own cv.address address ≡ true) (spd : ℕ) (below : spd < 128) (forward f0 : Bool) (w : ℕ) (light : bit f0 ≡ w % 2) where
  speed_by : (steps : Steps) → Agrees cv.fourteen steps → (r : Running) → AfterSpeed cv (run_by cv (motion_of steps spd) forward w) r (obey cv r (speed_bytes address steps (motion_of steps spd) forward f0))
  speed_by S14 agree r =
      subst (λ (t : Running). AfterSpeed cv (run_by cv (motion_of S14 spd) forward w) r t) (sym (own-speed_14 laws cv address legal r mine speeds forward f0 (motion_of S14 spd) (motion-fits S14 spd below) agree)) (record {
        sets = record { motion = refl; forward = refl; f0 = λ h. omega arith };
        low = λ h. absurd (both_ways cv.fourteen h agree);
        rest = omega arith;
      })
  speed_by S28 agree r =
      subst (λ (t : Running). AfterSpeed cv (run_by cv (motion_of S28 spd) forward w) r t) (sym (own-speed_28 laws cv address legal r mine speeds forward f0 (motion_of S28 spd) (motion-fits S28 spd below) agree)) (record {
        sets = record { motion = refl; forward = refl; f0 = λ h. absurd (both_ways cv.fourteen agree h) };
        low = λ h. refl;
        rest = refl;
      })
  speed_by S128 agree r =
      subst (λ (t : Running). AfterSpeed cv (run_by cv (motion_of S128 spd) forward w) r t) (sym (own-speed_128 laws cv address legal r mine speeds forward f0 (motion_of S128 spd) (motion-fits S128 spd below))) (record {
        sets = record { motion = refl; forward = refl; f0 = λ h. absurd (both_ways cv.fourteen agree h) };
        low = λ h. refl;
        rest = refl;
      })

module _ (laws : Spelling) (cv : Settings) (address : Address) (legal : IsTrue (is_legal address)) (mine : is_own cv.address address ≡ true) (want r : Running) where
  one_by : (b : Bool) → cv.fourteen ≡ b → AfterOne cv want r (record r { functions = lit cv r.functions (16 * (want.functions % 2) + want.functions / 2 % 16) })
  one_by true e =
      let new : lit cv r.functions (16 * (want.functions % 2) + want.functions / 2 % 16) ≡ with_bits r.functions 1 4 ((16 * (want.functions % 2) + want.functions / 2 % 16) % 16) = cond-true cv.fourteen _ _ e in
      record {
        sets = record { middle = omega arith; f0 = λ h. absurd (both_ways cv.fourteen h e) };
        drives = record { motion = refl; forward = refl };
        low = λ h. omega arith;
        rest = omega arith;
      }
  one_by false e =
      let new : lit cv r.functions (16 * (want.functions % 2) + want.functions / 2 % 16) ≡ with_bits (with_bits r.functions 1 4 ((16 * (want.functions % 2) + want.functions / 2 % 16) % 16)) 0 1 ((16 * (want.functions % 2) + want.functions / 2 % 16) / 16 % 2) = cond-false cv.fourteen _ _ e in
      record {
        sets = record { middle = omega arith; f0 = λ h. omega arith };
        drives = record { motion = refl; forward = refl };
        low = λ h. absurd (both_ways cv.fourteen e h);
        rest = omega arith;
      }

  one_after : AfterOne cv want r (obey cv r (group_one_bytes address want.functions))
  one_after = subst (λ (t : Running). AfterOne cv want r t) (sym (own-group_one laws cv address legal r mine want.functions)) (one_by cv.fourteen refl)

  two_after : AfterTwo want r (obey cv r (group_two_bytes address want.functions))
  two_after = subst (λ (t : Running). AfterTwo want r t) (sym (own-group_two laws cv address legal r mine want.functions)) (record {
    sets = record { high = omega arith };
    drives = record { motion = refl; forward = refl };
    low = omega arith;
    rest = omega arith;
  })

  three_after : AfterThree want r (obey cv r (group_three_bytes address want.functions))
  three_after = subst (λ (t : Running). AfterThree want r t) (sym (own-group_three laws cv address legal r mine want.functions)) (record {
    sets = record { top = omega arith };
    drives = record { motion = refl; forward = refl };
    low = omega arith;
  })

-- a packet of the list
abbrev IsHarmless : Settings → ℕ → Entry → List ℕ → Type 0
IsHarmless cv a e packet = IsPacketOf a e packet ⊎ LeavesAsItIs cv packet

module _ (cv : Settings) (a : ℕ) (e : Entry) where
  -- a fact that each packet of the list keeps
  IsKept : (Running → Type 0) → Type 0
  IsKept P = (r : Running) (packet : List ℕ) → IsHarmless cv a e packet → P r → P (obey cv r packet)

  -- it is enough to see the packets of the entry
  kept_by : (P : Running → Type 0) → ((r : Running) → P r → P (obey cv r (speed_packet a e))) → ((r : Running) → P r → P (obey cv r (group_one_packet a e))) → ((r : Running) → P r → P (obey cv r (group_two_packet a e))) → ((r : Running) → P r → P (obey cv r (group_three_packet a e))) → IsKept P
  unfolding IsKept
  kept_by P by_speed by_one by_two by_three r packet (inl (speed h)) p = subst (λ (bytes : List ℕ). P (obey cv r bytes)) (sym h) (by_speed r p)
  kept_by P by_speed by_one by_two by_three r packet (inl (group_one h)) p = subst (λ (bytes : List ℕ). P (obey cv r bytes)) (sym h) (by_one r p)
  kept_by P by_speed by_one by_two by_three r packet (inl (group_two h)) p = subst (λ (bytes : List ℕ). P (obey cv r bytes)) (sym h) (by_two r p)
  kept_by P by_speed by_one by_two by_three r packet (inl (group_three h)) p = subst (λ (bytes : List ℕ). P (obey cv r bytes)) (sym h) (by_three r p)
  kept_by P by_speed by_one by_two by_three r packet (inr leaves) p = subst P (sym (leaves r)) p

  module _ (P : Running → Type 0) (kept : IsKept P) where
    stays : (packets : List (List ℕ)) (r : Running) → AllByRecursion (IsHarmless cv a e) packets → P r → P (runs cv r packets)
    unfolding IsKept
    stays [] r all p = p
    stays (packet ∷ packets) r all p = stays packets (obey cv r packet) all.1 (kept r packet all.0 p)

    -- a fact that one packet of the list brings about and each keeps
    comes : (packet : List ℕ) → ((r : Running) → P (obey cv r packet)) → (packets : List (List ℕ)) (r : Running) → AllByRecursion (IsHarmless cv a e) packets → Contains packets packet → P (runs cv r packets)
    unfolding IsKept
    comes packet sets [] r all (k, within, is) = absurd (omega arith)
    comes packet sets (first ∷ packets) r all (zero, within, is) =
        stays packets (obey cv r first) all.1 (subst (λ (bytes : List ℕ). P (obey cv r bytes)) (sym is) (sets r))
    comes packet sets (first ∷ packets) r all (suc k, within, is) =
        comes packet sets packets (obey cv r first) all.1 (k, omega arith, is)

abbrev same_with : Motion → Bool → ℕ → Running
same_with motion forward functions = record { motion = motion; forward = forward; functions = functions }

same_running : (r w : Running) → r.motion ≡ w.motion → r.forward ≡ w.forward → r.functions ≡ w.functions → r ≡ w
same_running r w e f g =
    ap (λ (m : Motion). same_with m r.forward r.functions) e
    ∙ ap (λ (b : Bool). same_with w.motion b r.functions) f
    ∙ ap (λ (n : ℕ). same_with w.motion w.forward n) g

module _ (laws : Spelling) (speeds : Speeds) (cv : Settings) (a : ℕ) (e : Entry) (asked : IsAskedBy cv a e) where
  want : Running
  want = wanted e cv.reversed

  legal : IsTrue (is_legal (address_sent a))
  legal = legal-sent a asked.address

  mine : is_own cv.address (address_sent a) ≡ true
  mine = own-sent cv.address a ∙ asked.answers

  light : bit (is_lit e) ≡ functions_asked e % 2
  light = let low : e.dirf / 16 % 2 ≡ functions_asked e % 2 = omega arith in bit-lowest (e.dirf / 16) ∙ low

  after_speed : (r : Running) → AfterSpeed cv want r (obey cv r (speed_packet a e))
  unfolding want
  after_speed r = speed_by laws speeds cv (address_sent a) legal mine e.spd asked.entry.spd (is_forward e) (is_lit e) (functions_asked e) light (steps_asked e) (agrees-asked cv e asked.steps) r

  after_one : (r : Running) → AfterOne cv want r (obey cv r (group_one_packet a e))
  unfolding want
  after_one r = one_after laws cv (address_sent a) legal mine (wanted e cv.reversed) r

  after_two : (r : Running) → AfterTwo want r (obey cv r (group_two_packet a e))
  unfolding want
  after_two r = two_after laws cv (address_sent a) legal mine (wanted e cv.reversed) r

  after_three : (r : Running) → AfterThree want r (obey cv r (group_three_packet a e))
  unfolding want
  after_three r = three_after laws cv (address_sent a) legal mine (wanted e cv.reversed) r

  speed_kept : IsKept cv a e (SpeedSet cv want)
  speed_kept = kept_by cv a e (SpeedSet cv want)
      (λ r h. (after_speed r).sets)
      (λ r h. let s = after_one r in record { motion = s.drives.motion ∙ h.motion; forward = s.drives.forward ∙ h.forward; f0 = λ b. s.low b ∙ h.f0 b })
      (λ r h. let s = after_two r in record { motion = s.drives.motion ∙ h.motion; forward = s.drives.forward ∙ h.forward; f0 = λ b. omega (arith, s.low, h.f0 b) })
      (λ r h. let s = after_three r in record { motion = s.drives.motion ∙ h.motion; forward = s.drives.forward ∙ h.forward; f0 = λ b. omega (arith, s.low, h.f0 b) })

  one_kept : IsKept cv a e (OneSet cv want)
  one_kept = kept_by cv a e (OneSet cv want)
      (λ r h. let s = after_speed r in record { middle = omega (arith, s.rest, h.middle); f0 = λ b. s.low b ∙ h.f0 b })
      (λ r h. (after_one r).sets)
      (λ r h. let s = after_two r in record { middle = omega (arith, s.low, h.middle); f0 = λ b. omega (arith, s.low, h.f0 b) })
      (λ r h. let s = after_three r in record { middle = omega (arith, s.low, h.middle); f0 = λ b. omega (arith, s.low, h.f0 b) })

  two_kept : IsKept cv a e (TwoSet want)
  two_kept = kept_by cv a e (TwoSet want)
      (λ r h. let s = after_speed r in record { high = omega (arith, s.rest, h.high) })
      (λ r h. let s = after_one r in record { high = omega (arith, s.rest, h.high) })
      (λ r h. (after_two r).sets)
      (λ r h. let s = after_three r in record { high = omega (arith, s.low, h.high) })

  three_kept : IsKept cv a e (ThreeSet want)
  three_kept = kept_by cv a e (ThreeSet want)
      (λ r h. let s = after_speed r in record { top = omega (arith, s.rest, h.top) })
      (λ r h. let s = after_one r in record { top = omega (arith, s.rest, h.top) })
      (λ r h. let s = after_two r in record { top = s.rest ∙ h.top })
      (λ r h. (after_three r).sets)

  all_set : (r : Running) → SpeedSet cv want r → OneSet cv want r → TwoSet want r → ThreeSet want r → r ≡ wanted e cv.reversed
  unfolding want
  all_set r s o t u = same_running r (wanted e cv.reversed) s.motion s.forward
      (let low : r.functions % 2 ≡ functions_asked e % 2 = elim (cases_Bool cv.fourteen) [ inl b ↦ s.f0 b | inr b ↦ o.f0 b ] in
      let top : functions_asked e < 2 ^ 13 = omega arith in
      omega (arith, low, o.middle, t.high, u.top, top))

  pub settles : (start : Running) (packets : List (List ℕ)) → TellsAll cv a e packets → runs cv start packets ≡ wanted e cv.reversed
  settles start packets tells =
      let all = recursion_from_All (IsHarmless cv a e) packets tells.only in
      all_set (runs cv start packets)
      (comes cv a e (SpeedSet cv want) speed_kept (speed_packet a e) (λ r. (after_speed r).sets) packets start all tells.has_speed)
      (comes cv a e (OneSet cv want) one_kept (group_one_packet a e) (λ r. (after_one r).sets) packets start all tells.has_group_one)
      (comes cv a e (TwoSet want) two_kept (group_two_packet a e) (λ r. (after_two r).sets) packets start all tells.has_group_two)
      (comes cv a e (ThreeSet want) three_kept (group_three_packet a e) (λ r. (after_three r).sets) packets start all tells.has_group_three)
