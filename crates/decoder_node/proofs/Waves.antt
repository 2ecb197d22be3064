-- What a decoder makes of whole waves, by what its receiver gives of them.
use Rattle.std.proofs.Common.{◌≡◌, ℕ, ◌-◌, ◌&&◌, List, [], ◌∷◌, ◌++◌, length, replicate, fold, Bool, true, false, suc, zero, Some, None, refl, ap, subst, sym, ◌∙◌, inl, inr}
use Rattle.std.proofs.lemmas.Bool.{cases_Bool, cond-false}
use Rattle.std.specs.Prelude.{IsTrue}
use Rattle.dcc_packet.specs.Packet.{IsPacket, is_packet, is_checked}
use Rattle.dcc_packet.specs.Reading.{instruction_of, form_of}
use Rattle.dcc_packet.specs.Wave.{IsWave}
use Rattle.decoder_rx.specs.Position.{Position, is_hunting}
use Rattle.decoder_rx.specs.Table.{given, after, after_all, answers}
use Rattle.decoder_rx.specs.Reading.{IsRight, Reads, Skips}
use Rattle.decoder_node.specs.Heard.{after_receipt, AreWaves}

-- the law of the receiver's crate
pub record Laws : Type 0 where
  pub reads : (position : Position) (packet halves : List ℕ) → IsTrue (is_hunting position) → IsRight packet → IsWave packet halves → Reads position halves packet
  pub skips : (position : Position) (packet halves : List ℕ) → IsTrue (is_hunting position) → IsPacket packet → is_checked packet ≡ false → IsWave packet halves → Skips position halves
  pub settles : (position : Position) (packet halves : List ℕ) → IsPacket packet → IsWave packet halves → IsTrue (is_hunting (after_all position halves))

-- a packet whose check is wrong spells nothing
pub spells_none : (packet : List ℕ) → is_checked packet ≡ false → instruction_of packet ≡ None
unfolding instruction_of
spells_none packet h =
    cond-false (is_packet packet && is_checked packet) (form_of packet) None (ap (λ (b : Bool). is_packet packet && b) h ∙ and-false (is_packet packet))
  where
    and-false : (b : Bool) → (b && false) ≡ false
    and-false true = refl
    and-false false = refl

-- packets whose check is wrong do nothing
abbrev pub Ignores : {State : Type 0} → (State → List ℕ → State) → Type 0
Ignores {State} obey = (state : State) (packet : List ℕ) → is_checked packet ≡ false → obey state packet ≡ state

received_last : {State : Type 0} (obey : State → List ℕ → State) (n : ℕ) (s : State) (packet : List ℕ) → fold (after_receipt obey) s (replicate n None ++ Some packet ∷ []) ≡ obey s packet
received_last obey zero s packet = refl
received_last obey (suc n) s packet = received_last obey n s packet

received_none : {State : Type 0} (obey : State → List ℕ → State) (n : ℕ) (s : State) → fold (after_receipt obey) s (replicate n None) ≡ s
received_none obey zero s = refl
received_none obey (suc n) s = received_none obey n s

-- a wave has the effect of its packet
pub obeyed : {State : Type 0} (obey : State → List ℕ → State) → Ignores obey → Laws → (s : State) (position : Position) (packet halves : List ℕ) → IsPacket packet → IsWave packet halves → IsTrue (is_hunting position) → fold (after_receipt obey) s (answers position halves) ≡ obey s packet
obeyed obey ignores laws s position packet halves p w b = elim (cases_Bool (is_checked packet)) [
  | inl right ↦
      let reads = laws.reads position packet halves b (record { form = p; checked = right }) w in
      ap (fold (after_receipt obey) s) reads.given ∙ received_last obey (length halves - 1) s packet
  | inr wrong ↦
      let skips = laws.skips position packet halves b p wrong w in
      ap (fold (after_receipt obey) s) skips.given ∙ received_none obey (length halves) s ∙ sym (ignores s packet wrong)
]

received-append : {State : Type 0} (obey : State → List ℕ → State) (xs ys : List ℕ) (s : State) (position : Position) → fold (after_receipt obey) s (answers position (xs ++ ys)) ≡ fold (after_receipt obey) (fold (after_receipt obey) s (answers position xs)) (answers (after_all position xs) ys)
received-append obey [] ys s position = refl
received-append obey (x ∷ xs) ys s position = received-append obey xs ys (after_receipt obey s (given position x)) (after position x)

after_all-append : (xs ys : List ℕ) (position : Position) → after_all position (xs ++ ys) ≡ after_all (after_all position xs) ys
after_all-append [] ys position = refl
after_all-append (x ∷ xs) ys position = after_all-append xs ys (after position x)

abbrev pub Ran : {State : Type 0} → (State → List ℕ → State) → State → Position → List (List ℕ) → List ℕ → Type 0
Ran obey s position packets halves = (fold (after_receipt obey) s (answers position halves) ≡ fold obey s packets) × IsTrue (is_hunting (after_all position halves))

-- consecutive waves have the effect of their packets
pub ran : {State : Type 0} (obey : State → List ℕ → State) → Ignores obey → Laws → (packets : List (List ℕ)) (halves : List ℕ) (s : State) (position : Position) → AreWaves packets halves → IsTrue (is_hunting position) → Ran obey s position packets halves
ran obey ignores laws [] halves s position w b = subst (λ (hs : List ℕ). Ran obey s position [] hs) (sym w) (refl, b)
ran obey ignores laws (packet ∷ packets) halves s position w b =
    let wave = w.0 in
    let rest = w.1 in
    let front = obeyed obey ignores laws s position packet wave w.3 w.4 b in
    let more = ran obey ignores laws packets rest (obey s packet) (after_all position wave) w.5 (laws.settles position packet wave w.3 w.4) in
    subst (λ (hs : List ℕ). Ran obey s position (packet ∷ packets) hs) (sym w.2) (
      received-append obey wave rest s position ∙ ap (λ t. fold (after_receipt obey) t (answers (after_all position wave) rest)) front ∙ more.0,
      ap is_hunting (after_all-append wave rest position) ∙ more.1,
    )
