-- Whole messages never overlap.
use Rattle.std.proofs.Common.{◌≡◌, ℕ, ◌+◌, ◌-◌, ◌<◌, ◌≤◌, List, length, take, drop, get_or, Some, ap, ap₂, sym, ◌∙◌, inl, inr, arith}
use Rattle.std.proofs.lemmas.Bool.{cases_lt}
use Rattle.std.proofs.lemmas.List.{get_or-take, get_or-drop}
use Rattle.ln_frame.specs.Message.{message_len}
use Rattle.ln_frame.specs.Stream.{StandsAt, NeverOverlap}
use Rattle.ln_frame.proofs.Forms.{length-said, data-of_whole, opcode-of_whole, shortest-of_whole}

-- a byte of the message is a byte of the bytes
byte_of : (bytes m : List ℕ) (at i : ℕ) → StandsAt bytes at m → i < length m → get_or m i 0 ≡ get_or bytes (at + i) 0
byte_of bytes m at i s h =
    ap (λ (xs : List ℕ). get_or xs i 0) (sym s.stands)
    ∙ get_or-take (length m) (drop at bytes) i 0 h
    ∙ get_or-drop at bytes i 0

same_byte : (bytes m n : List ℕ) (at i : ℕ) → StandsAt bytes at m → StandsAt bytes at n → i < 2 → get_or m i 0 ≡ get_or n i 0
same_byte bytes m n at i s t h =
    let m_long = shortest-of_whole m s.whole in
    let n_long = shortest-of_whole n t.whole in
    byte_of bytes m at i s (omega arith) ∙ sym (byte_of bytes n at i t (omega arith))

-- the first two bytes say the length, and so the message
one : (bytes m n : List ℕ) (at : ℕ) → StandsAt bytes at m → StandsAt bytes at n → m ≡ n
one bytes m n at s t =
    let said : Some (length m) ≡ Some (length n) =
    sym (length-said m s.whole)
    ∙ ap₂ message_len (same_byte bytes m n at 0 s t (omega arith)) (same_byte bytes m n at 1 s t (omega arith))
    ∙ length-said n t.whole in
    let size : length m ≡ length n = cc in
    sym s.stands ∙ ap (λ (k : ℕ). take k (drop at bytes)) size ∙ t.stands

-- an opcode is no data
apart : (bytes m n : List ℕ) (i j : ℕ) → StandsAt bytes i m → StandsAt bytes j n → i < j → i + length m ≤ j
apart bytes m n i j s t h = elim (cases_lt j (i + length m)) [
  | inl inside ↦
      let long = shortest-of_whole n t.whole in
      let here : get_or m (j - i) 0 ≡ get_or bytes (i + (j - i)) 0 = byte_of bytes m i (j - i) s (omega arith) in
      let there : get_or n 0 0 ≡ get_or bytes (j + 0) 0 = byte_of bytes n j 0 t (omega arith) in
      let same : get_or bytes (i + (j - i)) 0 ≡ get_or bytes (j + 0) 0 = ap (λ (k : ℕ). get_or bytes k 0) (omega arith) in
      let low : get_or m (j - i) 0 < 128 = data-of_whole m s.whole (j - i) (omega arith) in
      let high : 128 ≤ get_or n 0 0 = opcode-of_whole n t.whole in
      absurd (omega arith)
  | inr past ↦ past
]

pub never_overlap : (bytes : List ℕ) → NeverOverlap bytes
never_overlap bytes = record { one = λ at m n. one bytes m n at; apart = λ i j m n. apart bytes m n i j }
