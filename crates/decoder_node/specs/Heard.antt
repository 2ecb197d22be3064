-- The effect on decoders of packets and of the half-bits that they hear, for any effect of
-- instructions.
use Rattle.std.specs.Prelude.{ℕ, ◌≡◌, List, [], ◌∷◌, ◌++◌, fold, IsTrue, Option, Some, None}
use Rattle.dcc_packet.specs.declared.instr.Instr.{Instr}
use Rattle.dcc_packet.specs.Packet.{IsPacket}
use Rattle.dcc_packet.specs.Reading.{instruction_of}
use Rattle.dcc_packet.specs.Wave.{IsWave}
use Rattle.decoder_rx.specs.Position.{Position, is_hunting}

-- the state after what is received, if anything is, where it does this
abbrev pub after_receipt : {State Received : Type 0} (does : State → Received → State) → State → Option Received → State
after_receipt does state None = state
after_receipt does state (Some received) = does state received

-- The effect of a packet: that of the instruction that its bytes spell, and none if they spell
-- none.
abbrev pub obeying : {State : Type 0} (does : State → Instr → State) → State → List ℕ → State
obeying does state packet = after_receipt does state (instruction_of packet)

-- the halves are consecutive waves of these packets
abbrev pub AreWaves : List (List ℕ) → List ℕ → Type 0
AreWaves [] halves = halves ≡ []
AreWaves (packet ∷ packets) halves =
    (wave rest : List ℕ) × (halves ≡ wave ++ rest) × IsPacket packet × IsWave packet wave × AreWaves packets rest

-- From a state and a position of the receiver to others, if packets have this effect on the state.
-- If the halves are a wave of a packet, no packet is under way afterwards, whatever was heard
-- before; and if none was under way before, that packet was obeyed and nothing else. The same holds
-- for consecutive waves of packets.
pub record ObeysWaves {State : Type 0} (obey : State → List ℕ → State) (old : State) (from : Position) (halves : List ℕ) (new : State) (to : Position) : Type 0 where
  pub settles : (packet : List ℕ) → IsPacket packet → IsWave packet halves → IsTrue (is_hunting to)
  pub obeys : (packet : List ℕ) → IsPacket packet → IsWave packet halves → IsTrue (is_hunting from) → new ≡ obey old packet
  pub runs : (packets : List (List ℕ)) → AreWaves packets halves → IsTrue (is_hunting from)
      → (new ≡ fold obey old packets) × IsTrue (is_hunting to)
