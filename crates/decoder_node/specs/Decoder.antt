-- A decoder.
use Rattle.std.specs.Prelude.{ℕ, IsTrue}
use Rattle.decoder_cv.specs.Settings.{Settings}
use Rattle.decoder_rx.specs.Position.{Position, Hunting, is_hunting}
use Rattle.decoder_node.specs.declared.running.Running.{Running}

-- its settings, its state, and the position of its receiver
pub record Decoder (Settings State : Type 0) : Type 0 where
  pub settings : Settings
  pub state : State
  pub receiver : Position

-- the state of a locomotive decoder is how it runs
abbrev pub LocoDecoder : Type 0
LocoDecoder = Decoder Settings Running

-- an accessory decoder has the number of its module, and its outputs, bit j being output j
abbrev pub AccessoryDecoder : Type 0
AccessoryDecoder = Decoder ℕ ℕ

-- no packet is under way
abbrev pub IsBetween : {Settings State : Type 0} → Decoder Settings State → Type 0
IsBetween decoder = IsTrue (is_hunting decoder.receiver)

-- a new decoder in its first state: its receiver hunts, with no one half counted
abbrev pub fresh : {Settings State : Type 0} → Settings → State → Decoder Settings State
fresh settings first = record { settings = settings; state = first; receiver = Hunting 0 }
