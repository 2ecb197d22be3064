-- What a node hears of events: packets, each whole or not at all, and single half-bits of noise.
use Rattle.std.specs.Prelude.{ℕ, ◌≡◌, ◌==◌, Bool, true, false, if◌then◌else◌, List, [], ◌∷◌, ◌++◌}
use Rattle.station_core.specs.declared.call.Call.TheVariants.{Turn as TurnCall}
use Rattle.station_core.specs.declared.call.Step.{Step}
use Rattle.station_core.specs.declared.call.Step.TheVariants.{Quiet, Reply, Packet, Off}
use Rattle.station_core.specs.Runs.{answer_of}
use Rattle.station_core.specs.Seen.{Seen}
use Rattle.layout_core.specs.declared.event.Event.{Event}
use Rattle.layout_core.specs.declared.event.Event.TheVariants.{Byte, Turn, Noise}
use Rattle.layout_core.specs.declared.node.Node.{Node}
use Rattle.layout_core.specs.Hearing.{HearsPacket, HeardHalves}
use Rattle.layout_core.specs.Nodes.{is_missed}
use Rattle.layout_core.specs.Played.{after_event}

-- one thing that a node hears
pub data Sound : Type 0 where
  Whole : (packet : List ℕ) → Sound
  Single : (half : ℕ) → Sound

-- of a turn with this answer: the packet, unless the node misses it
abbrev pub sounds_of_turn : (is_missed : Bool) → Step → List Sound
sounds_of_turn true step = []
sounds_of_turn false (Packet packet) = Whole packet ∷ []
sounds_of_turn false (Reply reply) = []
sounds_of_turn false Quiet = []
sounds_of_turn false Off = []

-- what node i hears of an event, and of events, in order
abbrev pub sounds_at : ℕ → Seen → Event → List Sound
sounds_at i seen (Byte line byte) = []
sounds_at i seen (Turn missed) = sounds_of_turn (is_missed missed i) (answer_of seen TurnCall)
sounds_at i seen (Noise node half) = if node == i then Single half ∷ [] else []

abbrev pub sounds_in : ℕ → Seen → List Event → List Sound
sounds_in i seen [] = []
sounds_in i seen (event ∷ events) = sounds_at i seen event ++ sounds_in i (after_event seen event) events

-- the packets among them
abbrev pub packets_among : List Sound → List (List ℕ)
packets_among [] = []
packets_among (Whole packet ∷ sounds) = packet ∷ packets_among sounds
packets_among (Single half ∷ sounds) = packets_among sounds

-- the packets of the turns that sent one and that node i did not miss, in order
abbrev pub heard : ℕ → Seen → List Event → List (List ℕ)
heard i seen events = packets_among (sounds_in i seen events)

-- the effect of hearing one thing
abbrev pub HearsOne : Sound → Node → Node → Type 0
HearsOne (Whole packet) old new = HearsPacket packet old new
HearsOne (Single half) old new = HeardHalves (half ∷ []) old new

-- one after another, each between two states of the node
abbrev pub HearsAll : List Sound → Node → Node → Type 0
HearsAll [] old new = new ≡ old
HearsAll (sound ∷ sounds) old new = (mid : Node) × HearsOne sound old mid × HearsAll sounds mid new
