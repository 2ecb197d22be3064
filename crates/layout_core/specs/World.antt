-- The effect of events on the decoders of a layout.
use Rattle.std.specs.Prelude.{ℕ, ◌≡◌, ◌==◌, ◌<◌, Bool, true, false, List, [], ◌∷◌, length, map}
use Rattle.std.specs.List.{slice_index_or}
use Rattle.station_core.specs.declared.call.Step.{Step}
use Rattle.station_core.specs.declared.call.Step.TheVariants.{Packet}
use Rattle.station_core.specs.Seen.{Seen}
use Rattle.layout_core.specs.declared.event.Event.{Event}
use Rattle.layout_core.specs.declared.event.Event.TheVariants.{Byte, Turn, Noise}
use Rattle.layout_core.specs.declared.node.Node.{Node}
use Rattle.layout_core.specs.declared.world.World.{World}
use Rattle.layout_core.specs.Events.{NoNoise}
use Rattle.layout_core.specs.Heard.{HearsAll, heard, sounds_in}
use Rattle.layout_core.specs.Hearing.{AfterPacket, HeardHalves, Obeyed}
use Rattle.layout_core.specs.Nodes.{IsBetween, is_missed, spec_of}

-- the same layout: it has as many lines, and the same decoders, so as many of them
pub record IsSameLayout (old new : World) : Type 0 where
  pub lines : length new.station.lines ≡ length old.station.lines
  pub specs : map spec_of new.nodes ≡ map spec_of old.nodes
  pub count : length new.nodes ≡ length old.nodes

-- each node heard its part of these events, one thing after another, and nothing else
pub record HaveHeard (seen : Seen) (events : List Event) (old new : List Node) : Type 0 where
  pub count : length new ≡ length old
  pub each : (i : ℕ) (none : Node) → i < length old → HearsAll (sounds_in i seen events) (slice_index_or old i none) (slice_index_or new i none)

-- So a node that no noise names, and that had no packet under way, obeyed the packets that it
-- heard, in order, and nothing else; and none is under way afterwards.
abbrev pub HaveObeyed : Seen → List Event → (old new : List Node) → Type 0
HaveObeyed seen events old new = (i : ℕ) (none : Node) → i < length old → NoNoise i events → IsBetween (slice_index_or old i none)
    → Obeyed (heard i seen events) (slice_index_or old i none) (slice_index_or new i none) × IsBetween (slice_index_or new i none)

-- each node hears the packet or misses it
pub record EachHears (missed : ℕ) (packet : List ℕ) (old new : List Node) : Type 0 where
  pub count : length new ≡ length old
  pub each : (i : ℕ) (none : Node) → i < length old → AfterPacket (is_missed missed i) packet (slice_index_or old i none) (slice_index_or new i none)

-- the nodes after a turn: only what the station sends changes them
abbrev pub AfterTurn : (missed : ℕ) → Step → List Node → List Node → Type 0
AfterTurn missed (Packet packet) old new = EachHears missed packet old new
AfterTurn missed step old new = new ≡ old

-- a half that a node hears, or that another one hears
abbrev pub AfterHalf : (is_its_own : Bool) (half : ℕ) (old new : Node) → Type 0
AfterHalf true half old new = HeardHalves (half ∷ []) old new
AfterHalf false half old new = new ≡ old

-- one node hears the half, and the others are as they were
pub record OneHears (node half : ℕ) (old new : List Node) : Type 0 where
  pub count : length new ≡ length old
  pub each : (i : ℕ) (none : Node) → i < length old → AfterHalf (node == i) half (slice_index_or old i none) (slice_index_or new i none)

-- the nodes after an event with this answer
abbrev pub AfterEvent : Event → Step → List Node → List Node → Type 0
AfterEvent (Byte line byte) step old new = new ≡ old
AfterEvent (Turn missed) step old new = AfterTurn missed step old new
AfterEvent (Noise node half) step old new = OneHears node half old new
