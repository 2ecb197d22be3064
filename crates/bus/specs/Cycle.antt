-- The headline in time: a locomotive whose decoder hears everything for enough track time runs as
-- its slot says.
use Rattle.std.specs.Prelude.{ℕ, ◌≡◌, ◌*◌, ◌<◌, ◌≤◌, List, ◌++◌, length, Some}
use Rattle.std.specs.List.{slice_index_or}
use Rattle.slot_table.specs.Entry.{Entry, IsSlot}
use Rattle.station_core.specs.ThrottleView.{ThrottleView, known_after_all}
use Rattle.station_core.specs.Moments.{AtEveryMoment, IsLive, slots_refreshed}
use Rattle.station_core.specs.Seen.{known_of}
use Rattle.decoder_node.specs.Decoder.{LocoDecoder, IsBetween as IsBetweenPackets}
use Rattle.decoder_node.specs.declared.running.Running.{Running}
use Rattle.layout_core.specs.declared.node.Node.{Node}
use Rattle.layout_core.specs.declared.node.Node.TheVariants.{Loco}
use Rattle.layout_core.specs.Cycle.{ForEachLoco, HearsCycle, KeepsAsking, StandsIn}
use Rattle.layout_core.specs.Events.{calls_in}
use Rattle.layout_core.specs.Nodes.{running_of}
use Rattle.layout_core.specs.Wanted.{wanted}
use Rattle.bus.specs.declared.event.Event.{Event}
use Rattle.bus.specs.Bus.{BusState, after_events}
use Rattle.bus.specs.Course.{micros_in}
use Rattle.bus.specs.Layout.{layout_events}

-- A full refresh cycle of an address, defined by time: power runs, the slot is refreshed, and it
-- holds the same address and the same entry at every moment; and the track time is 171,840
-- microseconds for each slot that is refreshed at some moment, the time of 16 of the longest
-- packets of 10,740 microseconds.
pub record IsTimedCycleOf (slot a : ℕ) (e : Entry) (known : ThrottleView) (bus : BusState) (cycle : List Event) : Type 0 where
  pub is_slot : IsSlot slot
  pub live : AtEveryMoment (IsLive slot) known (calls_in (layout_events bus cycle))
  pub stands : AtEveryMoment (StandsIn slot a e) known (calls_in (layout_events bus cycle))
  pub enough : 171840 * slots_refreshed known (calls_in (layout_events bus cycle)) ≤ micros_in bus cycle

-- The headline in time. If no packet was under way at the start, the locomotive, node i, that
-- answers to the address, agrees in steps and misses no turn of the cycle runs as the entry asks
-- after the cycle, whatever preceded it.
abbrev pub RunsInTime : BusState → List Event → (old new : List Node) → Type 0
RunsInTime start = ForEachLoco (λ before cycle i loco node.
    (slot a : ℕ) (e : Entry)
    → IsBetweenPackets loco
    → HearsCycle i a e loco (layout_events (after_events start before) cycle)
    → IsTimedCycleOf slot a e (known_after_all (known_of start.station) (calls_in (layout_events start before))) (after_events start before) cycle
    → running_of node ≡ Some (wanted e loco.settings.reversed))

-- a locomotive, and what its slot asks of it
pub record Assignment : Type 0 where
  pub node : ℕ
  pub loco : LocoDecoder
  pub slot : ℕ
  pub address : ℕ
  pub entry : Entry

abbrev pub wanted_of : Assignment → Running
wanted_of asked = wanted asked.entry asked.loco.settings.reversed

-- what throttles can know after events
abbrev pub known_at : BusState → List Event → ThrottleView
known_at start before =
    known_after_all (known_of start.station) (calls_in (layout_events start before))

-- A locomotive hears a cycle defined by time, and everything later, and its slot says the same at
-- every moment of both.
pub record IsHeard (asked : Assignment) (start : BusState)
    (before cycle later : List Event) : Type 0 where
  pub between : IsBetweenPackets asked.loco
  pub hears : HearsCycle asked.node asked.address asked.entry asked.loco
      (layout_events (after_events start before) (cycle ++ later))
  pub timed : IsTimedCycleOf asked.slot asked.address asked.entry (known_at start before)
      (after_events start before) cycle
  pub asks : KeepsAsking asked.slot asked.address asked.entry (known_at start before)
      (calls_in (layout_events (after_events start before) (cycle ++ later)))

-- So it runs as the entry asks, with power, also after the cycle, however many other slots are
-- refreshed then.
abbrev pub RunsOnInTime : BusState → List Event → (old new : List Node) → Type 0
RunsOnInTime start events old new =
    (asked : Assignment) (before cycle later : List Event) (none : Node)
    → events ≡ before ++ (cycle ++ later)
    → asked.node < length old
    → slice_index_or old asked.node none ≡ Loco asked.loco
    → IsHeard asked start before cycle later
    → (running_of (slice_index_or new asked.node none) ≡ Some (wanted_of asked))
    × IsLive asked.slot (after_events start events).station.powered
