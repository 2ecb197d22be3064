-- The headline: a locomotive that hears a full refresh cycle of its address runs as its slot says.
-- All of it is stated over what throttles can know.
use Rattle.std.specs.Prelude.{ℕ, ◌≡◌, ◌+◌, ◌*◌, ◌<◌, ◌≤◌, false, List, [], ◌∷◌, ◌++◌, Some, length, IsTrue}
use Rattle.std.specs.List.{slice_index_or}
use Rattle.dcc_packet.specs.Kinds.{kinds}
use Rattle.slot_table.specs.Entry.{Entry, IsSlot}
use Rattle.slot_table.specs.Reading.{row_of}
use Rattle.station_core.specs.declared.call.Call.{Call}
use Rattle.station_core.specs.ThrottleView.{ThrottleView, known_after_all}
use Rattle.station_core.specs.Moments.{AtEveryMoment, IsFullCycle, IsLive, slots_refreshed, turns_in}
use Rattle.station_core.specs.Powered.{PoweredDesk}
use Rattle.decoder_cv.specs.Answering.{answers_to, AgreesInSteps}
use Rattle.decoder_node.specs.Decoder.{LocoDecoder, IsBetween as IsBetweenPackets}
use Rattle.layout_core.specs.declared.event.Event.{Event}
use Rattle.layout_core.specs.declared.event.Event.TheVariants.{Byte, Turn, Noise}
use Rattle.layout_core.specs.declared.node.Node.{Node}
use Rattle.layout_core.specs.declared.node.Node.TheVariants.{Loco}
use Rattle.layout_core.specs.Events.{calls_in, NoNoise}
use Rattle.layout_core.specs.Nodes.{is_missed, running_of, IsBetween}
use Rattle.layout_core.specs.Wanted.{wanted}

-- node i misses no turn of these
abbrev pub MissesNone : ℕ → List Event → Type 0
MissesNone i [] = Unit {0}
MissesNone i (Byte line byte ∷ events) = MissesNone i events
MissesNone i (Turn missed ∷ events) = (is_missed missed i ≡ false) × MissesNone i events
MissesNone i (Noise node half ∷ events) = MissesNone i events

-- The slot reads as this address, and as the entry in all that its packets say: type, speed,
-- direction and functions. Its state may change between common and in use, and so may SS2, ID1 and
-- ID2.
pub record StandsIn (slot a : ℕ) (e : Entry) (powered : PoweredDesk) : Type 0 where
  pub address : (row_of powered.desk slot).address ≡ a
  pub kind : (row_of powered.desk slot).kind ≡ e.kind
  pub spd : (row_of powered.desk slot).spd ≡ e.spd
  pub dirf : (row_of powered.desk slot).dirf ≡ e.dirf
  pub snd : (row_of powered.desk slot).snd ≡ e.snd
  pub more : (row_of powered.desk slot).more ≡ e.more

-- a full refresh cycle of an address: at every moment it is in the same slot and the same is asked
-- of it
pub record IsCycleOf (slot a : ℕ) (e : Entry) (known : ThrottleView) (calls : List Call) : Type 0 where
  pub is_slot : IsSlot slot
  pub full : IsFullCycle slot known calls
  pub stands : AtEveryMoment (StandsIn slot a e) known calls

-- The locomotive answers to the address of the cycle and agrees with its entry in the step mode;
-- and, as node i, it misses no turn of the cycle, and no noise of the cycle names it.
pub record HearsCycle (i a : ℕ) (e : Entry) (loco : LocoDecoder) (cycle : List Event) : Type 0 where
  pub answers : IsTrue (answers_to loco.settings a)
  pub steps : AgreesInSteps loco.settings e.kind
  pub misses : MissesNone i cycle
  pub quiet : NoNoise i cycle

-- For each way to part the events into a cycle and what came before it, and for each locomotive: a
-- claim of these, of the locomotive, node i, as it was at the start, and of the node as it is at
-- the end.
abbrev pub ForEachLoco : {Any : Type 0} (Claim : (before cycle : List Any) (i : ℕ) (loco : LocoDecoder) (node : Node) → Type 0) → List Any → (old new : List Node) → Type 0
ForEachLoco {Any} Claim events old new =
    (before cycle : List Any) (i : ℕ) (loco : LocoDecoder) (none : Node)
    → events ≡ before ++ cycle
    → i < length old
    → slice_index_or old i none ≡ Loco loco
    → Claim before cycle i loco (slice_index_or new i none)

-- The headline. If no packet was under way at the start, and no noise names the locomotive, then
-- after the cycle it runs as the entry asks, whatever was heard before.
abbrev pub RunsAsWanted : ThrottleView → List Event → (old new : List Node) → Type 0
RunsAsWanted start = ForEachLoco (λ before cycle i loco node.
    (slot a : ℕ) (e : Entry)
    → IsBetweenPackets loco
    → NoNoise i before
    → HearsCycle i a e loco cycle
    → IsCycleOf slot a e (known_after_all start (calls_in before)) (calls_in cycle)
    → running_of node ≡ Some (wanted e loco.settings.reversed))

-- The headline after noise. Whatever noise preceded the cycle, and whatever state it left the
-- receiver in: if the cycle has one turn more than a full one needs, the locomotive then runs as
-- the entry asks, and no packet is under way.
abbrev pub RunsAfterNoise : ThrottleView → List Event → (old new : List Node) → Type 0
RunsAfterNoise start = ForEachLoco (λ before cycle i loco node.
    (slot a : ℕ) (e : Entry)
    → HearsCycle i a e loco cycle
    → IsCycleOf slot a e (known_after_all start (calls_in before)) (calls_in cycle)
    → 4 * kinds * slots_refreshed (known_after_all start (calls_in before)) (calls_in cycle) + 1 ≤ turns_in (calls_in cycle)
    → (running_of node ≡ Some (wanted e loco.settings.reversed)) × IsBetween node)

-- At every moment of the calls power runs, and the slot is refreshed and says the same.
pub record KeepsAsking (slot a : ℕ) (e : Entry) (known : ThrottleView) (calls : List Call) : Type 0 where
  pub live : AtEveryMoment (IsLive slot) known calls
  pub stands : AtEveryMoment (StandsIn slot a e) known calls

-- The headline holds on: a locomotive that hears a cycle, and then everything for as long as its slot
-- says the same, runs as the entry asks, however many other slots are refreshed then.
abbrev pub RunsOnAsWanted : ThrottleView → List Event → (old new : List Node) → Type 0
RunsOnAsWanted start = ForEachLoco (λ before heard i loco node.
    (cycle later : List Event) (slot a : ℕ) (e : Entry)
    → heard ≡ cycle ++ later
    → IsBetweenPackets loco
    → NoNoise i before
    → HearsCycle i a e loco heard
    → IsCycleOf slot a e (known_after_all start (calls_in before)) (calls_in cycle)
    → KeepsAsking slot a e (known_after_all start (calls_in before)) (calls_in heard)
    → running_of node ≡ Some (wanted e loco.settings.reversed))
