-- The handle of a layout in a program in C, and how a layout is made.
use Rattle.std.specs.Prelude.{ℕ, ◌≡◌, ◌⊎◌, Bool, true, false, if◌then◌else◌, List, length, map, Option, Some, None, Result, Ok, Err, slice_get}
use Rattle.std.specs.Option.{option_and_then}
use Rattle.station_core.specs.Seen.{Seen, first_seen, is_line_count}
use Rattle.decoder_node.specs.declared.node.NodeSpec.{NodeSpec}
use Rattle.decoder_node.specs.declared.running.Running.{Running}
use Rattle.layout_core.specs.declared.node.Node.{Node}
use Rattle.layout_core.specs.Nodes.{node_of, outputs_of, running_of}
use Rattle.railway.specs.Railway.{RailwayState}
use Rattle.roster.specs.declared.fault.RosterFault.{RosterFault}
use Rattle.roster.specs.Entry.{Entry, spec_of}
use Rattle.station_c.specs.declared.layout.Layout.{Layout}

abbrev pub station_of : Layout → Seen
station_of layout = layout.inside.contents.world.station

abbrev pub nodes_of : Layout → List Node
nodes_of layout = layout.inside.contents.world.nodes

-- the railway beside it, if it has a track plan
abbrev pub railway_of : Layout → Option RailwayState
railway_of layout = layout.inside.contents.railway

-- the railway of a layout with a track plan, if there is one
abbrev pub railway_at : Layout → Option RailwayState
railway_at layout = if layout.made then railway_of layout else None

abbrev pub lines_of : Layout → ℕ
lines_of layout = length (station_of layout).lines

-- decoder i, if there is such a decoder and a layout
abbrev pub node_at : Layout → (i : ℕ) → Option Node
node_at layout i = if layout.made then slice_get (nodes_of layout) i else None

-- how it runs, if it is a locomotive decoder
abbrev pub running_at : Layout → (i : ℕ) → Option Running
running_at layout i = option_and_then running_of (node_at layout i)

-- its outputs, if it is an accessory decoder
abbrev pub outputs_at : Layout → (i : ℕ) → Option ℕ
outputs_at layout i = option_and_then outputs_of (node_at layout i)

-- the layout is as before, with the same station, decoders and railway
abbrev pub IsUnchanged : (old new : Layout) → Type 0
IsUnchanged old new = (new.made ≡ old.made) × (new.inside.contents ≡ old.inside.contents)

-- there is one, with a new station, these decoders in their first state, and this railway or none
pub record IsNew (lines : ℕ) (specs : List NodeSpec) (railway : Option RailwayState) (layout : Layout) : Type 0 where
  pub made : layout.made ≡ true
  pub station : station_of layout ≡ first_seen lines
  pub nodes : nodes_of layout ≡ map node_of specs
  pub beside : railway_of layout ≡ railway

-- Why none is made: 4 there is one already, 2 the decoders are invalid, 1 the lines are not 1 to 8.
-- 0 if nothing is wrong.
abbrev pub refusal : (made : Bool) → Option (List NodeSpec) → (lines : ℕ) → ℕ
refusal true specs lines = 4
refusal false None lines = 2
refusal false (Some specs) lines = if is_line_count lines then 0 else 1

-- 3 if out of memory, which is returned only if nothing else is wrong
abbrev pub IsStatus : (refusal status : ℕ) → Type 0
IsStatus refusal status = (status ≡ refusal) ⊎ ((refusal ≡ 0) × (status ≡ 3))

-- the decoders of a roster, and the number of the one at fault
abbrev pub specs_in : Result (List Entry) RosterFault → Option (List NodeSpec)
specs_in (Ok entries) = Some (map spec_of entries)
specs_in (Err fault) = None

abbrev pub IsFaultyNode : Result (List Entry) RosterFault → ℕ → Type 0
IsFaultyNode (Ok entries) node = ⊥
IsFaultyNode (Err fault) node = node ≡ fault.node
