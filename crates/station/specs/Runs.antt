-- The effect and the output of a run of the program that ends with status 0.
use Rattle.std.specs.Prelude.{ℕ, ◌≡◌, List, Option, map}
use Rattle.clap.specs.Words.{Text}
use Rattle.console.specs.Files.{IsRosterOf}
use Rattle.console.specs.Printed.{PrintsMessages}
use Rattle.layout_core.specs.declared.engine.Limits.{Limits}
use Rattle.layout_core.specs.declared.world.World.{World}
use Rattle.layout_core.specs.Nodes.{node_of}
use Rattle.roster.specs.Entry.{Entry}
use Rattle.station_core.specs.Seen.{first_seen}
use Rattle.station_orders.specs.declared.words.Order.{Order}
use Rattle.station_orders.specs.declared.words.Order.TheVariants.{Replay, Monitor, Serve}
use Rattle.station.specs.Connections.{HasServed, listening_text}
use Rattle.station.specs.Layout.{entries_in, specs_in}
use Rattle.station_orders.specs.Order.{IsOrderOf}
use Rattle.station.specs.Scripts.{ReplaysInput}

-- a new layout: a new station with this number of lines, and the decoders of the roster, each in
-- its first state
pub record IsNew (lines : ℕ) (roster : Option (List Entry)) (world : World) : Type 0 where
  pub station : world.station ≡ first_seen lines
  pub nodes : world.nodes ≡ map node_of (specs_in roster)

-- a script is replayed, on a new layout
abbrev pub ReplaysNew : (lines : ℕ) → (file : Option Text) → (old_input new_input old_output new_output : Option (List ℕ)) → Type 0
ReplaysNew lines file old_input new_input old_output new_output =
    (roster : Option (List Entry)) × (start new : World) × IsRosterOf file roster × IsNew lines roster start
    × ReplaysInput old_input new_input start (entries_in roster) new old_output new_output

-- connections are served, on a new layout, after the port is reported
abbrev pub ServesNew : (port : ℕ) → (file : Option Text) → Limits → (connections : ℕ) → (old_output new_output : Option (List ℕ)) → Type 0
ServesNew port file limits connections old_output new_output =
    (roster : Option (List Entry)) × (start new : World) × IsRosterOf file roster × IsNew 1 roster start
    × HasServed limits connections (entries_in roster) start new (listening_text port) old_output new_output

-- An order is carried out. The contents of a file are not known.
abbrev pub CarriesOut : Order → (old_input new_input old_output new_output : Option (List ℕ)) → Type 0
CarriesOut (Replay lines file) old_input new_input old_output new_output = ReplaysNew lines file old_input new_input old_output new_output
CarriesOut (Monitor file) old_input new_input old_output new_output = (text : List ℕ) × PrintsMessages text old_output new_output
CarriesOut (Serve port file turns reads connections) old_input new_input old_output new_output =
    ServesNew port file (record { reads = reads; turns = turns }) connections old_output new_output

-- the order of the arguments
abbrev pub Runs : (words : List Text) → (old_input new_input old_output new_output : Option (List ℕ)) → Type 0
Runs words old_input new_input old_output new_output = (order : Order) × IsOrderOf words order × CarriesOut order old_input new_input old_output new_output
