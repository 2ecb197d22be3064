-- The order of a command line: what clap's matches of its arguments hold.
use Rattle.std.specs.Prelude.{ℕ, ◌≡◌, List, [], ◌∷◌, codes, Option, Some, None}
use Rattle.clap.specs.Words.{Row, Text, first_of, one_of, subcommand_of}
use Rattle.station_orders.specs.declared.words.Order.{Order}
use Rattle.station_orders.specs.declared.words.Order.TheVariants.{Replay, Monitor, Serve}
use Rattle.command_line.specs.Values.{IsNumber}
use Rattle.station_orders.specs.StationLine.{station_app}

pub record IsServe (rows : List Row) (port : ℕ) (roster : Option Text) (turns reads connections : ℕ) : Type 0 where
  pub at_port : IsNumber (one_of (codes "port") rows) 1 65535 port
  pub with_roster : roster ≡ first_of (codes "roster") rows
  pub each_turns : IsNumber (one_of (codes "turns") rows) 0 255 turns
  pub most_reads : IsNumber (one_of (codes "reads") rows) 1 4294967295 reads
  pub most_connections : IsNumber (one_of (codes "connections") rows) 1 1000 connections

-- the order of a command with these matches
abbrev pub IsOrder : (command : Text) → List Row → Order → Type 0
IsOrder command rows (Replay lines roster) = (command ≡ codes "replay") × IsNumber (one_of (codes "lines") rows) 1 8 lines × (roster ≡ first_of (codes "roster") rows)
IsOrder command rows (Monitor file) = (command ≡ codes "monitor") × (Some file ≡ first_of (codes "file") rows)
IsOrder command rows (Serve port roster turns reads connections) = (command ≡ codes "serve") × IsServe rows port roster turns reads connections

abbrev pub IsMatched : Option (Text × List Row) → Order → Type 0
IsMatched (Some command) order = IsOrder command.0 command.1 order
IsMatched None order = ⊥

-- no arguments mean `replay` without options
abbrev pub IsOrderOf : List Text → Order → Type 0
IsOrderOf [] order = order ≡ Replay 1 None
IsOrderOf (word ∷ words) order = IsMatched (subcommand_of station_app (word ∷ words)) order
