-- The command line of `station`, as clap reads it.
use Rattle.std.specs.Prelude.{[], ◌∷◌, codes, true}
use Rattle.clap.specs.Words.{App, new_app, with_subcommand}
use Rattle.command_line.specs.CommandLine.{named_app, needed, number, option, or_else, value, with_rules}

unfoldable pub replay_app : App
replay_app = with_rules (new_app (codes "replay")) (
    or_else (number (codes "lines") 1 8) (codes "1")
    ∷ option (codes "roster")
    ∷ [])

unfoldable pub monitor_app : App
monitor_app = with_rules (new_app (codes "monitor")) (needed (value (codes "file")) ∷ [])

unfoldable pub serve_app : App
serve_app = with_rules (new_app (codes "serve")) (
    needed (number (codes "port") 1 65535)
    ∷ option (codes "roster")
    ∷ or_else (number (codes "turns") 0 255) (codes "1")
    ∷ or_else (number (codes "reads") 1 4294967295) (codes "100000")
    ∷ or_else (number (codes "connections") 1 1000) (codes "1")
    ∷ [])

-- a command is required
unfoldable pub station_app : App
station_app = with_subcommand (with_subcommand (with_subcommand (named_app (codes "station") true) replay_app.top) monitor_app.top) serve_app.top
