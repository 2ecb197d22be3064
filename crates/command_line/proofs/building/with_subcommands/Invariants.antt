use Rattle.std.proofs.Common.{◌≡◌, take}
use Rattle.std.specs.List.{fold}
use Rattle.clap.specs.Words.{app_of}
use Rattle.command_line.specs.CommandLine.{with_command}
use Rattle.command_line.proofs.building.with_subcommands.Given as goal

-- the subcommands so far
abbrev pub invariant-loop-text : goal.invariant-loop-text
invariant-loop-text l = app_of l.command ≡ fold with_command (app_of l.initial.command) (take l.text-index l.commands)
