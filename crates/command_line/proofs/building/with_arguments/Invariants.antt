use Rattle.std.proofs.Common.{◌≡◌, false, map, take}
use Rattle.clap.specs.Words.{app_of}
use Rattle.clap.specs.declared.builder.Command.TheViews.{out-Command as fields_of}
use Rattle.command_line.specs.CommandLine.{rule_in, with_rules}
use Rattle.command_line.proofs.building.with_arguments.Given as goal

-- the arguments so far
abbrev pub invariant-loop-argument : goal.invariant-loop-argument
invariant-loop-argument l = (app_of l.command ≡ with_rules (app_of l.initial.command) (map rule_in (take l.argument-index l.arguments))) × ((fields_of l.command).has_globals ≡ false)
