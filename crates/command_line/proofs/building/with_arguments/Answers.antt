use Rattle.std.proofs.Common.{rules, ◌≡◌, ◌∙◌, ◌<◌, ap₂, sym, length, false}
use Rattle.clap.specs.Words.{app_of, with_rule}
use Rattle.clap.specs.declared.builder.Command.TheViews.{out-Command as fields_of}
use Rattle.command_line.specs.CommandLine.{rule_in}
use Rattle.command_line.proofs.Tables.{fold_map_more}
use Rattle.command_line.proofs.building.with_arguments.Goals as goal

pub loop-argument-preserved : goal.loop-argument-preserved
loop-argument-preserved c =
    let less : c.loop-argument.argument-index < length c.args.arguments.now = search rules in
    let grown = c.in_ok-command.ensures.shape c.arg.ensures.local in
    let local : (fields_of c.in_ok-command.command).has_globals ≡ false = rw (c.loop-argument.invariant.1, c.arg.ensures.local) at c.in_ok-command.ensures.globals in
    (grown ∙ ap₂ with_rule c.loop-argument.invariant.0 c.arg.ensures.rule ∙ sym (fold_map_more with_rule (app_of c.args.command) rule_in c.args.arguments.now c.loop-argument.argument-index _ less), local)
