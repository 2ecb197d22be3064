use Rattle.std.proofs.Common.{rules, ◌∙◌, ◌<◌, [], ap, sym, length}
use Rattle.std.specs.Prelude.{get_or}
use Rattle.clap.specs.Words.{App, app_of}
use Rattle.command_line.specs.CommandLine.{with_command}
use Rattle.command_line.specs.declared.table.CommandText.{CommandText}
use Rattle.command_line.proofs.Tables.{fold_more}
use Rattle.command_line.proofs.building.with_subcommands.Goals as goal

-- what stands past the end of a table
no_command : CommandText
no_command = record {
  name = record { ref_ptr = (0, 0); now = [] };
  about = record { ref_ptr = (0, 0); now = [] };
  details = record { ref_ptr = (0, 0); now = [] };
  arguments = record { ref_ptr = (0, 0); now = [] };
}

pub loop-text-preserved : goal.loop-text-preserved
unfolding no_command
loop-text-preserved c =
    let less : c.loop-text.text-index < length c.args.commands.now = search rules in
    let text = get_or c.args.commands.now c.loop-text.text-index no_command in
    c.in_ok-command.ensures ∙ ap (λ (app : App). with_command app text) c.loop-text.invariant ∙ sym (fold_more with_command (app_of c.args.command) c.args.commands.now c.loop-text.text-index no_command less)
