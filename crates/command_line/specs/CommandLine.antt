-- A command line, as clap reads it.
use Rattle.std.specs.Prelude.{◌≡◌, ◌==◌, ℕ, Bool, List, [], ◌∷◌, Some, true, false, length, map, not, pos, Result, IfOk}
use Rattle.std.specs.List.{fold}
use Rattle.clap.specs.Words.{App, Rule, Text, app_of, found_of, matches_of, new_app, new_rule, rows_of, subcommand_of, subcommand_rows_of, with_rule, with_subcommand}
use Rattle.clap.specs.declared.builder.command.Command.{Command}
use Rattle.clap.specs.declared.builder.Command.TheViews.{out-Command as fields_of}
use Rattle.clap.specs.declared.builder.ArgAction.TheVariants.{Append, Set, SetTrue}
use Rattle.clap.specs.declared.builder.value_parser.ValueParser.TheVariants as vp
use Rattle.clap.specs.declared.parser.matches.ArgMatches.{ArgMatches}
use Rattle.command_line.specs.declared.table.Argument.{Argument}
use Rattle.command_line.specs.declared.table.CommandText.{CommandText}
use Rattle.command_line.specs.declared.table.Kind.{Kind}
use Rattle.command_line.specs.declared.table.Kind.TheVariants.{Flag, Single, Repeated, Number, Positional}
use Rattle.command_line.specs.declared.table.Need.{Need}
use Rattle.command_line.specs.declared.table.Need.TheVariants.{Optional, Required, Default}
use Rattle.command_line.specs.declared.table.ProgramText.{ProgramText}

-- The arguments.

-- a value at its position
abbrev pub value : Text → Rule
value id = record (new_rule id) { value_names = 1; action = Some Set }

-- `--id VALUE`
abbrev pub option : Text → Rule
option id = record (value id) { long = Some id }

-- `--id VALUE`, which may be repeated
abbrev pub repeated : Text → Rule
repeated id = record (option id) { action = Some Append }

-- `--id N`, a number in a range
abbrev pub number : Text → ℕ → ℕ → Rule
number id least most = record (option id) { parser = Some (vp.Signed (pos least) (pos most)) }

-- `--id`, a flag without a value
abbrev pub flag : Text → Rule
flag id = record (new_rule id) { long = Some id; action = Some SetTrue }

-- the default of an option
abbrev pub or_else : Rule → Text → Rule
or_else rule text = record rule { defaults = text ∷ [] }

abbrev pub needed : Rule → Rule
needed rule = record rule { required = true }

-- The commands.

abbrev pub with_rules : App → List Rule → App
with_rules app rules = fold with_rule app rules

-- the program of this name, with a version, whose arguments do not include the name
abbrev pub named_app : (name : Text) → (needs_subcommand : Bool) → App
named_app name needs_subcommand = record (new_app name) { top = record (new_app name).top { no_binary_name = true; has_version = true; subcommand_required = needs_subcommand } }

-- The commands of a table.

abbrev pub kind_rule : Text → Kind → Rule
kind_rule id Flag = flag id
kind_rule id Single = option id
kind_rule id Repeated = repeated id
kind_rule id (Number least most) = number id least most
kind_rule id Positional = value id

abbrev pub needed_as : Need → Rule → Rule
needed_as Optional rule = rule
needed_as Required rule = needed rule
needed_as (Default text) rule = or_else rule text.now

abbrev pub rule_in : Argument → Rule
rule_in argument = needed_as argument.need (kind_rule argument.id.now argument.kind)

abbrev pub command_app : CommandText → App
command_app command = with_rules (new_app command.name.now) (map rule_in command.arguments.now)

abbrev pub with_command : App → CommandText → App
with_command app command = with_subcommand app (command_app command).top

abbrev pub program_app : ProgramText → App
program_app text =
    fold with_command (with_rules (named_app text.command.name.now (not (length text.subcommands.now == 0))) (map rule_in text.command.arguments.now)) text.subcommands.now

-- The fact about a command being built: none if memory ran out.

abbrev pub HasApp : {E : Type 0} → Result Command E → App → Type 0
HasApp draft app = IfOk draft (λ c. app_of c ≡ app)

abbrev pub HasNoGlobals : {E : Type 0} → Result Command E → Type 0
HasNoGlobals draft = IfOk draft (λ c. (fields_of c).has_globals ≡ false)

-- clap's matches of the arguments: those of the command and of its subcommand
abbrev pub HasRows : App → List Text → ArgMatches → Type 0
HasRows app words m = (rows_of (found_of m) ≡ matches_of app words) × (subcommand_rows_of m ≡ subcommand_of app words)
