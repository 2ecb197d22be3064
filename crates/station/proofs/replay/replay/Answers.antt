use Rattle.std.proofs.Common.{rules, ◌≡◌, ◌≢◌, ◌+◌, ◌<◌, ◌^◌, List, length, Err, sym, subst}
use Rattle.show_text.specs.declared.command.Command.{Command}
use Rattle.show_text.specs.declared.command.ScriptFaultKind.TheVariants.{NoMemory}
use Rattle.show_text.specs.Script.{script_of}
use Rattle.input_text.specs.Read.{ReadsMost}
use Rattle.station.specs.Replayed.{events_in, turns_among}
use Rattle.station.proofs.Few.{can_be_numbered}
use Rattle.station.proofs.Refusing.{fails, refuses}
use Rattle.station.proofs.replay.replay.Given.{Over}
use Rattle.station.proofs.replay.replay.Goals as goal

pub play-played-requires-clause-numbers : goal.play-played-requires-clause-numbers
play-played-requires-clause-numbers g c =
    subst (λ (commands : List Command). turns_among (events_in commands) + 1 < 2 ^ 64) (sym c.as_slice-2.ensures.value) (can_be_numbered _ _ _ _ c.in_ok-commands.ensures.commands)

-- the bytes read, and the result of their script
read : (g : Over) (c : goal.After-drop-text g) → ReadsMost (g.I.Input.left c.args.input.now) (g.I.Input.left c.read_limited.new.input) 1048577 c.in_ok-text.text.items
read g c = search rules

known : (g : Over) (c : goal.After-drop-text g) → c.in_err-commands.field-0.0.why ≢ NoMemory → script_of (length c.args.world.now.station.lines) (length c.args.world.now.nodes) c.in_ok-text.text.items ≡ Err c.in_err-commands.field-0.0
known g c apart = search rules

pub returns-in_err-commands-clause-refused : goal.returns-in_err-commands-clause-refused
returns-in_err-commands-clause-refused g c =
    refuses c.from_residual-in_err-commands.result (g.I.Input.left c.read_limited.new.input) c.in_ok-text.text.items c.in_err-commands.field-0.0 c.args.world.now c.from_residual-in_err-commands.ensures.1
    (g.I.Input.left c.args.input.now) (g.O.Sink.held c.args.output.now) (read g c) (known g c)

pub returns-in_err-commands-clause-failed : goal.returns-in_err-commands-clause-failed
returns-in_err-commands-clause-failed g c =
    fails c.from_residual-in_err-commands.result (g.I.Input.left c.read_limited.new.input) c.in_ok-text.text.items c.in_err-commands.field-0.0 c.args.world.now c.from_residual-in_err-commands.ensures.1
    (g.I.Input.left c.args.input.now) (read g c) (known g c)
