use Rattle.std.proofs.Common.{◌≡◌, ◌+◌, ◌∙◌, ℕ, ap, sym, subst, arith}
use Rattle.std.specs.Prelude.{IfOk}
use Rattle.show_text.specs.declared.command.Command.{Command}
use Rattle.station.specs.Replayed.{events_of, turns_among}
use Rattle.station.proofs.Replaying.{turns_of_many}
use Rattle.station.proofs.replay.play_command.Goals as goal

pub play_turns-requires : goal.play_turns-requires
play_turns-requires g c =
    let same : turns_among (events_of c.args.command) ≡ c.in-Turns.count = ap (λ (command : Command). turns_among (events_of command)) c.in-Turns.is ∙ turns_of_many c.in-Turns.count c.in-Turns.missed in
    omega (arith, same, c.requires.numbers)

pub returns-in-Turns-clause-next : goal.returns-in-Turns-clause-next
returns-in-Turns-clause-next g c =
    let same : turns_among (events_of c.args.command) ≡ c.in-Turns.count = ap (λ (command : Command). turns_among (events_of command)) c.in-Turns.is ∙ turns_of_many c.in-Turns.count c.in-Turns.missed in
    subst (λ (n : ℕ). IfOk c.play_turns.result (λ next. next ≡ c.args.turn + n)) (sym same) c.play_turns.ensures.next
