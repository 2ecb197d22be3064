use Rattle.std.proofs.Common.{◌≡◌, ◌≤◌, ◌∙◌, ◌∷◌, ◌++◌, ◌+◌, [], List, take, refl, sym, subst, arith}
use Rattle.std.proofs.lemmas.List.{take_all, take_more}
use Rattle.std.specs.Io.KnownBytes.{Appends}
use Rattle.std.specs.List.{slice_index_or}
use Rattle.show_text.specs.declared.command.Command.{Command}
use Rattle.show_text.specs.declared.command.Command.TheVariants.{Byte}
use Rattle.station.specs.Layout.{entries_in, roster_value}
use Rattle.station.specs.Replayed.{HasDone, commands_text, events_in, events_of, turns_among}
use Rattle.station.proofs.Replaying.{HasPlayed, turns_so_far}
use Rattle.station.proofs.DecoderState.{HasReplayed, replayed_more, replayed_none}
use Rattle.station_core.specs.Powered.{HasDesk}
use Rattle.station_core.specs.Seen.{Seen}
use Rattle.station.proofs.DecoderLines.{as_many}
use Rattle.station.proofs.Wanted.{shows_as_wanted}
use Rattle.station.proofs.replay.play.Goals as goal

pub play_command-requires-clause-numbers : goal.play_command-requires-clause-numbers
play_command-requires-clause-numbers g c =
    let commands : List Command = c.args.commands.now in
    let i = c.loop-command.command-index in
    let so_far : turns_among (events_in (take i commands)) + turns_among (events_of (slice_index_or commands i (Byte 0 0))) ≤ turns_among (events_in commands) = turns_so_far commands i (Byte 0 0) c.loop-command-test.true in
    omega (arith, so_far, c.loop-command.invariant.replayed.numbered, c.requires.numbers)

pub loop-command-preserved : goal.loop-command-preserved
loop-command-preserved g c =
    let commands : List Command = c.args.commands.now in
    let i = c.loop-command.command-index in
    let command : Command = slice_index_or commands i (Byte 0 0) in
    let entries = entries_in (roster_value c.args.roster) in
    let more : take (i + 1) commands ≡ take i commands ++ command ∷ [] = take_more commands i (Byte 0 0) c.loop-command-test.true in
    record {
      replayed =
          subst (λ (done : List Command). HasReplayed entries done c.in_ok-turn.turn c.args.world.now c.play_command.new.world (g.O.Sink.held c.args.output.now) (g.O.Sink.held c.play_command.new.output)) (sym more)
          (replayed_more c.events_add_up.ensures.more c.events_add_up.ensures.obeyed entries (take i commands) command c.loop-command.turn c.in_ok-turn.turn c.args.world.now c.loop-command.world c.play_command.new.world
          (g.O.Sink.held c.args.output.now) (g.O.Sink.held c.loop-command.output) (g.O.Sink.held c.play_command.new.output)
          c.requires.between c.loop-command.invariant.replayed c.in_ok-turn.ensures.done c.in_ok-turn.ensures.next c.in_ok-turn.ensures.printed);
      lines = c.play_command.ensures.same.lines ∙ c.loop-command.invariant.lines;
      nodes = c.play_command.ensures.same.specs ∙ c.loop-command.invariant.nodes;
      failed = ◌∙◌ {b = g.O.Sink.failed c.loop-command.output} c.in_ok-turn.ensures.failed c.loop-command.invariant.failed;
      loan = ◌∙◌ {b = g.O.Sink.loan c.loop-command.output} c.play_command.ensures.loan c.loop-command.invariant.loan;
    }

pub returns : goal.returns
returns g c =
    let commands : List Command = c.args.commands.now in
    let entries = entries_in (roster_value c.args.roster) in
    let all : take c.loop-command.command-index commands ≡ commands = take_all c.loop-command.command-index commands c.loop-command-test.false in
    let done : HasDone (events_in commands) c.args.world.now c.loop-command.world =
    subst (λ (done : List Command). HasDone (events_in done) c.args.world.now c.loop-command.world) all c.loop-command.invariant.replayed.done in
    record {
      replayed = record {
        done = done;
        printed =
            subst (λ (done : List Command). Appends (g.O.Sink.held c.args.output.now) (g.O.Sink.held c.loop-command.output) (commands_text c.args.world.now entries [] done)) all
            c.loop-command.invariant.replayed.printed;
        wanted =
            shows_as_wanted c.events_add_up.ensures.obeyed c.headline.ensures.headline c.args.world.now entries commands
            (subst (λ (seen : Seen). HasDesk seen.powered) c.station.ensures c.always_legal.ensures.desk)
            (as_many (roster_value c.args.roster) c.args.world.now.nodes c.requires.nodes) c.requires.between
            (subst (λ (done : List Command). HasPlayed done c.args.world.now) all c.loop-command.invariant.replayed.all_played);
      };
      failed = c.loop-command.invariant.failed;
      loan = c.loop-command.invariant.loan;
    }

pub loop-command-init : goal.loop-command-init
loop-command-init g c = record {
  replayed = replayed_none c.events_add_up.ensures.none (entries_in (roster_value c.args.roster)) c.args.world.now (g.O.Sink.held c.args.output.now);
  lines = refl;
  nodes = c.requires.nodes;
  failed = refl;
  loan = refl;
}
