-- The output after a full refresh cycle.
use Rattle.std.proofs.Common.{◌≡◌, ℕ, List, [], ◌∷◌, ◌++◌, Option, Some, None, length, map, ap, sym, subst, ◌∙◌, arith}
use Rattle.std.proofs.lemmas.List.{append-nil, get_or-map, length-map}
use Rattle.std.specs.List.{slice_index_or}
use Rattle.decoder_node.specs.declared.running.Running.{Running}
use Rattle.layout_core.specs.declared.event.Event.{Event}
use Rattle.layout_core.specs.declared.event.Event.TheVariants.{Byte, Turn, Noise}
use Rattle.layout_core.specs.declared.node.Node.{Node}
use Rattle.layout_core.specs.declared.node.Node.TheVariants.{Loco, Accessory}
use Rattle.layout_core.specs.declared.world.World.{World}
use Rattle.layout_core.specs.Cycle.{RunsAsWanted}
use Rattle.layout_core.specs.Events.{NoNoise}
use Rattle.layout_core.specs.Nodes.{IsBetween, running_of}
use Rattle.layout_core.specs.Wanted.{wanted}
use Rattle.layout_core.specs.World.{HaveHeard, HaveObeyed}
use Rattle.roster.specs.Entry.{Entry}
use Rattle.show_text.specs.declared.command.Command.{Command}
use Rattle.show_text.specs.declared.command.Command.TheVariants.{Show}
use Rattle.station_core.specs.Powered.{HasDesk}
use Rattle.station_core.specs.Seen.{Seen, known_of}
use Rattle.station.specs.Headline.{ShowsAsWanted}
use Rattle.station.specs.Layout.{AreBetween}
use Rattle.console.specs.Printed.{lines_text}
use Rattle.layout_core.specs.declared.decoder_state.DecoderState.{DecoderState}
use Rattle.layout_core.specs.DecoderStates.{decoder_line, decoder_state_of}
use Rattle.station.specs.Printed.{decoder_lines}
use Rattle.station.specs.Replayed.{HasDone, commands_text, events_in, decoder_states_after}
use Rattle.station.proofs.Replaying.{HasPlayed, commands-append}
use Rattle.station.proofs.DecoderState.{quiet_in, stands_as_told}
use Rattle.station.proofs.DecoderLines.{length-decoder_lines, line_at}

quiet_front : (i : ℕ) (events later : List Event) → NoNoise i (events ++ later) → NoNoise i events
quiet_front i [] later quiet = tt
quiet_front i (Byte line byte ∷ events) later quiet = quiet_front i events later quiet
quiet_front i (Turn missed ∷ events) later quiet = quiet_front i events later quiet
quiet_front i (Noise node half ∷ events) later quiet = (quiet.0, quiet_front i events later quiet.1)

-- a decoder that runs is a locomotive, which has no outputs
stands_so : (node : Node) (running : Running) → running_of node ≡ Some running → decoder_state_of node ≡ record { running = Some running; outputs = None }
stands_so (Loco loco) running runs = ap (λ (r : Option Running). record { running = r; outputs = None }) runs
stands_so (Accessory accessory) running runs = cc

abbrev Obeyed : Type 0
Obeyed = (seen : Seen) (events : List Event) (old new : List Node) → HaveHeard seen events old new → HaveObeyed seen events old new

abbrev Headline : Type 0
Headline = (start : Seen) (events : List Event) (old new : List Node) → HasDesk start.powered → HaveHeard start events old new → RunsAsWanted (known_of start) events old new

pub shows_as_wanted : Obeyed → Headline → (start : World) (entries : List Entry) (commands : List Command) → HasDesk start.station.powered → length start.nodes ≡ length entries → AreBetween start.nodes
    → HasPlayed commands start → ShowsAsWanted start entries commands
shows_as_wanted obeyed headline start entries commands desk many between all_played earlier later before cycle i slot a e loco none entry ends parts below is hears full =
    let events : List Event = events_in earlier in
    let there = all_played earlier (Show ∷ later) ends in
    let new : World = there.0 in
    let all : HasDone events start new = there.1 in
    let quiet : NoNoise i before = quiet_front i before cycle (subst (NoNoise i) parts (quiet_in i earlier)) in
    let runs : running_of (slice_index_or new.nodes i none) ≡ Some (wanted e loco.settings.reversed) =
    headline start.station events start.nodes new.nodes desk all.nodes before cycle i loco none parts below is slot a e (subst IsBetween is (between i none below)) quiet hears full in
    let reported : DecoderState = record { running = Some (wanted e loco.settings.reversed); outputs = None } in
    let stand : map decoder_state_of new.nodes ≡ decoder_states_after start events = stands_as_told obeyed earlier start new between all in
    let shown : List (List ℕ) = decoder_lines entries (decoder_states_after start events) in
    let so_many : length (decoder_states_after start events) ≡ length entries = ap length (sym stand) ∙ length-map new.nodes decoder_state_of ∙ all.nodes.count ∙ many in
    let whole : commands_text start entries [] (earlier ++ Show ∷ later) ≡ commands_text start entries [] earlier ++ (lines_text shown ++ commands_text start entries (events ++ []) later) =
    commands-append start entries [] earlier (Show ∷ later) in
    let printed : commands_text start entries [] commands ≡ commands_text start entries [] earlier ++ (lines_text shown ++ commands_text start entries events later) =
    ap (commands_text start entries []) ends ∙ whole ∙ ap (λ (es : List Event). commands_text start entries [] earlier ++ (lines_text shown ++ commands_text start entries es later)) (append-nil events) in
    let here : slice_index_or (decoder_states_after start events) i reported ≡ reported =
    ap (λ (decoder_states : List DecoderState). slice_index_or decoder_states i reported) (sym stand)
    ∙ get_or-map decoder_state_of new.nodes i none reported (omega (arith, below, all.nodes.count))
    ∙ stands_so (slice_index_or new.nodes i none) (wanted e loco.settings.reversed) runs in (
      shown,
      printed,
      length-decoder_lines entries (decoder_states_after start events) so_many,
      line_at entries (decoder_states_after start events) i entry reported [] (omega (arith, below, many)) so_many ∙ ap (decoder_line (slice_index_or entries i entry).name (slice_index_or entries i entry).spec) here,
    )
