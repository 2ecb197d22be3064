-- The headline, as it is read off the screen.
use Rattle.std.specs.Prelude.{ℕ, ◌≡◌, ◌<◌, List, [], ◌∷◌, ◌++◌, Some, None, length}
use Rattle.std.specs.List.{slice_index_or}
use Rattle.decoder_cv.specs.Settings.{Settings}
use Rattle.decoder_node.specs.Decoder.{LocoDecoder}
use Rattle.layout_core.specs.declared.event.Event.{Event}
use Rattle.layout_core.specs.declared.node.Node.{Node}
use Rattle.layout_core.specs.declared.node.Node.TheVariants.{Loco}
use Rattle.layout_core.specs.declared.world.World.{World}
use Rattle.layout_core.specs.Cycle.{HearsCycle, IsCycleOf}
use Rattle.layout_core.specs.Events.{calls_in}
use Rattle.layout_core.specs.Wanted.{wanted}
use Rattle.roster.specs.Entry.{Entry}
use Rattle.show_text.specs.declared.command.Command.{Command}
use Rattle.show_text.specs.declared.command.Command.TheVariants.{Show}
use Rattle.layout_core.specs.{Entry as SlotEntry}
use Rattle.station_core.specs.ThrottleView.{known_after_all}
use Rattle.station_core.specs.Seen.{known_of}
use Rattle.console.specs.Printed.{lines_text}
use Rattle.layout_core.specs.DecoderStates.{decoder_line}
use Rattle.station.specs.Replayed.{commands_text, events_in}

-- the line of a locomotive that runs as an entry asks
abbrev pub wanted_line : Entry → SlotEntry → Settings → List ℕ
wanted_line entry e cv = decoder_line entry.name entry.spec (record { running = Some (wanted e cv.reversed); outputs = None })

-- Wherever the commands have `show`, and the events before it end with a full refresh cycle of the
-- address of locomotive i, which heard all of it: there, after the output of the commands before
-- it, is a line for each decoder, and line i shows what its slot asks, whatever preceded the cycle.
abbrev pub ShowsAsWanted : (start : World) → List Entry → List Command → Type 0
ShowsAsWanted start entries commands =
    (earlier later : List Command) (before cycle : List Event) (i slot a : ℕ) (e : SlotEntry) (loco : LocoDecoder) (none : Node) (entry : Entry)
    → commands ≡ earlier ++ Show ∷ later
    → events_in earlier ≡ before ++ cycle
    → i < length start.nodes
    → slice_index_or start.nodes i none ≡ Loco loco
    → HearsCycle i a e loco cycle
    → IsCycleOf slot a e (known_after_all (known_of start.station) (calls_in before)) (calls_in cycle)
    → (shown : List (List ℕ)) × (commands_text start entries [] commands ≡ commands_text start entries [] earlier ++ (lines_text shown ++ commands_text start entries (events_in earlier) later))
    × (length shown ≡ length entries) × (slice_index_or shown i [] ≡ wanted_line (slice_index_or entries i entry) e loco.settings)
