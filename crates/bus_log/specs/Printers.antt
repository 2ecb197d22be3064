-- A printer, as contracts see it.
use Rattle.std.specs.Prelude.{ℕ, ◌/◌, if◌then◌else◌, List, ◌++◌, map, Option}
use Rattle.layout_core.specs.declared.node.Node.{Node}
use Rattle.layout_core.specs.declared.decoder_state.DecoderState.{DecoderState}
use Rattle.layout_core.specs.DecoderStates.{decoder_state_of}
use Rattle.bus.specs.declared.outcome.Outcome.{Outcome}
use Rattle.railway.specs.Railway.{RailwayState}
use Rattle.bus_log.specs.declared.printer.Printer.{Printer}
use Rattle.decoder_node.specs.declared.node.NodeSpec.{NodeSpec}
use Rattle.roster.specs.Decoders.{entries_of, specs_of}
use Rattle.bus_log.specs.Lines.{PrinterState, lines_of}
use Rattle.bus_log.specs.RailwayLines.{railway_lines}
use Rattle.bus_log.specs.declared.turn_times.TurnTimes.{TurnTimes}
use Rattle.bus_log.specs.declared.verbosity.Verbosity.{Verbosity}
use Rattle.bus_log.specs.LogQueues.{LogState, begun_with}
use Rattle.bus_log.specs.Times.{time_text}
use Rattle.bus_log.specs.Verbosities.{has_times, prints_packets}

abbrev pub printer_state : Printer → PrinterState
printer_state printer = record { turns = printer.turns; times = printer.times; decoder_states = printer.decoder_states.items; trains = printer.trains.items }

-- the decoders of its roster
abbrev pub decoder_specs_of : Printer → List NodeSpec
decoder_specs_of printer = specs_of (entries_of printer.roster)

-- each line that follows begins with the time at which this turn began, if lines have times
abbrev pub log_at : Verbosity → TurnTimes → LogState → LogState
log_at verbosity times log = if has_times verbosity then begun_with (time_text (times.began / 1000)) log else log

-- the states of the decoders of a layout
abbrev pub decoder_states_of : List Node → List DecoderState
decoder_states_of nodes = map decoder_state_of nodes

-- the lines of an outcome, with these decoders
abbrev pub outcome_lines : Printer → Outcome → List Node → List (List ℕ)
outcome_lines printer outcome nodes = lines_of (prints_packets printer.verbosity) (entries_of printer.roster) (printer_state printer) outcome (decoder_states_of nodes)

-- the lines of an observation: those of the outcome, and then those of the blocks and the trains
abbrev pub observed_lines : Printer → Outcome → List Node → Option RailwayState → List (List ℕ)
observed_lines printer outcome nodes railway = outcome_lines printer outcome nodes ++ railway_lines (entries_of printer.roster) printer.trains.items railway
