use Rattle.std.proofs.Common.{ap, option_copied}
use Rattle.roster.specs.Decoders.{entries_of}
use Rattle.bus_log.specs.Lines.{PrinterState}
use Rattle.bus_log.specs.Printers.{outcome_lines}
use Rattle.bus_log.proofs.EachLine.{railway_behind}
use Rattle.bus_log.proofs.printer.Printer.print_observed.Goals as goal

pub returns-clause-printed : goal.returns-clause-printed
returns-clause-printed c =
    let old = c.args.self.now in
    let mid = c.print.new.self in
    railway_behind old.log mid.log c.print_railway.new.self.log (outcome_lines old c.args.outcome.now c.args.world.now.nodes)
    (entries_of old.roster) (entries_of mid.roster) old.trains.items mid.trains.items (option_copied c.args.railway)
    c.print.ensures.printed (ap entries_of c.print.ensures.roster) (ap (λ (s : PrinterState). s.trains) c.print.ensures.printer_state) c.print_railway.ensures.printed
