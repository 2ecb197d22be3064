use Rattle.std.proofs.Common.{◌∙◌}
use Rattle.bus_server.proofs.Naming.{placed_reports, refused_reports}
use Rattle.bus_server.proofs.placement.place_at.Goals as goal

pub returns-in-Ok-clause-reports : goal.returns-in-Ok-clause-reports
returns-in-Ok-clause-reports c =
    placed_reports c.args.railway.now c.place.new.self c.args.train c.args.position c.in-Ok.reports.items c.in-Ok.ensures.fits c.in-Ok.ensures.railway c.in-Ok.ensures.reports

pub returns-in-Err-clause-reports : goal.returns-in-Err-clause-reports
returns-in-Err-clause-reports c = c.new.ensures ∙ refused_reports c.args.railway.now c.args.train c.args.position c.in-Err.fault c.in-Err.ensures.fault
