use Rattle.std.proofs.Common.{refl}
use Rattle.station_orders.specs.StationLine.{monitor_app, replay_app, serve_app, station_app}
use Rattle.station_orders.proofs.table.station.Goals as goal

pub returns : goal.returns
unfolding station_app replay_app monitor_app serve_app
returns c = refl
