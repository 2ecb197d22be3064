-- The faults of a layout and of its engine, as those of a run.
use Rattle.layout_core.specs.declared.engine.ServeFault.{ServeFault}
use Rattle.layout_core.specs.declared.engine.ServeFault.TheVariants as serve
use Rattle.station_core.specs.declared.station.StationFault.{StationFault}
use Rattle.station_core.specs.declared.station.StationFault.TheVariants as station
use Rattle.console.specs.declared.fault.RunFault.{RunFault}
use Rattle.console.specs.declared.fault.RunFault.TheVariants.{Lines, NoMemory, Serve}

abbrev pub of_station : StationFault → RunFault
of_station station.BadLines = Lines
of_station station.NoMemory = NoMemory

abbrev pub of_serve : ServeFault → RunFault
of_serve serve.Read = Serve 1
of_serve serve.Write = Serve 2
of_serve serve.Trace = Serve 3
of_serve serve.TooManyReads = Serve 4
