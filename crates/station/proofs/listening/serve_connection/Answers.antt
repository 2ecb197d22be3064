use Rattle.std.proofs.Common.{refl}
use Rattle.station.proofs.Connecting.{faulted_part, gives_up, served_whole}
use Rattle.station.proofs.listening.serve_connection.Goals as goal

pub returns-in-Err-clause-part : goal.returns-in-Err-clause-part
returns-in-Err-clause-part g c =
    faulted_part c.in-Err.fault c.args.limits.turns _ _ _ c.serve.new.world _ _ c.in-Err.ensures.faulted

pub returns-in-Err-clause-given_up : goal.returns-in-Err-clause-given_up
returns-in-Err-clause-given_up g c =
    gives_up c.given_up.result c.in-Err.fault c.args.limits _ _ c.args.world.now c.serve.new.world _ _ _ _ c.given_up.ensures c.in-Err.ensures.faulted

pub returns-in-Ok-clause-served : goal.returns-in-Ok-clause-served
returns-in-Ok-clause-served g c =
    served_whole c.args.limits c.in-Ok._summary _ _ _ _ c.in-Ok.ensures.served refl c.serve.ensures.most_reads
