use Rattle.station_core.proofs.Queued.{changes_wait}
use Rattle.station_core.proofs.laws.changes_wait.Goals as goal

pub returns : goal.returns
returns c = changes_wait c.changes_first.ensures.bounded c.changes_first.ensures.behind c.switches_in_order.ensures.changed_behind
