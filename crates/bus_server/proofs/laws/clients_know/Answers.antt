use Rattle.bus_server.proofs.Knowing.{SensorLaws, becomes_known, stays_known}
use Rattle.bus_server.proofs.laws.clients_know.Goals as goal

pub returns : goal.returns
returns c =
    let laws : SensorLaws = record { read = c.reports_are_read.ensures.read; whole = c.railways_are_kept.ensures.kept; blocks = c.railways_are_kept.ensures.blocks; full = c.observers_know.ensures.full; after = c.observers_know.ensures.after } in
    record { becomes = becomes_known laws; stays = stays_known laws }
