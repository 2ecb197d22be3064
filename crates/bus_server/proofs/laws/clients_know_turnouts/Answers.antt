use Rattle.bus_server.proofs.KnowingTurnouts.{TurnoutLaws, becomes_known, stays_known}
use Rattle.bus_server.proofs.laws.clients_know_turnouts.Goals as goal

pub returns : goal.returns
returns c =
    let laws : TurnoutLaws = record {
      read = c.turnout_reports_are_read_back.ensures.read;
      kept = c.railways_are_kept.ensures.turnouts;
      time = c.turnouts_report_movements.ensures.time;
      full = c.observers_know_turnouts.ensures.full;
      after = c.observers_know_turnouts.ensures.after;
    } in
    record {
      becomes = λ turnout switch client byte none side railway observed old new. becomes_known laws turnout switch none client byte side railway observed old new;
      stays = λ turnout switch most none side rounds old new. stays_known laws turnout switch none most side rounds old new;
    }
