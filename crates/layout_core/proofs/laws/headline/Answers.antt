use Rattle.layout_core.proofs.Cycle.{Laws, runs_after_noise, runs_as_wanted, runs_on_as_wanted}
use Rattle.layout_core.proofs.laws.headline.Goals as goal

pub returns : goal.returns
returns c =
    let laws : Laws = record {
      turns = c.calls_are_moves.ensures.to_turn;
      reported = c.desk_of_messages.ensures;
      desks = c.stays_a_desk.ensures;
      coverage = c.coverage.ensures;
      packets = c.packets_of_the_desk.ensures;
      rows = c.rows_are_legal.ensures;
      settling = c.settling.ensures;
      other = c.others_leave_it.ensures.other_address;
      idle = c.others_leave_it.ensures.idle;
      accessory = c.others_leave_it.ensures.accessory;
    } in
    record { headline = runs_as_wanted laws; after_noise = runs_after_noise laws; goes_on = runs_on_as_wanted laws }
