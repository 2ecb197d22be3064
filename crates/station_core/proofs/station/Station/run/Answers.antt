use Rattle.station_core.specs.Seen.{known_of}
use Rattle.station_core.proofs.station.Station.run.Goals as goal

pub returns-clause-messages : goal.returns-clause-messages
returns-clause-messages c line low =
    c.messages_of_a_line.ensures (known_of c.args.self.now) c.args.calls.now line low (c.always_legal.ensures.unfinished line)

pub returns-clause-desks : goal.returns-clause-desks
returns-clause-desks c = c.stays_a_desk.ensures (known_of c.args.self.now) c.args.calls.now c.always_legal.ensures.desk

pub returns-clause-neighbours : goal.returns-clause-neighbours
returns-clause-neighbours c = c.neighbours.ensures c.args.self.now c.args.calls.now c.always_legal.ensures.schedule

pub returns-clause-switches_are_sent : goal.returns-clause-switches_are_sent
returns-clause-switches_are_sent c = c.switches_are_sent.ensures c.args.self.now c.args.calls.now c.always_legal.ensures.schedule

pub returns-clause-coverage : goal.returns-clause-coverage
returns-clause-coverage c = c.coverage.ensures c.args.self.now c.args.calls.now

pub returns-clause-changes_first : goal.returns-clause-changes_first
returns-clause-changes_first c = c.changes_first.ensures c.args.self.now c.args.calls.now

pub returns-clause-switches_in_order : goal.returns-clause-switches_in_order
returns-clause-switches_in_order c = c.switches_in_order.ensures c.args.self.now c.args.calls.now
