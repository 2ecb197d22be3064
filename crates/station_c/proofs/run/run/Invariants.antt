use Rattle.std.proofs.Common.{◌≡◌, ◌++◌, List, drop, take, length, map}
use Rattle.layout_core.specs.declared.node.Node.{Node}
use Rattle.layout_core.specs.Played.{after_events, answers_to}
use Rattle.layout_core.specs.World.{HaveHeard, IsSameLayout}
use Rattle.station_c.specs.Answer.{answered}
use Rattle.station_c.specs.Event.{event_of}
use Rattle.station_c.proofs.run.run.Given as goal

-- the events so far and the events to come are all the events
abbrev pub invariant-loop-i : goal.invariant-loop-i
invariant-loop-i l = record {
  rest : after_events l.world.station (map event_of (drop l.i l.events)) ≡ after_events l.fn.world.station (map event_of l.events);
  written : take l.i l.answers ++ map answered (answers_to l.world.station (map event_of (drop l.i l.events))) ≡ map answered (answers_to l.fn.world.station (map event_of l.events));
  heard : (new : List Node) → HaveHeard l.world.station (map event_of (drop l.i l.events)) l.world.nodes new → HaveHeard l.fn.world.station (map event_of l.events) l.fn.world.nodes new;
  same_length : length l.events ≡ length l.answers;
  same : IsSameLayout l.fn.world l.world;
}
