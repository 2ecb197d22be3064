use Rattle.std.proofs.Common.{◌≡◌, ◌++◌, List, drop, take, length}
use Rattle.layout_core.specs.declared.node.Node.{Node}
use Rattle.layout_core.specs.Played.{after_events, answers_to}
use Rattle.layout_core.specs.World.{HaveHeard, IsSameLayout}
use Rattle.layout_core.proofs.world.World.run.Given as goal

-- the events so far and the events to come are all the events
abbrev pub invariant-loop-i : goal.invariant-loop-i
invariant-loop-i l = record {
  rest : after_events l.self.station (drop l.i l.events) ≡ after_events l.fn.self.station l.events;
  written : take l.i l.steps ++ answers_to l.self.station (drop l.i l.events) ≡ answers_to l.fn.self.station l.events;
  same_length : length l.events ≡ length l.steps;
  heard : (new : List Node) → HaveHeard l.self.station (drop l.i l.events) l.self.nodes new → HaveHeard l.fn.self.station l.events l.fn.self.nodes new;
  same : IsSameLayout l.fn.self l.self;
}
