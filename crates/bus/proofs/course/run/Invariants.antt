use Rattle.std.proofs.Common.{◌≡◌, ◌++◌, List, drop, take, length}
use Rattle.layout_core.specs.declared.node.Node.{Node}
use Rattle.layout_core.specs.World.{HaveHeard, IsSameLayout}
use Rattle.bus.specs.Bus.{after_events, outcomes_of}
use Rattle.bus.specs.Invariant.{IsInvariant}
use Rattle.bus.specs.Layout.{layout_events}
use Rattle.bus.specs.State.{bus_state}
use Rattle.bus.proofs.course.run.Given as goal

-- the effect of the rest on the bus, with the outcomes so far, is that of all events
abbrev pub invariant-loop-i : goal.invariant-loop-i
invariant-loop-i l = record {
  rest : after_events (bus_state l.bus) (drop l.i l.events) ≡ after_events (bus_state l.fn.bus) l.events;
  written : take l.i l.outcome ++ outcomes_of (bus_state l.bus) (drop l.i l.events) ≡ outcomes_of (bus_state l.fn.bus) l.events;
  same_length : length l.outcome ≡ length l.events;
  heard : (new : List Node) → HaveHeard l.bus.world.station (layout_events (bus_state l.bus) (drop l.i l.events)) l.bus.world.nodes new
      → HaveHeard l.fn.bus.world.station (layout_events (bus_state l.fn.bus) l.events) l.fn.bus.world.nodes new;
  kept : IsInvariant (bus_state l.bus);
  same : IsSameLayout l.fn.bus.world l.bus.world;
}
