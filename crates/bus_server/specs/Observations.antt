-- The observations of an observer of a server.
use Rattle.std.specs.Prelude.{ℕ, List, Option}
use Rattle.layout_core.specs.declared.node.Node.{Node}
use Rattle.bus.specs.declared.outcome.Outcome.{Outcome}
use Rattle.railway.specs.Railway.{RailwayState}

pub data Observation : Type 0 where
  -- the outcome of an event, and the decoders and the railway after it
  Observed : (outcome : Outcome) → (nodes : List Node) → (railway : Option RailwayState) → Observation
  -- the queue of a client overflowed, and its connection is closed
  Overflowed : (client : ℕ) → Observation
  -- this number of microseconds was skipped
  Skipped : (micros : ℕ) → Observation
