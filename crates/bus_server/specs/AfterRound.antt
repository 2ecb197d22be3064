-- What is shown after a round.
use Rattle.std.specs.Prelude.{List, Option}
use Rattle.layout_core.specs.declared.node.Node.{Node}
use Rattle.railway.specs.Railway.{RailwayState}

-- the decoders of a layout and the railway beside it, if there is one
pub record Shown : Type 0 where
  pub nodes : List Node
  pub railway : Option RailwayState
