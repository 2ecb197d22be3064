use Rattle.std.proofs.Common.{◌≡◌, map, take}
use Rattle.layout_core.specs.Nodes.{node_of}
use Rattle.layout_core.proofs.nodes.Nodes.new.Given as goal

abbrev pub invariant-loop-spec : goal.invariant-loop-spec
invariant-loop-spec l = l.nodes.items ≡ map node_of (take l.spec-index l.spec-items)
