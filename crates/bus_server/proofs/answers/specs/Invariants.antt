use Rattle.std.proofs.Common.{◌≡◌, take}
use Rattle.bus_server.specs.NamedNodes.{specs_of}
use Rattle.bus_server.proofs.answers.specs.Given as goal

abbrev pub invariant-loop-node : goal.invariant-loop-node
invariant-loop-node l = l.specs.items ≡ specs_of (take l.node-index l.node-items)
