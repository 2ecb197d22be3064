use Rattle.std.proofs.Common.{◌≡◌, ◌++◌, take, drop, length, map, option_copied}
use Rattle.bus_server.specs.Answers.{after_line, count_of}
use Rattle.bus_server.specs.NamedNodes.{names_of}
use Rattle.bus_server.proofs.answers.Answers.advance.Given as goal

-- the clients before this index have received their line, and the others not yet
abbrev pub invariant-loop-client : goal.invariant-loop-client
invariant-loop-client l =
    let count = count_of (names_of l.fn.self.nodes.items) (option_copied l.railway) in
    record {
      under_way : take l.client l.self.under_way ++ map (after_line count (option_copied l.programming)) (drop l.client l.self.under_way) ≡ map (after_line count (option_copied l.programming)) l.fn.self.under_way;
      nodes : l.self.nodes ≡ l.fn.self.nodes;
      eight : length l.self.under_way ≡ 8;
    }
