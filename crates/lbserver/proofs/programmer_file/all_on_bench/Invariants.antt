use Rattle.std.proofs.Common.{◌≤◌, length}
use Rattle.toml.specs.View.{table_view}
use Rattle.lbserver.specs.Programmers.{HasNodes}
use Rattle.lbserver.proofs.programmer_file.all_on_bench.Given as goal

-- the nodes before this one are on the bench
abbrev pub invariant-loop-before : goal.invariant-loop-before
invariant-loop-before l = record {
  nodes : HasNodes (table_view l.table) l.roster l.before l.bench;
  few : length l.bench.names ≤ l.before;
}
