use Rattle.std.proofs.Common.{◌≡◌, ◌≤◌, [], drop, length, map}
use Rattle.toml.specs.View.{view}
use Rattle.roster.specs.Pairs.{cv_pairs_after, pairs_of}
use Rattle.roster.proofs.pairs.cv_pairs.Given as goal

abbrev pub invariant-loop-value : goal.invariant-loop-value
invariant-loop-value l = record {
  room : length l.pairs.items ≤ 1024;
  same : cv_pairs_after [] (pairs_of (map view l.values)) ≡ cv_pairs_after l.pairs.items (pairs_of (map view (drop l.value-index l.values)));
}
