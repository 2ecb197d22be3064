use Rattle.std.proofs.Common.{◌≡◌, ◌+◌, ◌≤◌, drop}
use Rattle.roster.specs.Details.{line_feeds}
use Rattle.roster.proofs.locating.line_feeds.Given as goal

abbrev pub invariant-loop-byte : goal.invariant-loop-byte
invariant-loop-byte l = record {
  count : l.count + line_feeds (drop l.byte-index l.text) ≡ line_feeds l.text;
  most : l.count ≤ l.byte-index;
}
