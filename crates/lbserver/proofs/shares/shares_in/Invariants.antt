use Rattle.std.proofs.Common.{◌≡◌, length, take}
use Rattle.roster.specs.Decoders.{names_of}
use Rattle.lbserver.specs.Sharing.{shares_of}
use Rattle.lbserver.proofs.shares.shares_in.Given as goal

-- the shares of this number of decoders
abbrev pub invariant-loop-i : goal.invariant-loop-i
invariant-loop-i l = record {
  shares : l.all.items ≡ shares_of l.shares (take l.i (names_of l.roster));
  count : length l.all.items ≡ l.i;
}
