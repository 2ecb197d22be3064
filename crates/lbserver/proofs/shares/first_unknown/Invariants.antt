use Rattle.std.proofs.Common.{◌≡◌, drop}
use Rattle.roster.specs.Decoders.{entries_of, names_of}
use Rattle.lbserver.specs.Sharing.{first_unknown}
use Rattle.lbserver.proofs.shares.first_unknown.Given as goal

-- the rest decides
abbrev pub invariant-loop-share : goal.invariant-loop-share
invariant-loop-share l = first_unknown (names_of (entries_of l.roster)) (drop l.share-index l.shares) ≡ first_unknown (names_of (entries_of l.roster)) l.shares
