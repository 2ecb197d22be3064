use Rattle.std.proofs.Common.{◌≡◌, drop, map}
use Rattle.roster.specs.Decoders.{names_of}
use Rattle.roster.specs.Entry.{name_of}
use Rattle.lbserver.specs.Sharing.{is_known}
use Rattle.lbserver.proofs.shares.has_decoder.Given as goal

-- the rest decides
abbrev pub invariant-loop-i : goal.invariant-loop-i
invariant-loop-i l = is_known (map name_of (drop l.i l.roster)) l.name ≡ is_known (names_of l.roster) l.name
