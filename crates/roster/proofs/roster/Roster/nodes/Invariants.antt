use Rattle.std.proofs.Common.{◌≡◌, map, take}
use Rattle.roster.specs.Entry.{spec_of}
use Rattle.roster.proofs.roster.Roster.nodes.Given as goal

abbrev pub invariant-loop-entry : goal.invariant-loop-entry
invariant-loop-entry l = l.nodes.items ≡ map spec_of (take l.entry-index l.entry-items)
