use Rattle.std.proofs.Common.{◌≡◌, take}
use Rattle.bus_server.specs.NamedNodes.{names_of as named_names, specs_of as named_specs}
use Rattle.roster.specs.Decoders.{names_of, specs_of}
use Rattle.bus_log.proofs.printer.named.Given as goal

-- this number of decoders is present
abbrev pub invariant-loop-i : goal.invariant-loop-i
invariant-loop-i l = record {
  specs : named_specs l.decoders.items ≡ take l.i (specs_of l.roster);
  names : named_names l.decoders.items ≡ take l.i (names_of l.roster);
}
