use Rattle.std.proofs.Common.{◌≡◌, false}
use Rattle.station.proofs.Connecting.{HasServedSoFar}
use Rattle.station.specs.Layout.{IsWorldOf, entries_in, roster_value}
use Rattle.station.proofs.listening.serve_on.Given as goal

-- this number were served; no connection takes a decoder away, and no write failed
abbrev pub invariant-loop-served : goal.invariant-loop-served
invariant-loop-served g l = record {
  nodes : IsWorldOf (roster_value l.roster) l.world.nodes;
  served : HasServedSoFar l.limits l._served (entries_in (roster_value l.roster)) l.fn.world l.world (g.O.Sink.held l.fn.output) (g.O.Sink.held l.output);
  writes : g.O.Sink.failed l.output ≡ false;
}
