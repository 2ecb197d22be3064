use Rattle.std.proofs.Common.{◌≡◌, ◌++◌, ◌+◌, ◌*◌, ◌≤◌, ◌⊎◌, [], length, true}
use Rattle.std.specs.List.{list_all}
use Rattle.programming_track.specs.Time.{elapsed_by, ends_within, is_legal_end}
use Rattle.programming_track.proofs.programming_track.ProgrammingTrack.elapse.Given as goal

-- What is left of the time makes of the track what all of it makes of the first one. The packet under
-- way began in this time, if another has ended in it.
abbrev pub invariant-packets : goal.invariant-packets
invariant-packets l = record {
  state : elapsed_by l.fn.micros l.fn.self ≡ elapsed_by l.left l.self;
  ends : ends_within l.fn.micros l.fn.self ≡ l.ends.items ++ ends_within l.left l.self;
  begun : (l.ends.items ≡ []) ⊎ (l.self.elapsed ≡ 0);
  legal : list_all is_legal_end l.ends.items ≡ true;
  within : l.left ≤ l.fn.micros;
  few : 5820 * length l.ends.items + l.left ≤ l.fn.micros + 5820;
}

abbrev pub decreases-packets : goal.decreases-packets
decreases-packets l = l.left
