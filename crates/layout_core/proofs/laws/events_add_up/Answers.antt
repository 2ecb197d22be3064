use Rattle.std.proofs.Common.{[]}
use Rattle.layout_core.specs.Played.{after_event}
use Rattle.layout_core.proofs.Played.{both_heard, heard_obeyed, next_heard, nothing_heard}
use Rattle.layout_core.proofs.laws.events_add_up.Goals as goal

pub returns : goal.returns
returns c = record {
  none = nothing_heard;
  one = λ seen event old new after. next_heard seen event [] old new new after (nothing_heard (after_event seen event) new);
  more = both_heard;
  obeyed = heard_obeyed;
}
