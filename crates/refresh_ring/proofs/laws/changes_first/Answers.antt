use Rattle.std.proofs.Common.{rules}
use Rattle.refresh_ring.proofs.Ahead.{sends_ahead-append, turns_ahead-falls, turns_ahead-least, turns_ahead-most, turns_ahead-changed, turns_ahead-switch, changed-is_queued}
use Rattle.refresh_ring.proofs.laws.changes_first.Goals as goal

pub returns : goal.returns
returns c = search (rules, sends_ahead-append, turns_ahead-falls, turns_ahead-least, turns_ahead-most, turns_ahead-changed, turns_ahead-switch, changed-is_queued)
