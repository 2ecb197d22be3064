use Rattle.programming_track.proofs.Reporting.{reported}
use Rattle.programming_track.proofs.laws.changes_are_reported.Goals as goal

pub returns : goal.returns
returns c = reported c.changes_are_complete.ensures.values c.others_never_change.ensures.file
