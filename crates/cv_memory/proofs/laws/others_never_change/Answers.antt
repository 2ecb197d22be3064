use Rattle.cv_memory.proofs.Histories.{filed_stays, kept, others, reset, unnamed}
use Rattle.cv_memory.proofs.laws.others_never_change.Goals as goal

pub returns-clause-named : goal.returns-clause-named
returns-clause-named c = others

pub returns-clause-read_only : goal.returns-clause-read_only
returns-clause-read_only c = kept

pub returns-clause-reset : goal.returns-clause-reset
returns-clause-reset c = reset

pub returns-clause-unnamed : goal.returns-clause-unnamed
returns-clause-unnamed c = unnamed

pub returns-clause-file : goal.returns-clause-file
returns-clause-file c = filed_stays
