-- The parts of a tracked reader that clauses use.
use Rattle.std.specs.Prelude.{Bool}
use Rattle.input_text.specs.declared.tracked_reader.TrackedReader.{TrackedReader}

abbrev pub tracked_reader_of : {R : Type 0} → TrackedReader R → R
tracked_reader_of n = n.reader

abbrev pub read_failed : {R : Type 0} → TrackedReader R → Bool
read_failed n = n.failed
