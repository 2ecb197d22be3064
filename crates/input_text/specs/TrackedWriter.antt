-- The parts of a tracked writer that clauses use.
use Rattle.std.specs.Prelude.{Bool}
use Rattle.input_text.specs.declared.tracked_writer.TrackedWriter.{TrackedWriter}

abbrev pub tracked_writer : {W : Type 0} → TrackedWriter W → W
tracked_writer t = t.writer

abbrev pub write_failed : {W : Type 0} → TrackedWriter W → Bool
write_failed t = t.failed
