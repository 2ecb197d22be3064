-- The view of an output with a buffer.
use Rattle.std.specs.Prelude.{ℕ, Bool, List, drop, Option}
use Rattle.std.specs.Io.KnownBytes.{append_known}
use Rattle.console.specs.declared.buffered.Buffered.{Buffered}

-- the bytes of the output, and then the buffered ones
abbrev pub buffered_held : {O : Type 0} → (O → Option (List ℕ)) → Buffered O → Option (List ℕ)
buffered_held held b = append_known (held b.output.now) (drop b.written b.waiting.items)

-- whether the output failed
abbrev pub buffered_failed : {O : Type 0} → (O → Bool) → Buffered O → Bool
buffered_failed failed b = failed b.output.now

-- the name of the loan of the output
abbrev pub buffered_loan : {O : Type 0} → Buffered O → ℕ
buffered_loan b = b.output.ghost_name
