use Rattle.std.proofs.Common.{◌≡◌, ◌≤◌, ◌-◌, vec_len, false}
use Rattle.std.specs.Io.KnownBytes.{Consumes}
use Rattle.input_text.proofs.reading.read_limited.Given as goal

-- the bytes read so far; no read has failed
abbrev pub invariant-loop-chunk : goal.invariant-loop-chunk
invariant-loop-chunk g l = record {
  most : vec_len l.bytes ≤ l.limit;
  taken : Consumes (g.I.Input.left l.initial.input) (g.I.Input.left l.input) l.bytes.items;
  works : g.I.Input.failed l.input ≡ false;
}

abbrev pub decreases-loop-chunk : goal.decreases-loop-chunk
decreases-loop-chunk g l = l.limit - vec_len l.bytes
