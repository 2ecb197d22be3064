use Rattle.std.proofs.Common.{◌≡◌, drop}
use Rattle.std.specs.Prelude.{IsTrue}
use Rattle.describe.specs.Rows.{fits, parts_of, rows_of}
use Rattle.describe.proofs.rows.parts_of.Given as goal

abbrev pub invariant-loop-row : goal.invariant-loop-row
invariant-loop-row l = record {
  rest : parts_of (rows_of (drop l.row-index l.rows)) l.bytes ≡ parts_of (rows_of l.rows) l.bytes;
  fits : IsTrue (fits (rows_of (drop l.row-index l.rows)));
}
