use Rattle.std.proofs.Common.{arith, ◌∙◌, ◌≡◌, ◌<◌, Ok, get_or, length}
use Rattle.toml.specs.View.{view}
use Rattle.roster.specs.Format.{entry_of}
use Rattle.roster.proofs.Faults.{of_entry}
use Rattle.roster.proofs.InTurn.{entries_step}
use Rattle.roster.proofs.Names.{named_push}
use Rattle.roster.proofs.reading.read_entries.Goals as goal

pub returns-in-Err-clause-memory : goal.returns-in-Err-clause-memory
returns-in-Err-clause-memory c =
    let never = of_entry c.args.version c.as_slice.result.now (view c.value-item.result) in
    (rw (← c.read.ensures.answer, c.in-Err.is) at never).fault

pub loop-value-preserved : goal.loop-value-preserved
loop-value-preserved c =
    let within : c.loop-value.value-index < length c.args.values.now = c.loop-value-test.true in
    let read : entry_of c.args.version c.loop-value.entries.items (view (get_or c.args.values.now c.loop-value.value-index c.value-item.result)) ≡ Ok c.in-Ok.entry = cc in
    let step = entries_step c.args.version c.args.values.now c.loop-value.value-index c.value-item.result c.loop-value.entries.items c.in-Ok.entry within read in
    record {
      node = omega arith;
      count = omega (arith, c.push.ensures.len);
      names = rw c.push.ensures.items (named_push _ _ c.loop-value.invariant.names (rw c.as_slice.ensures.value at c.in-Ok.ensures.free));
      same = c.loop-value.invariant.same ∙ rw c.push.ensures.items step;
    }
