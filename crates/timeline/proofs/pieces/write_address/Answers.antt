use Rattle.std.proofs.Common.{ℕ, subst, sym}
use Rattle.std.specs.Prelude.{OnOk}
use Rattle.std.specs.Io.KnownBytes.{Appends}
use Rattle.trace.specs.declared.reported_state.ReportedState.{ReportedState}
use Rattle.timeline.specs.Picture.{address_name, module_name}
use Rattle.timeline.proofs.pieces.write_address.Goals as goal

pub returns-in-Accessory : goal.returns-in-Accessory
returns-in-Accessory g c =
    subst (λ (s : ReportedState). OnOk c.write_module.result (Appends (g.O.Write.contents c.args.output.now) (g.O.Write.contents c.write_module.new.output) (address_name s))) (sym c.in-Accessory.is)
    (subst (λ (n : ℕ). OnOk c.write_module.result (Appends (g.O.Write.contents c.args.output.now) (g.O.Write.contents c.write_module.new.output) (module_name n))) c.number.ensures.value c.write_module.ensures)
