use Rattle.std.proofs.Common.{◌≡◌, ◌+◌, ◌-◌, ℕ, sym, ap, ◌∙◌, arith}
use Rattle.slot_table.specs.Reading.{row_of}
use Rattle.station_core.proofs.Steps.{get-addresses}
use Rattle.station_core.proofs.schedule.AddressesView.address.Goals as goal

pub returns : goal.returns
returns c =
    let place : c.args.slot - 1 + 1 ≡ c.args.slot = omega arith in
    ap (λ r. r.address) c.row.ensures.row
    ∙ ap (λ (n : ℕ). (row_of c.args.self.now.table.now n).address) (sym place)
    ∙ sym (get-addresses c.args.self.now.table.now (c.args.slot - 1) (omega arith))
