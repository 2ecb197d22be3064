-- A station neither obeys nor answers these operations.
use Rattle.std.proofs.Common.{◌≡◌, ℕ, true, None, refl}
use Rattle.ln_ops.specs.declared.op.Op.{Op}
use Rattle.ln_ops.specs.declared.op.Op.TheVariants.{LongAck, SlotData, Other}
use Rattle.station_core.specs.After.{after}
use Rattle.station_core.specs.Answer.{answer}
use Rattle.station_core.specs.Powered.{PoweredDesk}
use Rattle.bus_log.specs.Lines.{has_no_effect}

abbrev HasNoEffect : Op → Type 0
HasNoEffect op = (powered : PoweredDesk) (waiting : ℕ) → (after powered op ≡ powered) × (answer powered op waiting ≡ None)

pub no_effect : (op : Op) → has_no_effect op ≡ true → HasNoEffect op
no_effect (LongAck opc ack) e = λ powered waiting. (refl, refl)
no_effect (SlotData fields) e = λ powered waiting. (refl, refl)
no_effect Other e = λ powered waiting. (refl, refl)
no_effect _ e = cc
