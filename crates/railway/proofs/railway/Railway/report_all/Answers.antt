use Rattle.std.proofs.Common.{◌≡◌, List, true, ap, subst, sym, ◌∙◌}
use Rattle.std.specs.List.{list_all}
use Rattle.ln_ops.specs.declared.sensor.SensorReport.{SensorReport}
use Rattle.railway.specs.declared.block.Block.{Block}
use Rattle.railway.specs.Blocks.{is_block}
use Rattle.railway.specs.Network.{Network}
use Rattle.railway.specs.Railway.{RailwayState, is_sensed}
use Rattle.railway.specs.Reports.{full, is_report}
use Rattle.railway.proofs.Leading.{sound}
use Rattle.railway.proofs.Occupying.{full-marked}
use Rattle.railway.proofs.Sensors.{legal_all}
use Rattle.railway.proofs.railway.Railway.report_all.Goals as goal

same : (c : goal.After-full) → c.full.result.items ≡ full c.as_slice.result.now (is_sensed c.args.self.now)
same c = c.full.ensures ∙ full-marked (is_sensed c.args.self.now) c.sensed.result c.as_slice.result.now c.sensed.ensures c.as_slice.ensures.fits

pub returns-clause-reports : goal.returns-clause-reports
returns-clause-reports c =
    same c
    ∙ ap (λ (blocks : List Block). full blocks (is_sensed c.args.self.now))
    (c.as_slice.ensures.value ∙ ap (λ (n : Network). n.blocks) c.track.view_is ∙ ap (λ (r : RailwayState). r.network.blocks) c.self.view_is)

pub returns-clause-sensors : goal.returns-clause-sensors
returns-clause-sensors c =
    let network : Network = record { blocks = c.track.inside.blocks.items; joints = c.track.inside.joints.items; turnouts = c.track.inside.turnouts.items } in
    let lengths = subst (λ (blocks : List Block). list_all is_block blocks ≡ true) (sym c.as_slice.ensures.value) (sound network c.track.invariant).lengths in
    subst (λ (reports : List SensorReport). list_all is_report reports ≡ true) (sym (same c)) (legal_all c.as_slice.result.now (is_sensed c.args.self.now) lengths)
