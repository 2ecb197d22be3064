use Rattle.std.proofs.Common.{◌≡◌, List, true, ap, subst, sym, ◌∙◌}
use Rattle.std.specs.List.{list_all}
use Rattle.ln_ops.specs.declared.sensor.SensorReport.{SensorReport}
use Rattle.railway.specs.declared.block.Block.{Block}
use Rattle.railway.specs.Blocks.{is_block}
use Rattle.railway.specs.Network.{Network}
use Rattle.railway.specs.Railway.{RailwayState, is_sensed}
use Rattle.railway.specs.Reports.{AreBlocksMarked, changes_through, is_report}
use Rattle.railway.proofs.Leading.{sound}
use Rattle.railway.proofs.Occupying.{level_in, through-levels, through-marked}
use Rattle.railway.proofs.Sensors.{legal_through}
use Rattle.railway.proofs.railway.Railway.changes_through.Goals as goal

same_blocks : (c : goal.After-changes_through) → c.as_slice.result.now ≡ c.args.self.now.network.blocks
same_blocks c = c.as_slice.ensures.value ∙ ap (λ (n : Network). n.blocks) c.track.view_is ∙ ap (λ (r : RailwayState). r.network.blocks) c.self.view_is

pub returns-clause-reports : goal.returns-clause-reports
returns-clause-reports c was sensed marked since =
    let blocks = c.as_slice.result.now in
    let of_blocks : AreBlocksMarked blocks sensed c.args.since = subst (λ (bs : List Block). AreBlocksMarked bs sensed c.args.since) (sym (same_blocks c)) since in
    c.changes_through.ensures
    ∙ through-marked was sensed (is_sensed c.args.self.now) c.args.before c.args.since c.sensed.result blocks marked of_blocks c.sensed.ensures c.as_slice.ensures.fits
    ∙ ap (λ (bs : List Block). changes_through bs was sensed (is_sensed c.args.self.now)) (same_blocks c)

-- the marks are those of levels, so what is reported is legal
pub returns-clause-sensors : goal.returns-clause-sensors
returns-clause-sensors c =
    let network : Network = record { blocks = c.track.inside.blocks.items; joints = c.track.inside.joints.items; turnouts = c.track.inside.turnouts.items } in
    let lengths = subst (λ (blocks : List Block). list_all is_block blocks ≡ true) (sym c.as_slice.ensures.value) (sound network c.track.invariant).lengths in
    let same = c.changes_through.ensures ∙ through-levels c.args.before c.args.since c.sensed.result c.as_slice.result.now c.as_slice.ensures.fits in
    subst (λ (reports : List SensorReport). list_all is_report reports ≡ true) (sym same)
    (legal_through c.as_slice.result.now (level_in c.args.before) (level_in c.args.since) (level_in c.sensed.result) lengths)
