use Rattle.std.proofs.Common.{false}
use Rattle.std.specs.List.{slice_index_or}
use Rattle.railway.specs.declared.joint.TurnoutState.{TurnoutState}
use Rattle.railway.specs.Blocks.{default_end}
use Rattle.railway.proofs.Switching.{one-calm, one-goes, one-less}
use Rattle.railway.proofs.track.Track.calm_time.Goals as goal

pub loop-i-preserved : goal.loop-i-preserved
loop-i-preserved c =
    let at = c.loop-i.invariant in
    let states = c.as_slice-turnouts.result.now in
    let none : TurnoutState = record { turnout = record { switch = 0; common = default_end; closed = default_end; thrown = default_end; time = 0; has_feedback = false }; decoder = 0; is_thrown = false; left = 0; outputs = 0; fails = false } in
    let state : TurnoutState = slice_index_or states c.loop-i.i none in
    let is = c.calmer_at-calm.ensures none in
    record {
      goes = one-goes c.loop-i.calm c.calmer_at-calm.result state is at.goes;
      part = one-less c.loop-i.calm c.calmer_at-calm.result c.args.micros state is at.part;
      calm = one-calm c.loop-i.calm c.calmer_at-calm.result states c.loop-i.i none c.loop-i-test.true is at.calm;
    }
