use Rattle.std.proofs.Common.{map}
use Rattle.server_orders.specs.Shares.{AreSharesOf, IsShare}
use Rattle.server_orders.proofs.Unmatched.{none_of_part}
use Rattle.server_orders.proofs.Sharing.{next_share, share_at}
use Rattle.server_orders.proofs.shares.shares_of.Goals as goal

pub returns-in_err-share-clause-fault : goal.returns-in_err-share-clause-fault
returns-in_err-share-clause-fault c =
    none_of_part (IsShare _) (AreSharesOf (map (λ value. value.now) c.args.values.now)) c.from_residual.result c.in_err-share.field-0.0
    c.from_residual.ensures.1 (λ shares are. share_at c.args.values.now shares c.loop-value.value-index _ are c.loop-value-test.true) c.in_err-share.ensures.fault

pub loop-value-preserved : goal.loop-value-preserved
loop-value-preserved c =
    next_share c.args.values.now c.loop-value.shares.items c.push.new.shares.items c.in_ok-share.field-0 c.loop-value.value-index _ c.loop-value-test.true c.loop-value.invariant
    c.in_ok-share.ensures.share c.in_ok-push.ensures
