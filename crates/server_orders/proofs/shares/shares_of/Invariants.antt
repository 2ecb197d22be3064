use Rattle.std.proofs.Common.{map, take}
use Rattle.server_orders.specs.Shares.{AreSharesOf}
use Rattle.server_orders.proofs.shares.shares_of.Given as goal

-- the shares so far
abbrev pub invariant-loop-value : goal.invariant-loop-value
invariant-loop-value l = AreSharesOf (map (λ value. value.now) (take l.value-index l.values)) l.shares.items
