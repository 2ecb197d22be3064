use Rattle.std.proofs.Common.{◌≡◌, map, drop}
use Rattle.server_orders.specs.Shares.{are_distinct, decoder_in}
use Rattle.server_orders.proofs.shares.are_distinct.Given as goal

-- the rest decides
abbrev pub invariant-loop-i : goal.invariant-loop-i
invariant-loop-i l = are_distinct (map decoder_in (map (λ value. value.now) (drop l.i l.values))) ≡ are_distinct (map decoder_in (map (λ value. value.now) l.values))
