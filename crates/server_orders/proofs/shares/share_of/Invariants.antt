use Rattle.std.proofs.Common.{◌≡◌, drop, option_map}
use Rattle.server_orders.specs.Shares.{share_of}
use Rattle.server_orders.proofs.shares.share_of.Given as goal

-- the rest decides
abbrev pub invariant-loop-share : goal.invariant-loop-share
invariant-loop-share l = share_of (drop l.share-index l.shares) (option_map (λ name. name.now) l.decoder) ≡ share_of l.shares (option_map (λ name. name.now) l.decoder)
