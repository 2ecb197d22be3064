use Rattle.std.proofs.Common.{◌≡◌, map, drop, option_map}
use Rattle.std.specs.List.{list_any}
use Rattle.server_orders.specs.Shares.{decoder_in, is_same_decoder}
use Rattle.server_orders.proofs.shares.names_one_of.Given as goal

-- the rest decides
abbrev pub invariant-loop-value : goal.invariant-loop-value
invariant-loop-value l =
    list_any (is_same_decoder (option_map (λ name. name.now) l.decoder)) (map decoder_in (map (λ value. value.now) (drop l.value-index l.values)))
    ≡ list_any (is_same_decoder (option_map (λ name. name.now) l.decoder)) (map decoder_in (map (λ value. value.now) l.values))
