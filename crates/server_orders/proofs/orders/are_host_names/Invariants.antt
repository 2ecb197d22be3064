use Rattle.std.proofs.Common.{◌≡◌, map, drop}
use Rattle.std.specs.List.{list_all}
use Rattle.server_orders.specs.ServerLine.{is_host_name}
use Rattle.server_orders.proofs.orders.are_host_names.Given as goal

-- the rest decides
abbrev pub invariant-loop-name : goal.invariant-loop-name
invariant-loop-name l = list_all is_host_name (map (λ name. name.now) (drop l.name-index l.names)) ≡ list_all is_host_name (map (λ name. name.now) l.names)
