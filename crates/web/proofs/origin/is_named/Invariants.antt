use Rattle.std.proofs.Common.{◌≡◌, false, map, drop, codes}
use Rattle.std.specs.Prelude.{string_bytes}
use Rattle.std.specs.List.{list_any}
use Rattle.web.specs.Origins.{is_name}
use Rattle.web.proofs.origin.is_named.Given as goal

-- it is not localhost, and none of the names before this one
abbrev pub invariant-loop-name : goal.invariant-loop-name
invariant-loop-name l = record {
  localhost : is_name (codes "localhost") l.host ≡ false;
  rest : list_any (λ name. is_name name l.host) (drop l.name-index (map (λ name. string_bytes name) l.names)) ≡ list_any (λ name. is_name name l.host) (map (λ name. string_bytes name) l.names);
}
