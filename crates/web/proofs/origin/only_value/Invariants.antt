use Rattle.std.proofs.Common.{◌≡◌, ◌++◌, drop, option_map}
use Rattle.std.specs.Option.{option_to_list}
use Rattle.websocket.specs.Headers.{fields_of}
use Rattle.web.specs.Origins.{values_of}
use Rattle.web.proofs.origin.only_value.Given as goal

abbrev pub invariant-loop-header : goal.invariant-loop-header
invariant-loop-header l =
    values_of l.name (fields_of l.buf l.spans)
    ≡ option_to_list (option_map (λ v. v.now) l.found) ++ values_of l.name (fields_of l.buf (drop l.header-index l.spans))
