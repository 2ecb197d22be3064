use Rattle.std.proofs.Common.{◌≡◌, lit<, length, refl}
use Rattle.std.specs.List.{position_or_len}
use Rattle.server_orders.specs.Shares.{is_equals_sign}
use Rattle.server_orders.proofs.Sharing.{none_passes}
use Rattle.server_orders.proofs.shares.parts.Goals as goal

pub returns-in-None-clause-decoder : goal.returns-in-None-clause-decoder
returns-in-None-clause-decoder c =
    let value = c.args.value.now in
    let end : position_or_len is_equals_sign value ≡ length value = c.in-None.ensures.byte (lit< tt) (λ w o found. found) in
    rw (none_passes is_equals_sign value end) refl

pub returns-in-None-clause-number : goal.returns-in-None-clause-number
returns-in-None-clause-number c =
    let value = c.args.value.now in
    let end : position_or_len is_equals_sign value ≡ length value = c.in-None.ensures.byte (lit< tt) (λ w o found. found) in
    rw (none_passes is_equals_sign value end) refl
