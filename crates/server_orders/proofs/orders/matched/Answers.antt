use Rattle.std.proofs.Common.{codes, map, string_bytes}
use Rattle.clap.specs.Words.{all_of, found_of, rows_of}
use Rattle.server_orders.specs.ServerLine.{AreCompatibleFor, AreHosts, AreSettings, IsServerOrder}
use Rattle.server_orders.specs.Shares.{AreShares}
use Rattle.server_orders.proofs.Unmatched.{none_of_part, settings_of}
use Rattle.server_orders.proofs.orders.matched.Goals as goal

pub returns-in_err-settings-clause-fault : goal.returns-in_err-settings-clause-fault
returns-in_err-settings-clause-fault c =
    let rows = rows_of (found_of c.args.found.now) in
    none_of_part (AreSettings rows) (IsServerOrder rows) c.from_residual.result c.in_err-settings.field-0.0
    c.from_residual.ensures.1 (settings_of rows) c.in_err-settings.ensures.fault

pub returns-in_err-check_compatible-clause-fault : goal.returns-in_err-check_compatible-clause-fault
returns-in_err-check_compatible-clause-fault c =
    let rows = rows_of (found_of c.args.found.now) in
    none_of_part (AreCompatibleFor rows) (IsServerOrder rows) c.from_residual-in_err-check_compatible.result c.in_err-check_compatible.field-0.0
    c.from_residual-in_err-check_compatible.ensures.1 (λ order is. (order, is.compatible)) c.in_err-check_compatible.ensures.fault

pub returns-in_err-hosts-clause-fault : goal.returns-in_err-hosts-clause-fault
returns-in_err-hosts-clause-fault c =
    let rows = rows_of (found_of c.args.found.now) in
    none_of_part (AreHosts (all_of (codes "host") rows)) (IsServerOrder rows) c.from_residual-in_err-hosts.result c.in_err-hosts.field-0.0 c.from_residual-in_err-hosts.ensures.1
    (λ order is. (map (λ host. string_bytes host) order.hosts.items, is.by_hosts)) c.in_err-hosts.ensures.fault

pub returns-in_err-lose-clause-fault : goal.returns-in_err-lose-clause-fault
returns-in_err-lose-clause-fault c =
    let rows = rows_of (found_of c.args.found.now) in
    none_of_part (AreShares (all_of (codes "lose") rows)) (IsServerOrder rows) c.from_residual-in_err-lose.result c.in_err-lose.field-0.0 c.from_residual-in_err-lose.ensures.1
    (λ order is. (order.lose.items, is.shares_lost)) c.in_err-lose.ensures.fault
