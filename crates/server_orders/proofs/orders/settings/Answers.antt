use Rattle.std.proofs.Common.{codes}
use Rattle.clap.specs.Words.{found_of, one_of, rows_of}
use Rattle.server_orders.specs.ServerLine.{AreSettings, IsNumberIfGiven}
use Rattle.server_orders.proofs.Unmatched.{none_of_part}
use Rattle.server_orders.proofs.orders.settings.Goals as goal

pub returns-in_err-turns-clause-fault : goal.returns-in_err-turns-clause-fault
returns-in_err-turns-clause-fault c =
    let rows = rows_of (found_of c.args.found.now) in
    none_of_part (IsNumberIfGiven (one_of (codes "turns") rows) 0 255) (AreSettings rows) c.from_residual.result c.in_err-turns.field-0.0
    c.from_residual.ensures.1 (λ order is. (order.turns, is.each_turns)) c.in_err-turns.ensures.fault

pub returns-in_err-rate-clause-fault : goal.returns-in_err-rate-clause-fault
returns-in_err-rate-clause-fault c =
    let rows = rows_of (found_of c.args.found.now) in
    none_of_part (IsNumberIfGiven (one_of (codes "rate") rows) 1 100) (AreSettings rows) c.from_residual-in_err-rate.result c.in_err-rate.field-0.0
    c.from_residual-in_err-rate.ensures.1 (λ order is. (order.rate, is.at_rate)) c.in_err-rate.ensures.fault

pub returns-in_err-clients-clause-fault : goal.returns-in_err-clients-clause-fault
returns-in_err-clients-clause-fault c =
    let rows = rows_of (found_of c.args.found.now) in
    none_of_part (IsNumberIfGiven (one_of (codes "clients") rows) 0 4294967295) (AreSettings rows) c.from_residual-in_err-clients.result c.in_err-clients.field-0.0
    c.from_residual-in_err-clients.ensures.1 (λ order is. (order.clients, is.most_clients)) c.in_err-clients.ensures.fault

pub returns-in_err-page-clause-fault : goal.returns-in_err-page-clause-fault
returns-in_err-page-clause-fault c =
    let rows = rows_of (found_of c.args.found.now) in
    none_of_part (IsNumberIfGiven (one_of (codes "page") rows) 0 65535) (AreSettings rows) c.from_residual-in_err-page.result c.in_err-page.field-0.0
    c.from_residual-in_err-page.ensures.1 (λ order is. (order.page, is.at_page)) c.in_err-page.ensures.fault
