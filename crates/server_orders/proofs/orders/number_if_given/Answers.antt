use Rattle.std.proofs.Common.{rules, ◌≡◌, None}
use Rattle.clap.specs.Words.{found_of, one_of, rows_of}
use Rattle.server_orders.proofs.Unmatched.{none_given, text_is_one}
use Rattle.server_orders.proofs.orders.number_if_given.Goals as goal

pub returns-in-None-clause-fault : goal.returns-in-None-clause-fault
returns-in-None-clause-fault c =
    let rows = rows_of (found_of c.args.found.now) in
    let none : c.number.result ≡ None = search rules in
    none_given (one_of c.args.id.now rows) c.args.least c.args.most c.out_of_range.result c.out_of_range.ensures
    (text_is_one c.args.id.now rows c.text.result (search rules) c.text.ensures) (c.number.ensures.none none)
