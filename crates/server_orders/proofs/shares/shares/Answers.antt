use Rattle.std.proofs.Common.{codes, map, ap, ◌∙◌, sym, option_map}
use Rattle.clap.specs.Words.{all_of, found_of, rows_of}
use Rattle.server_orders.specs.Shares.{AreShares, AreSharesOf}
use Rattle.server_orders.proofs.Sharing.{of_given, unmatched_of}
use Rattle.server_orders.proofs.shares.shares.Goals as goal

pub returns-clause-fault : goal.returns-clause-fault
returns-clause-fault c =
    let read = all_of (codes "lose") (rows_of (found_of c.args.found.now)) in
    let values = map (λ value. value.now) c.in-Some.values.now in
    unmatched_of (AreSharesOf values) (AreShares read) c.shares_of.result
    (λ shares are. of_given read values shares (sym (ap (option_map (λ values. map (λ value. value.now) values.now)) c.in-Some.is) ∙ c.repeated.ensures) are) c.shares_of.ensures.fault
