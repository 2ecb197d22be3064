use Rattle.std.proofs.Common.{◌≡◌, [], List, inl, map, refl, subst, sym, true}
use Rattle.std.specs.Prelude.{IfErr, IfOk}
use Rattle.std.proofs.lemmas.Result.{IfOk-weaker}
use Rattle.clap.specs.Words.{App, Row, Text, fault_of, found_of, is_simple_and_free, matches_of, rows_of}
use Rattle.clap.specs.declared.parser.matches.ArgMatches.{ArgMatches}
use Rattle.command_line.specs.CommandLine.{HasRows}
use Rattle.command_line.specs.Fault.{IsRejectedBy, IsUnmatched}
use Rattle.command_line.specs.Requests.{IsRequestedBy}
use Rattle.server_orders.specs.ServerLine.{IsServerFault, IsServerOrder, IsServerOrderOf, server_app, server_rules}
use Rattle.server_orders.proofs.Defaults.{of_no_words}
use Rattle.server_orders.proofs.Unmatched.{of_matches, of_same, of_unmatched}
use Rattle.server_orders.proofs.orders.server_order.Goals as goal

-- the table is that of the program
pub matches_of-requires : goal.matches_of-requires
unfolding server_app server_rules
matches_of-requires c = record { simple = subst (λ (app : App). is_simple_and_free app ≡ true) (sym c.lbserver.ensures) refl }

-- the rows of the matches
rows_are : (app : App) (words : List Text) (m : ArgMatches) → HasRows app words m → app ≡ server_app → rows_of (found_of m) ≡ matches_of server_app words
rows_are app words m has same = subst (λ (app : App). rows_of (found_of m) ≡ matches_of app words) same has.0

pub returns-in_err-matches-clause-fault : goal.returns-in_err-matches-clause-fault
returns-in_err-matches-clause-fault c =
    let words = map (λ word. word.now) c.args.words.now in
    let fault = c.in_err-matches.field-0.0 in
    of_same (IsServerFault words) fault c.from_residual.result c.from_residual.ensures.1
    (inl (subst (λ (app : App). IsRejectedBy (fault_of app words) fault) c.lbserver.ensures c.in_err-matches.ensures.fault))

pub returns-in_err-matches-clause-requested : goal.returns-in_err-matches-clause-requested
returns-in_err-matches-clause-requested c =
    let words = map (λ word. word.now) c.args.words.now in
    let fault = c.in_err-matches.field-0.0 in
    of_same (IsRequestedBy (fault_of server_app words)) fault c.from_residual.result c.from_residual.ensures.1
    (subst (λ (app : App). IsRequestedBy (fault_of app words) fault) c.lbserver.ensures c.in_err-matches.ensures.requested)

pub returns-clause-order : goal.returns-clause-order
returns-clause-order c =
    subst (λ (rows : List Row). IfOk c.matched.result (IsServerOrder rows)) (rows_are _ _ _ c.in_ok-matches.ensures.rows c.lbserver.ensures) c.matched.ensures.order

pub returns-clause-no_words : goal.returns-clause-no_words
returns-clause-no_words c =
    of_no_words c.args.words.now (rows_of (found_of c.in_ok-matches.matches)) c.matched.result (rows_are _ _ _ c.in_ok-matches.ensures.rows c.lbserver.ensures) c.matched.ensures.order

pub returns-clause-taken : goal.returns-clause-taken
returns-clause-taken c =
    IfOk-weaker c.matched.result _ _ (λ order is. subst (λ (app : App). fault_of app (map (λ word. word.now) c.args.words.now) ≡ []) c.lbserver.ensures c.in_ok-matches.ensures.taken) c.matched.ensures.order

pub returns-clause-fault : goal.returns-clause-fault
returns-clause-fault c =
    let words = map (λ word. word.now) c.args.words.now in
    of_matches (fault_of server_app words) (IsServerOrderOf words) c.matched.result
    (subst (λ (rows : List Row). IfErr c.matched.result (IsUnmatched (IsServerOrder rows))) (rows_are _ _ _ c.in_ok-matches.ensures.rows c.lbserver.ensures) c.matched.ensures.fault)

pub returns-clause-requested : goal.returns-clause-requested
returns-clause-requested c =
    of_unmatched (fault_of server_app (map (λ word. word.now) c.args.words.now)) (IsServerOrder (rows_of (found_of c.in_ok-matches.matches))) c.matched.result c.matched.ensures.fault
