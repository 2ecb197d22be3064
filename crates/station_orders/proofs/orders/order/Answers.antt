use Rattle.std.proofs.Common.{rules, ◌≡◌, ◌∙◌, [], false, true, ◌==◌, length, map, refl, subst, sym}
use Rattle.std.proofs.lemmas.Result.{IfOk-weaker}
use Rattle.clap.specs.Words.{App, fault_of, is_simple_and_free, subcommand_of, subcommand_rows_of}
use Rattle.command_line.specs.Fault.{IsRejectedBy}
use Rattle.station_orders.specs.StationLine.{monitor_app, replay_app, serve_app, station_app}
use Rattle.station_orders.proofs.Nonempty.{of_fault, of_order, of_rejection, put_to_clap}
use Rattle.station_orders.proofs.orders.order.Goals as goal

-- the table is that of the program
pub matches_of-requires : goal.matches_of-requires
unfolding station_app replay_app monitor_app serve_app
matches_of-requires c = record { simple = subst (λ (app : App). is_simple_and_free app ≡ true) (sym c.station.ensures) refl }

pub returns-in_err-matches-clause-fault : goal.returns-in_err-matches-clause-fault
returns-in_err-matches-clause-fault c =
    let some : (length c.args.words.now == 0) ≡ false = search rules in
    let fault = c.in_err-matches.field-0.0 in
    of_rejection c.args.words.now fault c.from_residual.result some c.from_residual.ensures.1
    (subst (λ (app : App). IsRejectedBy (fault_of app (map (λ word. word.now) c.args.words.now)) fault) c.station.ensures c.in_err-matches.ensures.fault)

pub returns-clause-order : goal.returns-clause-order
returns-clause-order c =
    let some : (length c.args.words.now == 0) ≡ false = search rules in
    let rows = subcommand_rows_of c.in_ok-matches.matches in
    of_order c.args.words.now rows c.matched.result some
    (subst (λ (app : App). rows ≡ subcommand_of app (map (λ word. word.now) c.args.words.now)) c.station.ensures c.in_ok-matches.ensures.rows.1) c.matched.ensures.order

pub returns-clause-taken : goal.returns-clause-taken
returns-clause-taken c =
    let some : (length c.args.words.now == 0) ≡ false = search rules in
    let taken = subst (λ (app : App). fault_of app (map (λ word. word.now) c.args.words.now) ≡ []) c.station.ensures c.in_ok-matches.ensures.taken in
    IfOk-weaker c.matched.result _ _ (λ order is. sym (put_to_clap c.args.words.now some) ∙ taken) c.matched.ensures.order

pub returns-clause-fault : goal.returns-clause-fault
returns-clause-fault c =
    let some : (length c.args.words.now == 0) ≡ false = search rules in
    let rows = subcommand_rows_of c.in_ok-matches.matches in
    of_fault c.args.words.now rows c.matched.result some
    (subst (λ (app : App). rows ≡ subcommand_of app (map (λ word. word.now) c.args.words.now)) c.station.ensures c.in_ok-matches.ensures.rows.1) c.matched.ensures.fault
