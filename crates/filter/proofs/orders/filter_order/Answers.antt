use Rattle.std.proofs.Common.{◌≡◌, ◌∙◌, [], List, ap, codes, map, subst}
use Rattle.clap.specs.Words.{App, Row, fault_of, first_of, matches_of}
use Rattle.command_line.specs.CommandLine.{program_app, rule_in}
use Rattle.command_line.specs.Fault.{IsRejectedBy}
use Rattle.command_line.specs.Requests.{IsRequestedBy}
use Rattle.filter.specs.FilterLine.{IsFlagIn, filter_app, flag_of}
use Rattle.filter.proofs.Apps.{is_filter_app, of_same}
use Rattle.filter.proofs.orders.filter_order.Goals as goal

pub returns-in_err-matches-clause-fault : goal.returns-in_err-matches-clause-fault
returns-in_err-matches-clause-fault c =
    let words = map (λ word. word.now) c.args.words.now in
    let same = is_filter_app c.args.text (program_app c.program_text.result) (map rule_in c.as_slice.result.now) c.program_text.ensures (ap (map rule_in) c.as_slice.ensures.value ∙ c.arguments_of-arguments.ensures) in
    of_same (IsRejectedBy (fault_of (filter_app c.args.text) words)) c.in_err-matches.field-0.0 c.from_residual.result c.from_residual.ensures.1
    (subst (λ (app : App). IsRejectedBy (fault_of app words) c.in_err-matches.field-0.0) same c.in_err-matches.ensures.fault)

pub returns-in_err-matches-clause-requested : goal.returns-in_err-matches-clause-requested
returns-in_err-matches-clause-requested c =
    let words = map (λ word. word.now) c.args.words.now in
    let same = is_filter_app c.args.text (program_app c.program_text.result) (map rule_in c.as_slice.result.now) c.program_text.ensures (ap (map rule_in) c.as_slice.ensures.value ∙ c.arguments_of-arguments.ensures) in
    of_same (IsRequestedBy (fault_of (filter_app c.args.text) words)) c.in_err-matches.field-0.0 c.from_residual.result c.from_residual.ensures.1
    (subst (λ (app : App). IsRequestedBy (fault_of app words) c.in_err-matches.field-0.0) same c.in_err-matches.ensures.requested)

pub returns-clause-order : goal.returns-clause-order
returns-clause-order c =
    let words = map (λ word. word.now) c.args.words.now in
    let same = is_filter_app c.args.text (program_app c.program_text.result) (map rule_in c.as_slice.result.now) c.program_text.ensures (ap (map rule_in) c.as_slice.ensures.value ∙ c.arguments_of-arguments.ensures) in
    let rows = c.in_ok-matches.ensures.rows.0 ∙ ap (λ (app : App). matches_of app words) same in
    record {
      of_file = c.in_ok-file_name.ensures ∙ ap (λ (rows : List Row). first_of (codes "file") rows) rows;
      with_flag_set = subst (λ (rows : List Row). IsFlagIn (flag_of c.args.text.flag) rows c.is_set.result) rows c.is_set.ensures;
      with_second_set = subst (λ (rows : List Row). IsFlagIn (flag_of c.args.text.second_flag) rows c.is_set-2.result) rows c.is_set-2.ensures;
    }

pub returns-clause-taken : goal.returns-clause-taken
returns-clause-taken c =
    let words = map (λ word. word.now) c.args.words.now in
    let same = is_filter_app c.args.text (program_app c.program_text.result) (map rule_in c.as_slice.result.now) c.program_text.ensures (ap (map rule_in) c.as_slice.ensures.value ∙ c.arguments_of-arguments.ensures) in
    subst (λ (app : App). fault_of app words ≡ []) same c.in_ok-matches.ensures.taken
