use Rattle.std.proofs.Common.{◌≡◌, ◌&&◌, ◌∙◌, [], Bool, true, false, ap, map, refl, subst}
use Rattle.clap.specs.Kinds.{HasKind}
use Rattle.clap.specs.Words.{App, HasMatchesOf, fault_of, is_simple, is_simple_and_free}
use Rattle.command_line.specs.CommandLine.{program_app}
use Rattle.command_line.proofs.Faults.{of_rejected, of_rejection}
use Rattle.command_line.proofs.parsing.matches_of.Goals as goal

first : (a b : Bool) → (a && b) ≡ true → a ≡ true
first true b both = refl
first false b both = cc

simple : (app : App) → is_simple_and_free app ≡ true → is_simple app ≡ true
simple app = first (is_simple app) _

pub returns-clause-rows : goal.returns-clause-rows
returns-clause-rows c =
    let words = map (λ word. word.now) c.args.words.now in
    let m = c.in_ok-try_get_matches_from.field-0 in
    let has = subst (λ (app : App). HasMatchesOf app words m) c.in_ok-command.ensures c.in_ok-try_get_matches_from.ensures.matches in
    has (simple (program_app c.args.text.now) c.requires.simple)

pub returns-clause-taken : goal.returns-clause-taken
returns-clause-taken c =
    let words = map (λ word. word.now) c.args.words.now in
    let free = ap is_simple_and_free c.in_ok-command.ensures ∙ c.requires.simple in
    subst (λ (app : App). fault_of app words ≡ []) c.in_ok-command.ensures (c.in_ok-try_get_matches_from.ensures.kinds free)

pub returns-in_err-try_get_matches_from-clause-fault : goal.returns-in_err-try_get_matches_from-clause-fault
returns-in_err-try_get_matches_from-clause-fault c =
    let words = map (λ word. word.now) c.args.words.now in
    let error = c.in_err-try_get_matches_from.field-0.0 in
    let free = ap is_simple_and_free c.in_ok-command.ensures ∙ c.requires.simple in
    of_rejection (fault_of (program_app c.args.text.now) words) error c.from_residual-in_err-try_get_matches_from.result c.from_residual-in_err-try_get_matches_from.ensures.1
    (subst (λ (app : App). HasKind (fault_of app words) error) c.in_ok-command.ensures (c.in_err-try_get_matches_from.ensures.kinds free))

pub returns-in_err-try_get_matches_from-clause-requested : goal.returns-in_err-try_get_matches_from-clause-requested
returns-in_err-try_get_matches_from-clause-requested c =
    let words = map (λ word. word.now) c.args.words.now in
    of_rejected (fault_of (program_app c.args.text.now) words) c.from_residual-in_err-try_get_matches_from.result (returns-in_err-try_get_matches_from-clause-fault c)
