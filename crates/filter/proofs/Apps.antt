-- The command line of a filter, and the faults of its arguments.
use Rattle.std.proofs.Common.{◌≡◌, List, Result, Ok, Err, false, refl, subst, sym}
use Rattle.std.specs.Prelude.{IfErr, IsErrAnd}
use Rattle.clap.specs.Words.{App, Rule}
use Rattle.command_line.specs.declared.fault.OrderFault.{OrderFault}
use Rattle.command_line.specs.CommandLine.{named_app, with_rules}
use Rattle.filter.specs.declared.text.FilterText.{FilterText}
use Rattle.filter.specs.FilterLine.{filter_app, filter_rules}

pub is_filter_app : (text : FilterText) (app : App) (rules : List Rule) → app ≡ with_rules (named_app text.name.now false) rules → rules ≡ filter_rules text → app ≡ filter_app text
unfolding filter_app
is_filter_app text app rules is same = rw (is, same) refl

-- a fault that is passed on
pub of_same : {A : Type 0} (Is : OrderFault → Type 0) (fault : OrderFault) (r : Result A OrderFault) → IsErrAnd r (λ actual. actual ≡ fault) → Is fault → IfErr r Is
of_same Is fault (Ok a) same is = tt
of_same Is fault (Err actual) same is = subst Is (sym same) is
