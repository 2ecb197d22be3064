use Rattle.std.proofs.Common.{rules, ◌≡◌, Bool, Some, false, subst, sym}
use Rattle.std.specs.Prelude.{unwrap_or}
use Rattle.clap.specs.Words.{found_of, rows_of}
use Rattle.filter.specs.FilterLine.{IsFlagIn, flag_of}
use Rattle.filter.proofs.Flags.{of_flag}
use Rattle.filter.proofs.orders.is_set.Goals as goal

pub returns-in-Some : goal.returns-in-Some
returns-in-Some c =
    let rows = rows_of (found_of c.args.found.now) in
    let is : c.unwrap_or.result ≡ unwrap_or c.flag.result false = search rules in
    let given : c.args.text ≡ Some c.in-Some.text = search rules in
    subst (λ (set : Bool). IsFlagIn (flag_of c.args.text) rows set) (sym is) (of_flag c.args.text c.in-Some.text rows c.flag.result given c.flag.ensures)
