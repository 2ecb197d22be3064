use Rattle.std.proofs.Common.{◌≡◌, ◌≢◌, Bool, true, false, Option, Some, codes, ap, subst}
use Rattle.std.specs.Prelude.{MatchBool, MatchOption}
use Rattle.std.specs.Str.Parse.{ParsesBool}
use Rattle.clap.specs.Words.{Text, found_of}
use Rattle.clap.proofs.WalkLemmas.{one_text-rows}
use Rattle.command_line.specs.Values.{HasNone, IsFlag}
use Rattle.command_line.proofs.Found.{read_one}
use Rattle.command_line.proofs.values.flag.Goals as goal

-- the text of a value that is read, and of one that is not
written : (text : Text) (flag : Bool) → MatchBool flag (text ≡ codes "true") (text ≡ codes "false") → IsFlag (Some text) flag
written text true is = ap Some is
written text false is = ap Some is

unwritten : (text : Text) → (text ≢ codes "true") × (text ≢ codes "false") → HasNone (IsFlag (Some text))
unwritten text neither true is = neither.0 cc
unwritten text neither false is = neither.1 cc

pub returns : goal.returns
returns c = subst (λ (o : Option Text). MatchOption c.get_one.result (HasNone (IsFlag o)) (IsFlag o)) (one_text-rows (found_of c.args.found.now) c.args.id.now)
    (read_one ParsesBool IsFlag _ c.get_one.result c.get_one.ensures.none c.get_one.ensures.value written (λ t e neither. unwritten t neither) (λ flag is. absurd cc))
