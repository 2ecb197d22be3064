use Rattle.std.proofs.Common.{Option, subst}
use Rattle.std.specs.Prelude.{MatchOption}
use Rattle.std.specs.Net.Grammar.{IsIpv4Text, Parses}
use Rattle.clap.specs.Words.{Text, found_of}
use Rattle.clap.proofs.WalkLemmas.{one_text-rows}
use Rattle.command_line.specs.Values.{HasNone, IsAddress}
use Rattle.command_line.proofs.Found.{read_one}
use Rattle.command_line.proofs.values.address.Goals as goal

pub returns : goal.returns
returns c = subst (λ (o : Option Text). MatchOption c.get_one.result (HasNone (IsAddress o)) (IsAddress o)) (one_text-rows (found_of c.args.found.now) c.args.id.now)
    (read_one (Parses IsIpv4Text) IsAddress _ c.get_one.result c.get_one.ensures.none c.get_one.ensures.value (λ t a written. written) (λ t e none. none) (λ a is. is))
