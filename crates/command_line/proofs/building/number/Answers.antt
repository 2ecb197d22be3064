use Rattle.std.proofs.Common.{rules, ◌≡◌, ℕ, ◌<◌, ◌^◌, ap, ap₂, ◌∙◌, arith}
use Rattle.std.specs.Prelude.{Some, Option, pos}
use Rattle.std.proofs.lemmas.Bool.Decides.{nat_tests}
use Rattle.std.specs.Range.{range_inclusive_start, range_inclusive_end}
use Rattle.std.specs.Int.{int_max, int_min}
use Rattle.clap.specs.Words.{Rule, rule_of, signed_between}
use Rattle.clap.specs.declared.builder.value_parser.ValueParser.{ValueParser}
use Rattle.clap.specs.declared.builder.value_parser.ValueParser.TheVariants as vp
use Rattle.command_line.proofs.building.number.Goals as goal

-- the range within the numbers of 32 bits
narrowed : (least most : ℕ) → least < 2 ^ 32 → most < 2 ^ 32 → signed_between (int_max (pos 0) (pos least)) (int_min (pos 4294967295) (pos most)) ≡ vp.Signed (pos least) (pos most)
narrowed least most small few = grind (arith, nat_tests)

pub returns-clause-rule : goal.returns-clause-rule
returns-clause-rule c =
    let range = c.new-range.result in
    let from_least : range_inclusive_start range ≡ pos c.args.least = search rules in
    let to_most : range_inclusive_end range ≡ pos c.args.most = search rules in
    let cut : c.range.result ≡ signed_between (int_max (pos 0) (range_inclusive_start range)) (int_min (pos 4294967295) (range_inclusive_end range)) = rw c.value_parser.ensures at c.range.ensures in
    let small : c.args.least < 2 ^ 32 = omega (arith, c.ranges.least.fits) in
    let few : c.args.most < 2 ^ 32 = omega (arith, c.ranges.most.fits) in
    let made : c.range.result ≡ vp.Signed (pos c.args.least) (pos c.args.most) =
    cut ∙ ap₂ (λ a b. signed_between (int_max (pos 0) a) (int_min (pos 4294967295) b)) from_least to_most ∙ narrowed c.args.least c.args.most small few in
    let given = c.value_parser-2.ensures.given in
    let parser : c.value_parser-2.result.value_parser ≡ Some (vp.Signed (pos c.args.least) (pos c.args.most)) = given.1 ∙ ap Some (given.2 ∙ made) in
    let with_parser : Option ValueParser → Rule = λ p. record (rule_of c.option.result) { parser = p } in
    ap rule_of {y = record c.option.result { value_parser = c.value_parser-2.result.value_parser }} c.value_parser-2.ensures.others ∙ ap with_parser parser ∙ ap (λ (r : Rule). record r { parser = Some (vp.Signed (pos c.args.least) (pos c.args.most)) }) c.option.ensures.rule
