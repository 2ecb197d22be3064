use Rattle.std.proofs.Common.{◌<◌, ◌+◌, ◌++◌, ◌∙◌, ◌∷◌, [], ap, arith, length}
use Rattle.std.proofs.lemmas.List.{length_push}
use Rattle.lbserver.proofs.Sharing.{first_of, next_share}
use Rattle.lbserver.proofs.shares.shares_in.Goals as goal

pub loop-i-preserved : goal.loop-i-preserved
loop-i-preserved c =
    let entries = c.args.roster.now in
    let within : c.loop-i.i < length entries = omega (arith, c.loop-i-test.true, c.len-i-end.ensures.count) in
    let none = first_of entries c.loop-i.i within in
    record {
      shares = next_share c.args.shares.now entries c.loop-i.i c.loop-i.all.items c.push.new.self.items c.name.result.now none within c.loop-i.invariant.shares (c.name.ensures.value none)
          (c.push.ensures.items ∙ ap (λ share. c.loop-i.all.items ++ share ∷ []) c.share_for.ensures);
      count = ap length c.push.ensures.items ∙ length_push c.loop-i.all.items _ ∙ ap (λ n. n + 1) c.loop-i.invariant.count;
    }
