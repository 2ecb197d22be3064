use Rattle.std.proofs.Common.{arith}
use Rattle.std.proofs.lemmas.List.{length-take}
use Rattle.loconet_tcp.proofs.parsing.kept_word.Goals as goal

pub slice_bounds-copied-end : goal.slice_bounds-copied-end
slice_bounds-copied-end c = omega (arith, c.if-word-le-LONGEST_WORD.false, length-take 33 c.args.word.now)

pub copied-requires-else-word-le-LONGEST_WORD : goal.copied-requires-else-word-le-LONGEST_WORD
copied-requires-else-word-le-LONGEST_WORD c = omega (arith, length-take 33 c.args.word.now)
