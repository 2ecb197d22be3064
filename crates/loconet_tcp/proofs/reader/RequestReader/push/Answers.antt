use Rattle.std.proofs.Common.{ap, ◌∙◌}
use Rattle.loconet_tcp.specs.Reading.{requests_of, kept_after}
use Rattle.loconet_tcp.proofs.Lines.{further, requests-open, open-after}
use Rattle.loconet_tcp.proofs.reader.RequestReader.push.Goals as goal

pub returns-clause-further : goal.returns-clause-further
returns-clause-further c z =
    rw (c.take.ensures.given, c.take.ensures.kept) (further c.args.self.now c.args.byte z c.take.ensures.open c.take.ensures.few)

pub returns-clause-open_ended : goal.returns-clause-open_ended
returns-clause-open_ended c =
    ap requests_of c.take.ensures.kept ∙ requests-open (kept_after c.args.self.now c.args.byte) (open-after c.args.self.now c.args.byte c.take.ensures.open)
