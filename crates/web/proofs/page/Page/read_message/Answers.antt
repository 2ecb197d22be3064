use Rattle.std.proofs.Common.{Err, refl, subst}
use Rattle.tungstenite.specs.Socket.{Reads}
use Rattle.web.proofs.Receiving.{hears-failure}
use Rattle.web.proofs.page.Page.read_message.Goals as goal

pub returns-in-Some-clause-no_text : goal.returns-in-Some-clause-no_text
returns-in-Some-clause-no_text g c =
    hears-failure (λ s. g.S.Read.remaining s.stream) c.args.self.now.socket c.read.new.self c.in-Err.error
    (subst (λ r. Reads (λ s. g.S.Read.remaining s.stream) c.args.self.now.socket c.read.new.self r) c.in-Err.is c.read.ensures) c.in-Some.ensures.some

pub returns-in-None-clause-last : goal.returns-in-None-clause-last
returns-in-None-clause-last g c = λ none. (
  c.read.new.self,
  Err c.in-Err.error,
  subst (λ r. Reads (λ s. g.S.Read.remaining s.stream) c.args.self.now.socket c.read.new.self r) c.in-Err.is c.read.ensures,
  c.in-None.ensures.none refl,
)
