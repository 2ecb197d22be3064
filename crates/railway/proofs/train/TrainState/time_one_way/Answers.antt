use Rattle.std.proofs.Common.{◌≡◌, Option, true, ap, subst, sym, ◌∙◌}
use Rattle.decoder_node.specs.declared.running.Running.{Running}
use Rattle.motion.specs.Velocity.{goes_only}
use Rattle.motion.specs.declared.velocity.Drive.{Drive}
use Rattle.railway.specs.Laws.{asked_of}
use Rattle.railway.specs.Trains.{drive_of}
use Rattle.railway.proofs.Straight.{leg-straight, straight-on}
use Rattle.railway.proofs.train.TrainState.time_one_way.Goals as goal

pub returns-then-not-turns_round-clause-one_way : goal.returns-then-not-turns_round-clause-one_way
returns-then-not-turns_round-clause-one_way c k less =
    straight-on c.args.world.now.nodes k c.args.self.now
    (sym c.turns_round.ensures ∙ c.if-not-turns_round.true)

pub returns-clause-one_way : goal.returns-clause-one_way
returns-clause-one_way c k less =
    let t = c.args.self.now in
    let nodes = c.args.world.now.nodes in
    let drive : c.drive-drive.result ≡ asked_of nodes t = c.drive-drive.ensures.drive ∙ ap (λ (running : Option Running). drive_of t running) c.running.ensures in
    leg-straight c.leg.result.velocity.forward nodes k c.leg.result.micros t less
    (subst (λ (d : Drive). goes_only c.leg.result.velocity.forward d c.leg.result.micros t.velocity ≡ true) drive c.leg.ensures.leg.one_way)
