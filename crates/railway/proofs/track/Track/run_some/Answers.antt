use Rattle.std.proofs.Common.{◌≡◌, ◌-◌, refl, ap, sym, ◌∙◌, arith}
use Rattle.railway.specs.declared.exit.Onward.TheVariants.{To, BufferStop, Against}
use Rattle.railway.specs.declared.train.TrainState.{TrainState}
use Rattle.railway.specs.Blocks.{length_of}
use Rattle.railway.specs.Network.{off_rails, onward, run_on}
use Rattle.railway.specs.Places.{to_end}
use Rattle.railway.proofs.Ways.{rear-stands, run_on-derailed, run_on-part, run_on-stands, run_on-step, step-onward}
use Rattle.railway.proofs.track.Track.run_some.Goals as goal

-- A derailed train stays where it is.
pub returns-then-is_derailed-clause-run : goal.returns-then-is_derailed-clause-run
unfolding run_on
returns-then-is_derailed-clause-run c = run_on-derailed c.args.self.now c.args.train.now c.args.way (sym c.is_derailed.ensures.derailed ∙ c.if-is_derailed.true)

pub returns-then-ahead-gt0-clause-run : goal.returns-then-ahead-gt0-clause-run
returns-then-ahead-gt0-clause-run c =
    let network = c.args.self.now in
    let train = c.args.train.now in
    let front : c.to_end.result ≡ to_end (length_of network.blocks train.front.block) train.front = c.to_end.ensures.ahead in
    let rear : c.to_end-2.result ≡ to_end (length_of network.blocks train.rear.block) train.rear = c.to_end-2.ensures.ahead in
    run_on-part network train c.min-moved.result c.args.way (sym c.is_derailed.ensures.derailed ∙ c.if-is_derailed.false)
    (grind (arith, c.min-moved.ensures)) (grind (arith, c.min-moved.ensures, c.min-ahead.ensures, front)) (grind (arith, c.min-moved.ensures, c.min-ahead.ensures, rear))
    ∙ ap (λ (t : TrainState). run_on network t (c.args.way - c.min-moved.result)) (sym c.go.ensures)

pub returns-in-BufferStop-clause-run : goal.returns-in-BufferStop-clause-run
unfolding run_on
returns-in-BufferStop-clause-run c =
    let network = c.args.self.now in
    let train = c.args.train.now in
    let stop : onward network train.front ≡ BufferStop = sym c.onward.ensures.onward ∙ c.in-BufferStop.is in
    run_on-stands network train c.args.way (step-onward network train BufferStop (onward network train.rear) (sym c.is_derailed.ensures.derailed ∙ c.if-is_derailed.false) stop refl)

pub returns-in-Against-clause-run : goal.returns-in-Against-clause-run
unfolding run_on
returns-in-Against-clause-run c =
    let network = c.args.self.now in
    let train = c.args.train.now in
    let derailed : TrainState = off_rails network train.front train in
    let against : onward network train.front ≡ Against = sym c.onward.ensures.onward ∙ c.in-Against.is in
    run_on-step network train derailed c.args.way c.requires.goes (step-onward network train Against (onward network train.rear) (sym c.is_derailed.ensures.derailed ∙ c.if-is_derailed.false) against refl)
    ∙ run_on-derailed network derailed (c.args.way - 1) refl
    ∙ sym c.off_rails.ensures

pub returns-in-To-onward-clause-run : goal.returns-in-To-onward-clause-run
returns-in-To-onward-clause-run c =
    let network = c.args.self.now in
    let train = c.args.train.now in
    let next : TrainState = record train { front = c.in-To.front; rear = c.in-To-onward.rear } in
    run_on-step network train next c.args.way c.requires.goes
    (step-onward network train (To c.in-To.front) (To c.in-To-onward.rear) (sym c.is_derailed.ensures.derailed ∙ c.if-is_derailed.false) (sym c.onward.ensures.onward ∙ c.in-To.is) (sym c.onward-in-To.ensures.onward ∙ c.in-To-onward.is))

pub returns-in_default : goal.returns-in_default
unfolding run_on
returns-in_default c =
    let network = c.args.self.now in
    let train = c.args.train.now in
    let stands = step-onward network train (To c.in-To.front) c.onward-in-To.result (sym c.is_derailed.ensures.derailed ∙ c.if-is_derailed.false) (sym c.onward.ensures.onward ∙ c.in-To.is) (sym c.onward-in-To.ensures.onward)
    ∙ rear-stands network train c.in-To.front c.onward-in-To.result c.in_default.not-To in
    record { run = run_on-stands network train c.args.way stands; within = c.requires.within; less = c.requires.goes }
