use Rattle.std.proofs.Common.{◌≡◌, None, inl, inr, refl, ap, sym, ◌∙◌, arith}
use Rattle.railway.specs.declared.exit.Onward.{Onward}
use Rattle.railway.specs.Blocks.{length_of}
use Rattle.railway.specs.Network.{onward, place_of}
use Rattle.railway.specs.Places.{to_end}
use Rattle.railway.proofs.Ways.{not-to}
use Rattle.railway.proofs.track.Track.go_on.Goals as goal

pub returns-then-ahead-gt0-clause-goes : goal.returns-then-ahead-gt0-clause-goes
returns-then-ahead-gt0-clause-goes c =
    let network = c.args.self.now in
    let ahead : c.to_end-ahead.result ≡ to_end (length_of network.blocks c.args.place.block) c.args.place = c.to_end-ahead.ensures.ahead in
    inl (record {
      part = c.min-moved.result;
      within = grind (arith, c.min-moved.ensures);
      in_block = grind (arith, c.min-moved.ensures, ahead);
      there = c.further.ensures;
      rest = refl;
    })

pub returns-in-To-clause-goes : goal.returns-in-To-clause-goes
returns-in-To-clause-goes c = inr (record { on = sym c.onward.ensures.onward ∙ c.in-To.is; rest = omega (arith, c.requires.goes) })

pub returns-in_default : goal.returns-in_default
returns-in_default c =
    let ends : place_of (onward c.args.self.now c.args.place) ≡ None = ap (λ (o : Onward). place_of o) (sym c.onward.ensures.onward) ∙ not-to c.onward.result c.in_default.not-To in
    record { ends = λ _. ends; goes = tt; on_track = tt; less = tt }
