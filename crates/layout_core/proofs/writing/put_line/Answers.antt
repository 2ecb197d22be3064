use Rattle.std.proofs.Common.{◌≡◌, ℕ, List, [], ◌∷◌, rules, subst}
use Rattle.std.proofs.KnownBytes.{Appends-trans}
use Rattle.std.proofs.lemmas.Result.{on_err_weaker, on_ok_weaker}
use Rattle.std.specs.Io.KnownBytes.{Appends}
use Rattle.layout_core.specs.Faults.{AppendsFront}
use Rattle.layout_core.proofs.ThrottleView.{front_of_both, front_of_first, on_err}
use Rattle.layout_core.proofs.writing.put_line.Goals as goal

-- the line itself was written
text : (g : _) (c : goal.After-put_all-2 g) → Appends (g.K.Sink.held c.args.sink.now) (g.K.Sink.held c.put_all.new.output) c.args.line.now.bytes
text g c =
    let same : c.as_bytes.result.now ≡ c.args.line.now.bytes = search rules in
    subst (λ (bs : List ℕ). Appends (g.K.Sink.held c.args.sink.now) (g.K.Sink.held c.put_all.new.output) bs) same c.in_ok-put_all.ensures.all

pub returns-clause-part : goal.returns-clause-part
returns-clause-part g c = on_err_weaker c.put_all-2.result (front_of_both _ _ _ c.args.line.now.bytes (10 ∷ []) (text g c)) c.put_all-2.ensures.front

pub returns-clause-all : goal.returns-clause-all
returns-clause-all g c = on_ok_weaker c.put_all-2.result (Appends-trans _ _ _ c.args.line.now.bytes (10 ∷ []) (text g c)) c.put_all-2.ensures.all

pub returns-in_err-put_all-clause-part : goal.returns-in_err-put_all-clause-part
returns-in_err-put_all-clause-part g c =
    let same : c.as_bytes.result.now ≡ c.args.line.now.bytes = search rules in
    let front : AppendsFront (g.K.Sink.held c.args.sink.now) (g.K.Sink.held c.put_all.new.output) [] c.args.line.now.bytes =
    subst (λ (bs : List ℕ). AppendsFront (g.K.Sink.held c.args.sink.now) (g.K.Sink.held c.put_all.new.output) [] bs) same c.in_err-put_all.ensures.front in
    on_err c.from_residual.result (front_of_first _ _ c.args.line.now.bytes (10 ∷ []) front)
