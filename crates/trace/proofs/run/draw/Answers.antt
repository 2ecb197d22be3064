use Rattle.std.proofs.Common.{◌≡◌, ◌⊎◌, List, ℕ, subst, sym}
use Rattle.filter.specs.declared.fault.FilterFault.TheVariants.{NoMemory}
use Rattle.trace.specs.Drawn.{Refuses}
use Rattle.trace.specs.Text.{TextParses}
use Rattle.trace.proofs.Whole.{draws, fails, refuses, refuses_none}
use Rattle.trace.proofs.run.draw.Goals as goal

pub returns-in_err-things-clause-refused : goal.returns-in_err-things-clause-refused
returns-in_err-things-clause-refused g c =
    refuses g.D.Drawing.parses c.from_residual-in_err-things.result c.in_err-things.field-0.0 (g.I.Input.left c.args.input.now) (g.I.Input.left c.read_limited.new.input) c.in_ok-text.text.items (g.O.Sink.held c.args.output.now) c.from_residual-in_err-things.ensures.1 c.in_ok-text.ensures.read
    (subst (λ (bs : List ℕ). (c.in_err-things.field-0.0 ≡ NoMemory) ⊎ Refuses g.D.Drawing.parses bs c.in_err-things.field-0.0) c.as_slice.ensures.value c.in_err-things.ensures.fault)

pub returns-clause-drawn : goal.returns-clause-drawn
returns-clause-drawn g c =
    draws g.D.Drawing.parses g.D.Drawing.drawn c.draw.result (g.I.Input.left c.args.input.now) (g.I.Input.left c.read_limited.new.input) c.in_ok-text.text.items c.in_ok-things.things.items c.as_slice-2.result.now (g.O.Sink.held c.args.output.now) (g.O.Sink.held c.draw.new.output) c.in_ok-text.ensures.read
    (subst (λ (bs : List ℕ). TextParses g.D.Drawing.parses bs c.in_ok-things.things.items) c.as_slice.ensures.value c.in_ok-things.ensures.item) c.as_slice-2.ensures.value c.draw.ensures.text

pub returns-clause-refused : goal.returns-clause-refused
returns-clause-refused g c =
    refuses_none g.D.Drawing.parses c.draw.result (g.I.Input.left c.args.input.now) (g.I.Input.left c.read_limited.new.input) c.in_ok-text.text.items c.in_ok-things.things.items (g.O.Sink.held c.args.output.now) (g.O.Sink.held c.draw.new.output) c.in_ok-text.ensures.read
    (subst (λ (bs : List ℕ). TextParses g.D.Drawing.parses bs c.in_ok-things.things.items) c.as_slice.ensures.value c.in_ok-things.ensures.item)

pub returns-in_err-things-clause-failed : goal.returns-in_err-things-clause-failed
returns-in_err-things-clause-failed g c =
    fails g.D.Drawing.parses c.from_residual-in_err-things.result c.in_err-things.field-0.0 (g.I.Input.left c.args.input.now) (g.I.Input.left c.read_limited.new.input) c.in_ok-text.text.items c.from_residual-in_err-things.ensures.1 c.in_ok-text.ensures.read
    (λ things item. c.in_err-things.ensures.exact things (subst (λ (bs : List ℕ). TextParses g.D.Drawing.parses bs things) (sym c.as_slice.ensures.value) item))
