use Rattle.std.proofs.Common.{List, ℕ, ◌∙◌, drop, take, subst, sym}
use Rattle.std.proofs.lemmas.List.{drop-drop, take_rest}
use Rattle.std.specs.Io.KnownBytes.{Appends}
use Rattle.console.proofs.Buffering.{written_more}
use Rattle.console.proofs.buffered.Buffered.write_out.Goals as goal

pub loop-self-preserved : goal.loop-self-preserved
loop-self-preserved g c =
    let o = g.O.Sink.held c.loop-self.self.output.now in
    let p = g.O.Sink.held c.put.new.self in
    let items = c.loop-self.self.waiting.items in
    let written = c.loop-self.self.written in
    let count = c.in_ok-count.count in
    record {
      kept =
          written_more _ o p (drop written items) _ count c.loop-self.invariant.kept
          (subst (λ (bs : List ℕ). Appends o p (take count (drop written bs))) c.as_slice.ensures.value (simp take_rest at c.in_ok-count.ensures.bytes))
          (sym (drop-drop count written items));
      failed = c.in_ok-count.ensures.failed_ok ∙ c.loop-self.invariant.failed;
      same = c.loop-self.invariant.same;
    }
