use Rattle.std.proofs.Common.{rules, ◌≡◌, ◌++◌}
use Rattle.std.specs.Prelude.{IsTrue}
use Rattle.explain.specs.HexText.{hex_line_of, hex_text}
use Rattle.text.specs.Lines.{is_open}
use Rattle.explain.proofs.LogLines.{last}
use Rattle.explain.proofs.hex.hex_text.Goals as goal

pub returns : goal.returns
returns c =
    let no_end : IsTrue (is_open c.loop-line.rest.now) = search rules in
    let so_far : c.loop-line.text.items ++ hex_text c.loop-line.rest.now ≡ hex_text c.args.log.now = c.loop-line.invariant in
    let pushed : c.push_line-2.new.text.items ≡ c.loop-line.text.items ++ hex_line_of c.loop-line.rest.now = search rules in
    record { text = last c.loop-line.text.items c.push_line-2.new.text.items c.loop-line.rest.now c.args.log.now no_end so_far pushed }
