use Rattle.std.proofs.Common.{◌≡◌, ◌≤◌, ℕ, List, length, take, min, ap, arith, sym, ◌∙◌}
use Rattle.std.proofs.lemmas.List.{drop-drop}
use Rattle.web.proofs.Pieces.{given-parts}
use Rattle.web.proofs.lines.ReceivedLine.copy_into.Goals as goal

fits : (rest held : List ℕ) (room count : ℕ) → rest ≡ held → count ≡ min (length rest) room → count ≤ length held
fits rest held room count is least = omega (arith, ap length is, least)

pub returns-clause-given : goal.returns-clause-given
returns-clause-given c =
    let items = c.self.inside.line.items in
    let count = c.min-count.result in
    given-parts c.args.self.now c.args.room.now _ _ count
    (fits c.rest-rest.result.now c.args.self.now _ count c.rest-rest.ensures.bytes c.min-count.ensures)
    (c.copy_from_slice.ensures.after ∙ ap (take count) c.rest-rest.ensures.bytes)
    (rw (← c.self.view_is) (sym (drop-drop count c.self.inside.at items)))
