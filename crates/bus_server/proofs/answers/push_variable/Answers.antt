use Rattle.std.proofs.Common.{◌≡◌, ℕ, List, Option, ◌++◌, length, take, ap, ap₂, sym, ◌∙◌, ◌≤◌, arith}
use Rattle.std.proofs.lemmas.List.{take_all}
use Rattle.loconet_tcp.specs.ClientLines.{change_line, state_text}
use Rattle.programming_track.specs.Bench.{name_at, number_at, value_at}
use Rattle.bus_server.specs.Answers.{line_of_change}
use Rattle.bus_server.proofs.answers.push_variable.Goals as goal

-- the line is not cut
pub returns-in-Some-clause-line : goal.returns-in-Some-clause-line
returns-in-Some-clause-line c =
    let bench = c.args.bench.now in
    let position : ℕ = c.in-Some.position in
    let told : List ℕ = change_line c.as_bytes-name.result.now c.number.result c.value.result in
    let line : List ℕ = change_line (name_at bench position) (number_at position) (value_at bench position) in
    let name = c.as_bytes-name.ensures.value ∙ c.name.ensures.name in
    let same : told ≡ line =
    ap₂ (λ (n : List ℕ) (number : ℕ). change_line n number c.value.result) name c.number.ensures.number
    ∙ ap (λ (value : ℕ). change_line (name_at bench position) (number_at position) value) c.value.ensures in
    let short : length told ≤ 160 = omega (arith, c.push_change.ensures.short) in
    c.push_change.ensures.text
    ∙ ap (λ (text : List ℕ). c.args.text.now.items ++ state_text text) (sym (take_all 160 told short) ∙ ap (take 160) same)
    ∙ ap (λ (found : Option ℕ). c.args.text.now.items ++ line_of_change bench found) (sym c.in-Some.is ∙ c.next_change.ensures.next)
