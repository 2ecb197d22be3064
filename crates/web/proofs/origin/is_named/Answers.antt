use Rattle.std.proofs.Common.{◌≡◌, ◌<◌, ◌||◌, ◌∙◌, ℕ, Bool, List, String, Global, length, map, get_or, string_bytes, ap, ap₂, sym, arith}
use Rattle.std.proofs.lemmas.List.{get_or-map, length-map}
use Rattle.web.specs.Origins.{is_name}
use Rattle.web.proofs.Naming.{any_found, any_more}
use Rattle.web.proofs.origin.is_named.Goals as goal

pub returns-then-is_name-2 : goal.returns-then-is_name-2
returns-then-is_name-2 c =
    let bytes : String Global → List ℕ = λ name. string_bytes name in
    let names = c.args.names.now in
    let i = c.loop-name.name-index in
    let item = c.name-item.result in
    let f : List ℕ → Bool = λ name. is_name name c.args.host.now in
    let below : i < length names = c.loop-name-test.true in
    let inside : i < length (map bytes names) = omega (arith, below, length-map names bytes) in
    let here : get_or (map bytes names) i (bytes item) ≡ c.as_bytes.result.now = get_or-map bytes names i item (bytes item) below ∙ sym (ap bytes c.name-item.is) ∙ sym c.as_bytes.ensures.value in
    let found = any_found f (map bytes names) i (bytes item) inside (ap f here ∙ sym c.is_name-in-loop-name.ensures ∙ c.if-is_name-2.true) in
    sym (ap₂ (λ (first rest : Bool). first || rest) c.loop-name.invariant.localhost (sym c.loop-name.invariant.rest ∙ found))

pub loop-name-preserved : goal.loop-name-preserved
loop-name-preserved c =
    let bytes : String Global → List ℕ = λ name. string_bytes name in
    let names = c.args.names.now in
    let i = c.loop-name.name-index in
    let item = c.name-item.result in
    let f : List ℕ → Bool = λ name. is_name name c.args.host.now in
    let below : i < length names = c.loop-name-test.true in
    let inside : i < length (map bytes names) = omega (arith, below, length-map names bytes) in
    let here : get_or (map bytes names) i (bytes item) ≡ c.as_bytes.result.now = get_or-map bytes names i item (bytes item) below ∙ sym (ap bytes c.name-item.is) ∙ sym c.as_bytes.ensures.value in
    record {
      localhost = c.loop-name.invariant.localhost;
      rest = any_more f (map bytes names) i (bytes item) inside (ap f here ∙ sym c.is_name-in-loop-name.ensures ∙ c.if-is_name-2.false) ∙ c.loop-name.invariant.rest;
    }
