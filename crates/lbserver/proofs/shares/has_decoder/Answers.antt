use Rattle.std.proofs.Common.{◌≡◌, ◌<◌, ◌+◌, ◌∙◌, ℕ, Bool, List, true, false, arith, ap, drop, length, map, sym}
use Rattle.std.specs.Prelude.{◌||◌, slice_index_or}
use Rattle.std.specs.Str.{bytes_eq}
use Rattle.roster.specs.Entry.{name_of}
use Rattle.lbserver.specs.Sharing.{is_known}
use Rattle.lbserver.proofs.Sharing.{first_of, next_known}
use Rattle.lbserver.proofs.shares.has_decoder.Goals as goal

pub returns-then-eq : goal.returns-then-eq
returns-then-eq c =
    let entries = c.args.roster.now in
    let name : List ℕ = c.args.name.now in
    let within : c.loop-i.i < length entries = omega (arith, c.loop-i-test.true, c.len-i-end.ensures.count) in
    let none = first_of entries c.loop-i.i within in
    let same : bytes_eq name (name_of (slice_index_or entries c.loop-i.i none)) ≡ true = ap (bytes_eq name) (sym (c.name.ensures.value none)) ∙ sym c.eq.ensures ∙ c.if-eq.true in
    sym (next_known entries c.loop-i.i name none within ∙ ap (λ (b : Bool). b || is_known (map name_of (drop (c.loop-i.i + 1) entries)) name) same) ∙ c.loop-i.invariant

pub loop-i-preserved : goal.loop-i-preserved
loop-i-preserved c =
    let entries = c.args.roster.now in
    let name : List ℕ = c.args.name.now in
    let within : c.loop-i.i < length entries = omega (arith, c.loop-i-test.true, c.len-i-end.ensures.count) in
    let none = first_of entries c.loop-i.i within in
    let other : bytes_eq name (name_of (slice_index_or entries c.loop-i.i none)) ≡ false = ap (bytes_eq name) (sym (c.name.ensures.value none)) ∙ sym c.eq.ensures ∙ c.if-eq.false in
    sym (next_known entries c.loop-i.i name none within ∙ ap (λ (b : Bool). b || is_known (map name_of (drop (c.loop-i.i + 1) entries)) name) other) ∙ c.loop-i.invariant
