use Rattle.std.proofs.Common.{◌≡◌, ◌<◌, ℕ, ◌∙◌, [], List, length, true, false, arith, sym, ap, ◌+◌, map, drop, add-one}
use Rattle.std.specs.List.{slice_index_or}
use Rattle.std.specs.Str.{bytes_eq}
use Rattle.decoder_node.specs.declared.node.NodeSpec.TheVariants.{Accessory}
use Rattle.roster.specs.Entry.{Entry, name_of}
use Rattle.railway_plan.specs.Format.{index_from}
use Rattle.railway_plan.proofs.Finding.{found, found_later}
use Rattle.railway_plan.proofs.names.decoder_index.Goals as goal

-- an entry for places that are not in the roster
no_entry : Entry
no_entry = record { name = []; spec = Accessory 1 }

pub returns-then-eq : goal.returns-then-eq
returns-then-eq c =
    let within : c.loop-i.i < length c.args.roster.now = omega (arith, c.loop-i-test.true, c.len-i-end.ensures.count) in
    let same : bytes_eq c.args.name.now (name_of (slice_index_or c.args.roster.now c.loop-i.i no_entry)) ≡ true = ap (λ (name : List ℕ). bytes_eq c.args.name.now name) (sym (c.name.ensures.value no_entry)) ∙ sym c.eq.ensures ∙ c.if-eq.true in
    sym (found c.args.roster.now c.loop-i.i c.loop-i.i c.args.name.now no_entry within same) ∙ c.loop-i.invariant

pub loop-i-preserved : goal.loop-i-preserved
loop-i-preserved c =
    let within : c.loop-i.i < length c.args.roster.now = omega (arith, c.loop-i-test.true, c.len-i-end.ensures.count) in
    let other : bytes_eq c.args.name.now (name_of (slice_index_or c.args.roster.now c.loop-i.i no_entry)) ≡ false = ap (λ (name : List ℕ). bytes_eq c.args.name.now name) (sym (c.name.ensures.value no_entry)) ∙ sym c.eq.ensures ∙ c.if-eq.false in
    ap (λ (n : ℕ). index_from (c.loop-i.i + 1) (map name_of (drop n c.args.roster.now)) c.args.name.now) (add-one c.loop-i.i)
    ∙ sym (found_later c.args.roster.now c.loop-i.i c.loop-i.i c.args.name.now no_entry within other)
    ∙ c.loop-i.invariant
