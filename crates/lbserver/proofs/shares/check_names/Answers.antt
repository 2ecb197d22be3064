use Rattle.std.proofs.Common.{◌≡◌, ◌∙◌, Bool, Some, ap, inr, option_map, refl, sym, true, false}
use Rattle.std.specs.Prelude.{if◌then◌else◌}
use Rattle.roster.specs.Decoders.{entries_of, names_of}
use Rattle.lbserver.specs.Sharing.{first_unknown}
use Rattle.lbserver.proofs.Sharing.{are_named}
use Rattle.lbserver.proofs.shares.check_names.Goals as goal

pub returns-in_ok-from_str-in-Some-clause-fault : goal.returns-in_ok-from_str-in-Some-clause-fault
returns-in_ok-from_str-in-Some-clause-fault c =
    let names = names_of (entries_of c.args.roster) in
    let unknown : first_unknown names c.args.shares.now ≡ Some c.in-Some.name.now = sym c.first_unknown.ensures ∙ ap (option_map (λ name. name.now)) c.in-Some.is in
    inr (c.in_ok-from_str-in-Some.field-0, unknown ∙ ap Some (sym c.in_ok-from_str-in-Some.ensures.ok), refl)

pub returns-in_ok-from_str-in-Some-clause-end : goal.returns-in_ok-from_str-in-Some-clause-end
returns-in_ok-from_str-in-Some-clause-end c =
    let names = names_of (entries_of c.args.roster) in
    let unknown : first_unknown names c.args.shares.now ≡ Some c.in-Some.name.now = sym c.first_unknown.ensures ∙ ap (option_map (λ name. name.now)) c.in-Some.is in
    (refl, ap (λ (b : Bool). if b then true else false) (are_named names c.args.shares.now c.in-Some.name.now unknown), refl, refl)
