use Rattle.std.proofs.Common.{◌≡◌, ◌-◌, ◌∷◌, ℕ, List, length, length-drop, take, drop, ap, ap₂, sym, ◌∙◌, arith}
use Rattle.std.proofs.lemmas.List.{take_all}
use Rattle.std.specs.List.{position_or_len}
use Rattle.explain.specs.Parts.{is_opcode, parts_of}
use Rattle.explain.proofs.Cuts.{part_cut}
use Rattle.explain.proofs.parts.cut_part.Goals as goal

pub returns-clause-parts : goal.returns-clause-parts
returns-clause-parts c =
    let bytes = c.args.bytes.now in
    let rest : take (length bytes - 1) (drop 1 bytes) ≡ drop 1 bytes = take_all (length bytes - 1) (drop 1 bytes) (omega (arith, length-drop 1 bytes)) in
    let len = c.data_len.ensures.len ∙ ap (λ (xs : List ℕ). position_or_len is_opcode xs) rest in
    part_cut bytes c.data_len.result c.requires len ∙ ap₂ (λ (front back : List ℕ). front ∷ parts_of back) (sym c.split_at.ensures.front) (sym c.split_at.ensures.back)
