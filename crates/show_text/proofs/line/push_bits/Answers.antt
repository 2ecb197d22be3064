use Rattle.std.proofs.Common.{◌+◌, ◌++◌, ◌∷◌, [], length, ap, sym, ◌∙◌, arith, append_assoc, length-append}
use Rattle.std.proofs.lemmas.List.{append-nil}
use Rattle.std.specs.Int.{bit_at}
use Rattle.show_text.specs.Lines.{bits_text}
use Rattle.show_text.proofs.Bits.{length-bits_text, no_bits, one_more_bit}
use Rattle.show_text.proofs.line.push_bits.Goals as goal

pub loop-k-init : goal.loop-k-init
loop-k-init c = sym (ap (λ bs. c.args.line.now.bytes ++ bs) (no_bits c.args.bits) ∙ append-nil c.args.line.now.bytes)

pub push_ascii-requires : goal.push_ascii-requires
push_ascii-requires c =
    omega (arith, ap length c.loop-k.invariant, length-append c.args.line.now.bytes (bits_text c.loop-k.k c.args.bits), length-bits_text c.loop-k.k c.args.bits, c.loop-k-test.true)

pub loop-k-preserved : goal.loop-k-preserved
loop-k-preserved c =
    c.push_ascii.ensures ∙ ap (λ bs. bs ++ (48 + bit_at c.args.bits c.loop-k.k) ∷ []) c.loop-k.invariant
    ∙ append_assoc c.args.line.now.bytes (bits_text c.loop-k.k c.args.bits) _ ∙ ap (λ bs. c.args.line.now.bytes ++ bs) (sym (one_more_bit c.loop-k.k c.args.bits))
