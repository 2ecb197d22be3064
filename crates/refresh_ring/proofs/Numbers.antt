-- Kinds and their numbers.
use Rattle.std.proofs.Common.{◌≡◌, ◌<◌, refl, sym, ap, ◌∙◌, arith}
use Rattle.refresh_ring.specs.Places.{kinds, number_of, kind_at}
use Rattle.refresh_ring.specs.declared.kind.Kind.{Kind}
use Rattle.refresh_ring.specs.declared.kind.Kind.TheVariants.{Speed, GroupOne, GroupTwo, GroupThree}

pub number_of-low : (kind : Kind) → number_of kind < kinds
number_of-low Speed = omega arith
number_of-low GroupOne = omega arith
number_of-low GroupTwo = omega arith
number_of-low GroupThree = omega arith

pub kind_at-number : (kind : Kind) → kind_at (number_of kind) ≡ kind
kind_at-number Speed = refl
kind_at-number GroupOne = refl
kind_at-number GroupTwo = refl
kind_at-number GroupThree = refl

pub number_of-same : (a b : Kind) → number_of a ≡ number_of b → a ≡ b
number_of-same a b e = sym (kind_at-number a) ∙ ap kind_at e ∙ kind_at-number b
