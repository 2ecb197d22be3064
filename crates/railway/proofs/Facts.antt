-- Small facts that several proofs use.
use Rattle.std.proofs.Common.{◌≡◌, ◌||◌, Bool, true, false, not, Some, None, refl}
use Rattle.railway.specs.declared.block.End.{End}
use Rattle.railway.specs.declared.block.End.TheVariants.{A, B}
use Rattle.railway.specs.declared.train.Place.{Place}
use Rattle.railway.specs.Blocks.{other}

pub some-same : (p q : Place) → Some p ≡ Some q → p ≡ q
some-same p q h = cc

pub none-some : (q : Place) → None ≡ Some q → ⊥
none-some q h = cc

pub not-both : (b : Bool) → b ≡ true → b ≡ false → ⊥
not-both true h g = cc
not-both false h g = cc

pub or-right-true : (one two : Bool) → two ≡ true → (one || two) ≡ true
or-right-true true two h = refl
or-right-true false two h = h

pub or-left-true : (one two : Bool) → one ≡ true → (one || two) ≡ true
or-left-true true two h = refl
or-left-true false two h = cc

pub or-left : (one two : Bool) → (one || two) ≡ false → one ≡ false
or-left true two h = h
or-left false two h = refl

pub or-right : (one two : Bool) → (one || two) ≡ false → two ≡ false
or-right true two h = cc
or-right false two h = h

pub or-none : (one two : Bool) → one ≡ false → two ≡ false → (one || two) ≡ false
or-none true two h g = h
or-none false two h g = g

pub not-from : (b : Bool) → b ≡ false → not b ≡ true
not-from true h = cc
not-from false h = refl

pub other-other : (end : End) → other (other end) ≡ end
other-other A = refl
other-other B = refl
