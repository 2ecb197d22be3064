-- What a call finds, for C.
use Rattle.std.specs.Prelude.{◌≡◌, Bool, true, false, Option, Some, is_some}

-- What is found, if anything is, is written over the old value. Otherwise the old one stays.
pub record Overwrites {T : Type 0} (found : Option T) (written : Bool) (old new : T) : Type 0 where
  pub done : written ≡ is_some found
  pub value : written ≡ true → found ≡ Some new
  pub untouched : written ≡ false → new ≡ old
