-- A new layout whose station is refused.
use Rattle.std.proofs.Common.{◌≡◌, Result, Ok, Err, ap, sym, subst, ◌∙◌}
use Rattle.std.specs.Prelude.{IfErr, IfOk}
use Rattle.std.specs.Result.{IsErrAnd}

same_error : {T E : Type 0} (made : Result T E) (fault other : E) → made ≡ Err fault → made ≡ Err other → fault ≡ other
same_error made fault other first second = cc

module _ {T U E : Type 0} where
  pub refused_so : (made : Result T E) (result : Result U E) (fault other : E) → IsErrAnd result (λ e. e ≡ fault) → made ≡ Err fault → made ≡ Err other → result ≡ Err other
  refused_so made (Ok x) fault other is was said = absurd is
  refused_so made (Err e) fault other is was said = ap Err (is ∙ same_error made fault other was said)

module _ {U E : Type 0} where
  pub refused_ok : (result : Result U E) (fault : E) (P : U → Type 0) → IsErrAnd result (λ e. e ≡ fault) → IfOk result P
  refused_ok (Ok x) fault P is = absurd is
  refused_ok (Err e) fault P is = tt

  pub refused_err : (result : Result U E) (fault : E) (P : E → Type 0) → IsErrAnd result (λ e. e ≡ fault) → P fault → IfErr result P
  refused_err (Ok x) fault P is holds = absurd is
  refused_err (Err e) fault P is holds = subst P (sym is) holds
