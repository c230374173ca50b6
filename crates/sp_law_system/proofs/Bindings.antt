-- No bindings change no values.
use Rattle.std.proofs.Common.{[], refl}
use Rattle.sp_spec.specs.Term.{Values}
use Rattle.sp_spec.specs.Substitution.{Fixes}

module _ (v : Values) where
  pub Fixes-none : Fixes v []
  Fixes-none x = refl
