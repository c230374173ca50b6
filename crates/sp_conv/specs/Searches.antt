-- What the searches for two equations that clash find.
use Rattle.std.specs.Prelude.{◌<◌, ℕ, List}
use Rattle.sp_spec.specs.Lists.{AtPlace}
use Rattle.sp_spec.specs.Signature.{Equation}
use Rattle.sp_spec.specs.Substitution.{Binding}
use Rattle.sp_law_conv.specs.Clash.{DoClash, DoClashBy}

-- no equation behind the place clashes with the first
pub record NoneClashesBehind (es : List Equation) (j : ℕ) (first : Equation) : Type 0 where
  pub none : (k : ℕ) (e : Equation) → j < k → AtPlace es k e → DoClash first e → ⊥

-- the equation at the place k, behind j, clashes with the first by these bindings, and none between does
pub record IsFirstBehind (es : List Equation) (j : ℕ) (first : Equation) (k : ℕ) (bs : List Binding) : Type 0 where
  pub second : Equation
  pub stands : AtPlace es k second
  pub behind : j < k
  pub clash : DoClashBy first second bs
  pub none_between : (l : ℕ) (e : Equation) → j < l → l < k → AtPlace es l e → DoClash first e → ⊥

-- no two equations clash
pub record NoTwoClash (es : List Equation) : Type 0 where
  pub none : (j k : ℕ) (d e : Equation) → AtPlace es j d → AtPlace es k e → j < k → DoClash d e → ⊥
