-- What the test of a theory's equations answers. Source: Tamarin manual, "Cryptographic messages" (user-defined functions and equations).
use Rattle.std.specs.Prelude.{◌≡◌, ◌⊎◌, ◌<◌, ℕ, List}
use Rattle.sp_spec.specs.Lists.{AtPlace}
use Rattle.sp_spec.specs.Signature.{Symbol, Equation}
use Rattle.sp_spec.specs.Substitution.{Binding}
use Rattle.sp_law_conv.specs.Clash.{DoClash, DoClashBy}
use Rattle.sp_law_conv.specs.Accepted.{HasPrivateConstant, HasWrongShape, AreAccepted}
use Rattle.sp_term.specs.Bindings.{bindings}
use Rattle.sp_conv.specs.declared.check.Checked.{Checked}
use Rattle.sp_conv.specs.declared.check.Checked.TheVariants.{Accepted, Faulty}
use Rattle.sp_conv.specs.declared.check.EquationFault.{EquationFault}
use Rattle.sp_conv.specs.declared.check.EquationFault.TheVariants.{WrongShape, PrivateConstant, Clash}

-- so it is of the equation at this place, counted from 0, and of none before it
pub record IsFirst (P : Equation → Type 0) (es : List Equation) (k : ℕ) : Type 0 where
  pub equation : Equation
  pub stands : AtPlace es k equation
  pub is_so : P equation
  pub none_before : (j : ℕ) (e : Equation) → j < k → AtPlace es j e → P e → ⊥

-- so it is of no equation
abbrev pub IsOfNone : (Equation → Type 0) → List Equation → Type 0
IsOfNone P es = (k : ℕ) (e : Equation) → AtPlace es k e → P e → ⊥

-- the equations at these places clash by these bindings, and no two of which the first stands before, or is the same and the second stands before
pub record IsFirstClash (es : List Equation) (j k : ℕ) (bs : List Binding) : Type 0 where
  pub first : Equation
  pub second : Equation
  pub first_stands : AtPlace es j first
  pub second_stands : AtPlace es k second
  pub in_order : j < k
  pub clash : DoClashBy first second bs
  pub none_before : (i l : ℕ) (d e : Equation) → AtPlace es i d → AtPlace es l e → i < l → (i < j) ⊎ ((i ≡ j) × (l < k)) → DoClash d e → ⊥

-- One equation has a wrong shape, the first that has; or none has, and one has a private constant; or each is well formed, and two clash.
abbrev pub IsFaultOf : List Symbol → List Equation → EquationFault → Type 0
IsFaultOf symbols es (WrongShape k) = IsFirst (HasWrongShape symbols es) es k
IsFaultOf symbols es (PrivateConstant k) = IsOfNone (HasWrongShape symbols es) es × IsFirst (HasPrivateConstant symbols es) es k
IsFaultOf symbols es (Clash j k unifier) =
    (IsOfNone (HasWrongShape symbols es) es × IsOfNone (HasPrivateConstant symbols es) es) × IsFirstClash es j k (bindings unifier)

-- the equations are accepted, or this is wrong with them
abbrev pub IsVerdictOn : List Symbol → List Equation → Checked → Type 0
IsVerdictOn symbols es Accepted = AreAccepted symbols es
IsVerdictOn symbols es (Faulty fault) = IsFaultOf symbols es fault
