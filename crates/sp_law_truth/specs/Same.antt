-- Traces and assignments that are the same modulo the equations.
use Rattle.std.specs.Prelude.{◌≡◌, ℕ, List}
use Rattle.sp_spec.specs.Term.{Variable}
use Rattle.sp_spec.specs.Signature.{Equation}
use Rattle.sp_spec.specs.Equal.{Equal}
use Rattle.sp_spec.specs.Rule.{Action, SameAction}
use Rattle.sp_spec.specs.Execution.{Trace}
use Rattle.sp_spec.specs.Guarded.{Assignment}
use Rattle.sp_law_equal.specs.Pointwise.{EachWith}

-- action by action
abbrev pub SameActions : List Equation → List (Action ⊥) → List (Action ⊥) → Type 0
SameActions es = EachWith (SameAction es)

-- entry by entry
abbrev pub EqualTraces : List Equation → Trace → Trace → Type 0
EqualTraces es = EachWith (SameActions es)

-- the same times, and equal messages
pub record EqualAssignments (es : List Equation) (m w : Assignment) : Type 0 where
  pub terms : (x : Variable) → Equal es (m.terms x) (w.terms x)
  pub times : (i : ℕ) → m.times i ≡ w.times i
  pub bound_terms : (k : ℕ) → Equal es (m.bound_terms k) (w.bound_terms k)
  pub bound_times : (k : ℕ) → m.bound_times k ≡ w.bound_times k
