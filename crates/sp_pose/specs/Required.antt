-- What the code keeps of a restriction.
use Rattle.std.specs.Prelude.{ℕ, List, [], ◌∷◌, ◌++◌, Option, Some, None}
use Rattle.sp_spec.specs.Theory.{Restriction}
use Rattle.sp_spec.specs.Guarded.{Guarded}
use Rattle.sp_law_guard.specs.CheckedForm.{checked_form}
use Rattle.sp_formula.specs.FormulaView.{formula_of}
use Rattle.sp_pose.specs.declared.problem.GuardedRestriction.{GuardedRestriction}

-- a restriction by its guarded form
pub record Required : Type 0 where
  pub name : List ℕ
  pub form : Guarded

abbrev pub required_of : GuardedRestriction → Required
required_of r = record { name = r.name.now; form = formula_of r.form }

-- of a restriction of this name, where its formula has a guarded form
abbrev pub required_by : List ℕ → Option Guarded → List Required
required_by name (Some g) = (let r : Required = record { name = name; form = g } in r) ∷ []
required_by name None = []

abbrev pub all_required : List Restriction → List Required
all_required [] = []
all_required (r ∷ rs) = required_by r.name (checked_form r.formula) ++ all_required rs
