-- One kind of finding on the uses of variables in a formula, as the code looks for it.
use Rattle.std.specs.Prelude.{ℕ, Bool, true, false, not, List, [], ◌∷◌, Option, Some, None}
use Rattle.sp_spec.specs.Formula.{Mark, Written}
use Rattle.sp_law_guard.specs.GuardedForm.{Meant}
use Rattle.sp_law_guard.specs.CheckedForm.{fits}
use Rattle.sp_finding.specs.Finding.{Finding, without_binder, other_sort, mixed_at, told}
use Rattle.sp_wf_formulas.specs.FormulaFindings.{Role, as_message, as_time, Use, uses_as, is_unbound, is_mixed}
use Rattle.sp_wf_formulas.specs.declared.uses.Role as memory
use Rattle.sp_wf_formulas.specs.declared.uses.Role.TheVariants as r
use Rattle.sp_wf_formulas.specs.declared.uses.Sought as wanted
use Rattle.sp_wf_formulas.specs.declared.uses.Sought.TheVariants as s

pub data Kind : Type 0 where
  unbound : Kind
  of_other_sort : Kind
  mixed : Kind

abbrev pub sought_view : wanted.Sought → Kind
sought_view s.Unbound = unbound
sought_view s.OtherSort = of_other_sort
sought_view s.Mixed = mixed

abbrev pub role_view : memory.Role → Role
role_view r.Message = as_message
role_view r.Time = as_time

abbrev pub is_sought : Kind → Role → Mark → Option Meant → Bool
is_sought unbound role mark means = is_unbound means
is_sought of_other_sort role mark means = not (fits mark means)
is_sought mixed role mark means = is_mixed role means

abbrev pub said : Kind → List ℕ → List ℕ → Finding
said unbound n x = without_binder n x
said of_other_sort n x = other_sort n x
said mixed n x = mixed_at n x

abbrev pub sought : Kind → List ℕ → List Use → List Finding
sought k n [] = []
sought k n (u ∷ us) = told (is_sought k u.role u.variable.mark u.means) (said k n u.variable.name) (sought k n us)

-- of variables that are used in one role
abbrev pub used : Kind → List ℕ → Role → List Written → List Written → List Finding
used k n role bs xs = sought k n (uses_as role bs xs)

abbrev pub is_there : {A : Type 0} → Option A → Bool
is_there None = false
is_there (Some x) = true
