use Rattle.std.proofs.Common.{◌≡◌, map, option_map, take}
use Rattle.sp_spec.specs.Formula.{Formula}
use Rattle.sp_read_parts.specs.Formulas.{conjoint, disjoint, chain, formula}
use Rattle.sp_formula.specs.FormulaView.{formula_of}
use Rattle.sp_law_guard.specs.GuardedForm.{guarded_form}
use Rattle.sp_guard.specs.View.{innermost_first}
use Rattle.sp_guard.proofs.form.+form.Given as goal

abbrev pub invariant-and_all-loop-part : goal.invariant-and_all-loop-part
invariant-and_all-loop-part l = (f : Formula) → option_map formula_of l.fn.form ≡ guarded_form (innermost_first l.binders.items) f
    → option_map formula_of l.made ≡ guarded_form (innermost_first l.binders.items) (chain conjoint f (map formula (take l.part-index l.part-items)))

abbrev pub invariant-or_any-loop-part : goal.invariant-or_any-loop-part
invariant-or_any-loop-part l = (f : Formula) → option_map formula_of l.fn.form ≡ guarded_form (innermost_first l.binders.items) f
    → option_map formula_of l.made ≡ guarded_form (innermost_first l.binders.items) (chain disjoint f (map formula (take l.part-index l.part-items)))
