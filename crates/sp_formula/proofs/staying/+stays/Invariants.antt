use Rattle.std.proofs.Common.{◌≡◌, drop, map}
use Rattle.sp_spec.specs.Guarded.{guardeds_of}
use Rattle.sp_term.specs.Bindings.{bindings}
use Rattle.sp_formula.specs.FormulaView.{formula_of}
use Rattle.sp_formula.specs.Staying.{formulas_stay}
use Rattle.sp_formula.proofs.staying.+stays.Given as goal

abbrev pub invariant-formulas_stay-loop-formula : goal.invariant-formulas_stay-loop-formula
invariant-formulas_stay-loop-formula l =
    formulas_stay (bindings l.subst) l.small l.large (guardeds_of (map formula_of l.formulas.items))
    ≡ formulas_stay (bindings l.subst) l.small l.large (guardeds_of (map formula_of (drop l.formula-index l.formula-items)))
