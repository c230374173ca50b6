use Rattle.std.proofs.Common.{◌≡◌, drop, map}
use Rattle.sp_spec.specs.Guarded.{guardeds_of}
use Rattle.sp_formula.specs.FormulaView.{formula_of}
use Rattle.sp_moves_decide.specs.Sought.{formulas_have}
use Rattle.sp_moves_decide.specs.SoughtView.{sought_of}
use Rattle.sp_moves_decide.proofs.occurring.+formula_has.Given as goal

abbrev pub invariant-formulas_have-loop-formula : goal.invariant-formulas_have-loop-formula
invariant-formulas_have-loop-formula l =
    formulas_have (sought_of l.sought) (guardeds_of (map formula_of l.formulas.items))
    ≡ formulas_have (sought_of l.sought) (guardeds_of (map formula_of (drop l.formula-index l.formula-items)))
