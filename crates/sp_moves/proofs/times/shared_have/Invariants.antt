use Rattle.std.proofs.Common.{◌≡◌, map, drop}
use Rattle.sp_formula.specs.FormulaView.{formula_of}
use Rattle.sp_moves.specs.Times.{formulas_have}
use Rattle.sp_moves.proofs.times.shared_have.Given as goal

abbrev pub invariant-loop-formula : goal.invariant-loop-formula
invariant-loop-formula l = formulas_have l.time (map formula_of l.formulas.items) ≡ formulas_have l.time (map formula_of (drop l.formula-index l.formula-items))
