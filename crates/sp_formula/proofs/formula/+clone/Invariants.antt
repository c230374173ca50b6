use Rattle.std.proofs.Common.{◌≡◌, take, map}
use Rattle.sp_formula.specs.FormulaView.{formula_of}
use Rattle.sp_formula.proofs.formula.+clone.Given as goal

abbrev pub invariant-all_cloned-loop-formula : goal.invariant-all_cloned-loop-formula
invariant-all_cloned-loop-formula l = map formula_of l.made.items ≡ map formula_of (take l.formula-index l.formula-items)
