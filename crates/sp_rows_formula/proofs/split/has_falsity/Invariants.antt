use Rattle.std.proofs.Common.{◌≡◌, map, drop}
use Rattle.sp_formula.specs.FormulaView.{formula_of}
use Rattle.sp_spec_formula.specs.Split as rows
use Rattle.sp_rows_formula.proofs.split.has_falsity.Given as goal

abbrev pub invariant-loop-formula : goal.invariant-loop-formula
invariant-loop-formula l = rows.has_falsity (map formula_of l.formulas.items) ≡ rows.has_falsity (map formula_of (drop l.formula-index l.formula-items))
