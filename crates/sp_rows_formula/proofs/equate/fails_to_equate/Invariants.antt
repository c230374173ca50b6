use Rattle.std.proofs.Common.{◌≡◌, map, drop}
use Rattle.sp_formula.specs.FormulaView.{formula_of}
use Rattle.sp_system.specs.SystemView.{system_of}
use Rattle.sp_spec_formula.specs.Equate as rows
use Rattle.sp_rows_formula.proofs.equate.fails_to_equate.Given as goal

abbrev pub invariant-loop-formula : goal.invariant-loop-formula
invariant-loop-formula l = rows.fails_to_equate (system_of l.system) (system_of l.system).formulas ≡ rows.fails_to_equate (system_of l.system) (map formula_of (drop l.formula-index l.formula-items))
