use Rattle.std.proofs.Common.{◌≡◌, map, drop}
use Rattle.sp_formula.specs.FormulaView.{formula_of}
use Rattle.sp_system.specs.SystemView.{system_of}
use Rattle.sp_spec_system.specs.Picked as rows
use Rattle.sp_spec_formula.specs.Instantiate as instantiate
use Rattle.sp_rows_formula.proofs.instantiate.first_instance.Given as goal

abbrev pub invariant-loop-formula : goal.invariant-loop-formula
invariant-loop-formula l =
    rows.first_some (instantiate.new_instance (system_of l.system)) (map formula_of l.system.formulas.items)
    ≡ rows.first_some (instantiate.new_instance (system_of l.system)) (map formula_of (drop l.formula-index l.formula-items))
