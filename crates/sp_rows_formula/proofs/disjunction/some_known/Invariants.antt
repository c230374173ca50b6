use Rattle.std.proofs.Common.{◌≡◌, map, drop}
use Rattle.sp_spec.specs.Guarded.{guardeds_of}
use Rattle.sp_formula.specs.FormulaView.{formula_of}
use Rattle.sp_system.specs.SystemView.{system_of}
use Rattle.sp_spec_formula.specs.Disjunction as rows
use Rattle.sp_rows_formula.proofs.disjunction.some_known.Given as goal

abbrev pub invariant-loop-part : goal.invariant-loop-part
invariant-loop-part l =
    rows.some_known (system_of l.system) (guardeds_of (map formula_of l.parts.items)) ≡ rows.some_known (system_of l.system) (guardeds_of (map formula_of (drop l.part-index l.part-items)))
