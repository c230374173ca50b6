use Rattle.std.proofs.Common.{◌≡◌, map, drop}
use Rattle.sp_formula.specs.FormulaView.{formula_of}
use Rattle.sp_spec_formula.specs.Disjunction as rows
use Rattle.sp_rows_formula.proofs.disjunction.is_among.Given as goal

abbrev pub invariant-loop-other : goal.invariant-loop-other
invariant-loop-other l =
    rows.is_a_formula (map formula_of l.formulas.items) (formula_of l.formula) ≡ rows.is_a_formula (map formula_of (drop l.other-index l.other-items)) (formula_of l.formula)
