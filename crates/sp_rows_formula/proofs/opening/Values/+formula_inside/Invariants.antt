use Rattle.std.proofs.Common.{◌≡◌, take, map}
use Rattle.sp_spec.specs.Change.{changed}
use Rattle.sp_formula.specs.FormulaView.{formula_of}
use Rattle.sp_rows_formula.specs.InsideView.{inside_of}
use Rattle.sp_rows_formula.specs.OpeningView.{change_of}
use Rattle.sp_rows_formula.proofs.opening.Values.+formula_inside.Given as goal

abbrev pub invariant-formulas_inside-loop-formula : goal.invariant-formulas_inside-loop-formula
invariant-formulas_inside-loop-formula l =
    map formula_of l.made.items ≡ map (changed (inside_of l.inside (change_of l.self))) (map formula_of (take l.formula-index l.formula-items))
