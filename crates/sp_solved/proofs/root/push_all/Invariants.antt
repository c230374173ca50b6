use Rattle.std.proofs.Common.{◌≡◌, map, drop, ◌++◌}
use Rattle.sp_formula.specs.FormulaView.{formula_of}
use Rattle.sp_solved.proofs.root.push_all.Given as goal

abbrev pub invariant-loop-formula : goal.invariant-loop-formula
invariant-loop-formula l =
    map formula_of l.formulas.items ++ map formula_of (drop l.formula-index l.more.items)
    ≡ map formula_of l.fn.formulas.items ++ map formula_of l.more.items
