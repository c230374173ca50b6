use Rattle.std.proofs.Common.{◌≡◌, drop, map}
use Rattle.std.specs.List.{list_any}
use Rattle.sp_formula.specs.FormulaView.{formula_of}
use Rattle.sp_moves_decide.specs.Sought.{formula_has}
use Rattle.sp_moves_decide.specs.SoughtView.{sought_of}
use Rattle.sp_moves_decide.proofs.occurring.some_formula_has.Given as goal

abbrev pub invariant-loop-formula : goal.invariant-loop-formula
invariant-loop-formula l =
    list_any (formula_has (sought_of l.sought)) (map formula_of l.formulas.items)
    ≡ list_any (formula_has (sought_of l.sought)) (map formula_of (drop l.formula-index l.formula-items))
