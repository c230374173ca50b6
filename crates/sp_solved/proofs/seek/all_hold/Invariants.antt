use Rattle.std.proofs.Common.{◌≡◌, map, drop}
use Rattle.std.specs.List.{list_all}
use Rattle.sp_formula.specs.FormulaView.{formula_of}
use Rattle.sp_fact.specs.GroundView.{trace_of}
use Rattle.sp_law_decide.specs.Deciding.{decided, empty}
use Rattle.sp_solved.proofs.seek.all_hold.Given as goal

abbrev pub invariant-loop-formula : goal.invariant-loop-formula
invariant-loop-formula l =
    list_all (decided (trace_of l.trace) empty) (map formula_of l.formulas.items)
    ≡ list_all (decided (trace_of l.trace) empty) (map formula_of (drop l.formula-index l.formulas.items))
