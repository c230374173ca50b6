use Rattle.std.proofs.Common.{◌≡◌, drop, map}
use Rattle.std.specs.List.{list_any}
use Rattle.sp_formula.specs.FormulaView.{formula_of}
use Rattle.sp_spec_proof.specs.Deciding.{tells_apart}
use Rattle.sp_undecided.proofs.times.are_told.Given as goal

abbrev pub invariant-loop-formula : goal.invariant-loop-formula
invariant-loop-formula l =
    list_any (tells_apart l.first l.second) (map formula_of l.formulas.items)
    ≡ list_any (tells_apart l.first l.second) (map formula_of (drop l.formula-index l.formula-items))
