use Rattle.std.proofs.Common.{◌≡◌, ◌++◌, drop, map}
use Rattle.sp_formula.specs.FormulaView.{formula_of}
use Rattle.sp_law_induction.specs.Covering.{safe_among}
use Rattle.sp_hypothesis.proofs.cases.safe_among.Given as goal

abbrev pub invariant-loop-restriction : goal.invariant-loop-restriction
invariant-loop-restriction l =
    map formula_of l.made.items ++ safe_among (map formula_of (drop l.restriction-index l.restriction-items)) ≡ safe_among (map formula_of l.restrictions.items)
