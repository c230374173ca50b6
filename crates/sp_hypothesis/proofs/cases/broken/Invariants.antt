use Rattle.std.proofs.Common.{◌≡◌, drop, map, None, option_map}
use Rattle.sp_formula.specs.FormulaView.{formula_of}
use Rattle.sp_hypothesis.specs.Broken.{broken_after}
use Rattle.sp_hypothesis.proofs.cases.broken.Given as goal

abbrev pub invariant-loop-restriction : goal.invariant-loop-restriction
invariant-loop-restriction l =
    broken_after (option_map formula_of l.made) (map formula_of (drop l.restriction-index l.restriction-items)) ≡ broken_after None (map formula_of l.restrictions.items)
