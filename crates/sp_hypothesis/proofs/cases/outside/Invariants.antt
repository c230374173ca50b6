use Rattle.std.proofs.Common.{◌≡◌, ◌++◌, drop, map}
use Rattle.sp_formula.specs.FormulaView.{formula_of}
use Rattle.sp_law_induction.specs.Covering.{safe_among}
use Rattle.sp_hypothesis.proofs.cases.outside.Given as goal

abbrev pub invariant-loop-lemma : goal.invariant-loop-lemma
invariant-loop-lemma l =
    map formula_of l.made.items ++ map formula_of (drop l.lemma-index l.lemma-items) ≡ safe_among (map formula_of l.restrictions.items) ++ map formula_of l.taken.items
