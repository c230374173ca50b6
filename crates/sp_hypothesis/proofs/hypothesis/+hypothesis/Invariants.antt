use Rattle.std.proofs.Common.{◌≡◌, map}
use Rattle.sp_formula.specs.FormulaView.{formula_of}
use Rattle.sp_law_induction.specs.Hypothesis.{hypothesis}
use Rattle.sp_hypothesis.proofs.hypothesis.+hypothesis.Given as goal

abbrev pub invariant-each_hypothesis-loop-part : goal.invariant-each_hypothesis-loop-part
invariant-each_hypothesis-loop-part l = map formula_of l.made.items ≡ map hypothesis (map formula_of l.yielded)
