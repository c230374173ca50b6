use Rattle.std.proofs.Common.{◌≡◌, drop, map}
use Rattle.sp_spec.specs.Guarded.{guardeds_of}
use Rattle.sp_formula.specs.FormulaView.{formula_of}
use Rattle.sp_law_induction.specs.Hypothesis.{are_safety}
use Rattle.sp_hypothesis.proofs.safety.+is_safety.Given as goal

abbrev pub invariant-are_safety-loop-part : goal.invariant-are_safety-loop-part
invariant-are_safety-loop-part l = are_safety (guardeds_of (map formula_of l.parts.items)) ≡ are_safety (guardeds_of (map formula_of (drop l.part-index l.part-items)))
