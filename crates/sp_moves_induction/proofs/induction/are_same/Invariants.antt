use Rattle.std.proofs.Common.{◌≡◌, length, map}
use Rattle.std.specs.Slice.Iter.{iter_rest}
use Rattle.sp_spec.specs.Guarded.{guardeds_of}
use Rattle.sp_formula.specs.FormulaView.{formula_of}
use Rattle.sp_spec.specs.SameFormula.{same_formulas}
use Rattle.sp_moves_induction.proofs.induction.are_same.Given as goal

abbrev pub invariant-loop-f : goal.invariant-loop-f
invariant-loop-f l =
    (same_formulas (guardeds_of (map formula_of l.left.items)) (guardeds_of (map formula_of l.right.items)) ≡ same_formulas (guardeds_of (map formula_of (iter_rest l.f-iterator.a))) (guardeds_of (map formula_of (iter_rest l.f-iterator.b))))
    × (length (iter_rest l.f-iterator.a) ≡ length (iter_rest l.f-iterator.b))
