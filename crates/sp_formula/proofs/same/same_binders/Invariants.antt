use Rattle.std.proofs.Common.{◌≡◌, length, map}
use Rattle.std.specs.Slice.Iter.{iter_rest}
use Rattle.sp_formula.specs.FormulaView.{binder_of}
use Rattle.sp_spec.specs.SameFormula.{same_binders}
use Rattle.sp_formula.proofs.same.same_binders.Given as goal

abbrev pub invariant-loop-b : goal.invariant-loop-b
invariant-loop-b l =
    (same_binders (map binder_of l.left.items) (map binder_of l.right.items) ≡ same_binders (map binder_of (iter_rest l.b-iterator.a)) (map binder_of (iter_rest l.b-iterator.b)))
    × (length (iter_rest l.b-iterator.a) ≡ length (iter_rest l.b-iterator.b))
