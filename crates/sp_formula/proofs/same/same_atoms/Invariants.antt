use Rattle.std.proofs.Common.{◌≡◌, length, map}
use Rattle.std.specs.Slice.Iter.{iter_rest}
use Rattle.sp_formula.specs.FormulaView.{atom_of}
use Rattle.sp_spec.specs.SameFormula.{same_atoms}
use Rattle.sp_formula.proofs.same.same_atoms.Given as goal

abbrev pub invariant-loop-a : goal.invariant-loop-a
invariant-loop-a l =
    (same_atoms (map atom_of l.left.items) (map atom_of l.right.items) ≡ same_atoms (map atom_of (iter_rest l.a-iterator.a)) (map atom_of (iter_rest l.a-iterator.b)))
    × (length (iter_rest l.a-iterator.a) ≡ length (iter_rest l.a-iterator.b))
