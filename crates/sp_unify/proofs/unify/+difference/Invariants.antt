use Rattle.std.proofs.Common.{◌≡◌, ◌+◌, length}
use Rattle.std.specs.Slice.Iter.{iter_rest}
use Rattle.sp_spec.specs.Unifier.{differences}
use Rattle.sp_term.specs.View.{view_all}
use Rattle.sp_unify.proofs.unify.+difference.Given as goal

abbrev pub invariant-differences_of-loop-t : goal.invariant-differences_of-loop-t
invariant-differences_of-loop-t l =
    (differences (view_all l.ts.items) (view_all l.us.items) ≡ differences (view_all (iter_rest l.t-iterator.a)) (view_all (iter_rest l.t-iterator.b)))
    × (length l.ts.items + length (iter_rest l.t-iterator.b) ≡ length l.us.items + length (iter_rest l.t-iterator.a))
