use Rattle.std.proofs.Common.{◌≡◌, ◌++◌, map}
use Rattle.std.specs.Slice.Iter.{iter_rest}
use Rattle.sp_unify.specs.View.{pair_view}
use Rattle.sp_merge.proofs.Pairs.{common}
use Rattle.sp_merge.proofs.merging.common_pairs.Given as goal

abbrev pub invariant-loop-t : goal.invariant-loop-t
invariant-loop-t l = map pair_view l.made.items ++ common (iter_rest l.t-iterator.a) (iter_rest l.t-iterator.b) ≡ common l.left.items l.right.items
