use Rattle.std.proofs.Common.{map}
use Rattle.std.specs.Slice.Iter.{iter_rest}
use Rattle.sp_unify.specs.View.{pair_view}
use Rattle.sp_merge.proofs.Pairs.{Gathered, term_pair}
use Rattle.sp_merge.proofs.pairing.argument_pairs.Given as goal

abbrev pub invariant-loop-t : goal.invariant-loop-t
invariant-loop-t l = Gathered term_pair l.left.items l.right.items (map pair_view l.made.items) (iter_rest l.t-iterator.a) (iter_rest l.t-iterator.b)
