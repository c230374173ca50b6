use Rattle.std.proofs.Common.{map}
use Rattle.std.specs.Slice.Iter.{iter_rest}
use Rattle.sp_spec_system.specs.Equating.{action_pair}
use Rattle.sp_fact.specs.View.{action_of}
use Rattle.sp_unify.specs.View.{pair_view}
use Rattle.sp_merge.proofs.Pairs.{Gathered}
use Rattle.sp_merge.proofs.pairing.action_pairs.Given as goal

abbrev pub invariant-loop-a : goal.invariant-loop-a
invariant-loop-a l = Gathered (λ a b. action_pair (action_of a) (action_of b)) l.left.items l.right.items (map pair_view l.made.items) (iter_rest l.a-iterator.a) (iter_rest l.a-iterator.b)
