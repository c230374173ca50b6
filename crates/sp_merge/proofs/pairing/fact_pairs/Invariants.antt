use Rattle.std.proofs.Common.{map}
use Rattle.std.specs.Slice.Iter.{iter_rest}
use Rattle.sp_spec_system.specs.Equating.{fact_pair}
use Rattle.sp_fact.specs.View.{fact_of}
use Rattle.sp_unify.specs.View.{pair_view}
use Rattle.sp_merge.proofs.Pairs.{Gathered}
use Rattle.sp_merge.proofs.pairing.fact_pairs.Given as goal

abbrev pub invariant-loop-f : goal.invariant-loop-f
invariant-loop-f l = Gathered (λ f g. fact_pair (fact_of f) (fact_of g)) l.left.items l.right.items (map pair_view l.made.items) (iter_rest l.f-iterator.a) (iter_rest l.f-iterator.b)
